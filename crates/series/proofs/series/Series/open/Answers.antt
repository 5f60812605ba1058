use Rattle.std.proofs.Common.{◌≡◌, ℕ, ◌≤◌, Bool, false, not, eqb, ltb, List, length, None}
use Rattle.std.proofs.lemmas.Bool.{or_parts, ltb-false}
use Rattle.market.specs.Refusals.{first_hit}
use Rattle.market.specs.declared.row.Row.{Row}
use Rattle.market.specs.declared.units.Millis.{Millis}
use Rattle.rules.specs.Calls.{opening, checks}
use Rattle.rules.specs.Series.{State}
use Rattle.order_table.specs.Orders.{orders}
use Rattle.order_table.proofs.Records.{table_live}
use Rattle.series.specs.Phases.{running}
use Rattle.series.specs.State.{state}
use Rattle.series.proofs.Answering.{all_clear}
use Rattle.series.proofs.Opening.{quiet_before, few_orders, priced_top, held_after}
use Rattle.series.proofs.series.Series.open.Goals as goal

-- what an accepted opening may count on
record Accepted (st : State) (t : Millis) (rows : List Row) : Type 0 where
  before : st.trading ≡ false
  timely : t.count ≤ 86400000
  room : 192 ≤ length rows

accepted : (st : State) (pass : ℕ) (t : Millis) (w : Bool) (rows : List Row) → None ≡ first_hit (checks st (opening pass t w rows)) → Accepted st t rows
accepted st pass t w rows e =
    let h = all_clear (checks st (opening pass t w rows)) e in
    record {
      before = (or_parts (not (eqb pass st.number)) st.trading h.0).1;
      timely = ltb-false 86400000 t.count (or_parts (ltb t.count st.time) (ltb 86400000 t.count) h.1.0).1;
      room = ltb-false (length rows) 192 h.1.1.0;
    }

pub match_orders-count-requires : goal.match_orders-count-requires
match_orders-count-requires g c =
    let a = c.args in
    let s = a.self.now in
    let os = orders s.table in
    let k = accepted (state s) a.pass.series a.time a.waived a.rows.now c.in-Ok.ensures in
    let none = quiet_before s.phase k.before in
    record {
      few = few_orders (running s.phase) os s.table.records.next none (table_live s.table) s.held;
      room = k.room;
      price = priced_top os s.close.price.value c.top-opening.result c.top-opening.ensures;
    }

pub invariant_of-self-in-Ok : goal.invariant_of-self-in-Ok
invariant_of-self-in-Ok g c =
    let a = c.args in
    let s = a.self.now in
    let os = orders s.table in
    let rule = g.R.SharingRule.shared s.rule in
    let k = accepted (state s) a.pass.series a.time a.waived a.rows.now c.in-Ok.ensures in
    let none = quiet_before s.phase k.before in
    record {
      day = k.timely;
      held = held_after rule (running s.phase) os (orders c.match_orders-count.new.table) c.top-opening.result none s.held c.match_orders-count.ensures.left;
    }
