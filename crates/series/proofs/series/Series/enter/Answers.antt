use Rattle.std.proofs.Common.{◌≡◌, ℕ, ◌+◌, ◌<◌, ◌≤◌, ltb, List, length, None, count_by, refl, arith}
use Rattle.std.proofs.lemmas.Bool.{or_parts, ltb-false, leb-false, not-false}
use Rattle.market.specs.Refusals.{first_hit}
use Rattle.market.specs.Spans.{on_grid}
use Rattle.market.specs.declared.order.Account.{Account}
use Rattle.market.specs.declared.order.Side.{Side}
use Rattle.market.specs.declared.row.Row.{Row}
use Rattle.market.specs.declared.units.Cents.{Cents}
use Rattle.market.specs.declared.units.Contracts.{Contracts}
use Rattle.market.specs.declared.units.Millis.{Millis}
use Rattle.rules.specs.Calls.{enter, checks}
use Rattle.rules.specs.Prices.{cents}
use Rattle.rules.specs.Series.{State}
use Rattle.rules.proofs.Plain.{grid_fine, size_fine}
use Rattle.order_table.specs.Orders.{orders}
use Rattle.book.specs.Records.{booked}
use Rattle.series.specs.Phases.{running}
use Rattle.series.specs.State.{state}
use Rattle.series.proofs.Answering.{all_clear}
use Rattle.series.proofs.Entering.{enterable, held_entered, enters}
use Rattle.series.proofs.series.Series.enter.Goals as goal

-- what an accepted entry may count on
record Accepted (st : State) (t : Millis) (p : Cents) (n : Contracts) (rows : List Row) : Type 0 where
  timely : t.count ≤ 86390000
  price : p.value ≤ 99999
  size : n.count ≤ 9999
  room : 192 ≤ length rows
  book : count_by booked st.orders < 128
  numbers : st.next ≤ 65535

accepted : (st : State) (pass : ℕ) (t : Millis) (m : ℕ) (s : Side) (a : Account) (p : Cents) (n : Contracts) (rows : List Row) → None ≡ first_hit (checks st (enter pass t m s a p n rows)) → Accepted st t p n rows
accepted st pass t m s a p n rows e =
    let h = all_clear (checks st (enter pass t m s a p n rows)) e in
    record {
      timely = ltb-false 86390000 t.count (or_parts (ltb t.count st.time) (ltb 86390000 t.count) h.1.0).1;
      price = grid_fine p.value (not-false (on_grid p.value) h.1.1.1.1.0);
      size = (size_fine n.count h.1.1.1.1.1.0).1;
      room = ltb-false (length rows) 192 h.1.1.1.1.1.1.0;
      book = leb-false 128 (count_by booked st.orders) h.1.1.1.1.1.1.1.0;
      numbers = omega (arith, ltb-false 65536 (st.next + 1) h.1.1.1.1.1.1.1.1.0);
    }

pub overflow_cast-number : goal.overflow_cast-number
overflow_cast-number g c =
    let a = c.args in
    let k = accepted (state a.self.now) a.pass.now.series a.time a.member a.side a.account a.price a.size a.rows.now c.in_ok-check_enter.ensures in
    omega (arith, c.next-number.ensures, k.numbers)

pub enter_order-count-requires : goal.enter_order-count-requires
enter_order-count-requires g c =
    let a = c.args in
    let k = accepted (state a.self.now) a.pass.now.series a.time a.member a.side a.account a.price a.size a.rows.now c.in_ok-check_enter.ensures in
    record {
      order = enterable c.new_order-order.result a.self.now.table c.next-number.result a.member a.side a.account a.price a.size c.new_order-order.ensures c.next-number.ensures k.numbers k.price k.size k.book;
      best = c.best-best.ensures.span;
      room = k.room;
    }

pub invariant_of-self : goal.invariant_of-self
invariant_of-self g c =
    let a = c.args in
    let s = a.self.now in
    let rule = g.R.SharingRule.shared s.rule in
    let k = accepted (state s) a.pass.now.series a.time a.member a.side a.account a.price a.size a.rows.now c.in_ok-check_enter.ensures in
    let o = c.new_order-order.result in
    let day : a.time.count ≤ 86400000 = omega (arith, k.timely) in
    let e = c.enter_order-count in
    record {
      day = day;
      held = held_entered (running s.phase) rule (orders s.table) (orders e.new.table) o (cents c.best-best.result) (a.time.count + 3000) c.next-number.result a.member a.side a.account a.price a.size c.new_order-order.ensures s.held e.ensures.left;
    }

pub returns : goal.returns
returns g c =
    let a = c.args in
    let s = a.self.now in
    let e = c.enter_order-count in
    record {
      rule = refl {a = s.rule};
      answers =
          enters (g.R.SharingRule.shared s.rule) (state s) a.pass.now.series a.time a.member a.side a.account a.price a.size a.rows.now e.new.rows s.table e.new.table c.new_order-order.result (cents c.best-best.result) c.next-number.result e.result
          c.in_ok-check_enter.ensures refl refl c.next-number.ensures c.new_order-order.ensures c.best-best.ensures.best e.ensures;
    }
