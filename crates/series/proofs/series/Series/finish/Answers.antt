use Rattle.std.proofs.Common.{◌≡◌, ◌≤◌, true, ltb, List, length, None, Option, subst, sym, ◌∙◌}
use Rattle.std.proofs.lemmas.Bool.{or_parts, ltb-false}
use Rattle.market.specs.Refusals.{first_hit}
use Rattle.market.specs.declared.auction.Auction.{Auction}
use Rattle.market.specs.declared.row.Row.{Row}
use Rattle.market.specs.declared.units.Millis.{Millis}
use Rattle.rules.specs.Calls.{Ticket, finish, checks}
use Rattle.rules.specs.Series.{State}
use Rattle.order_table.specs.Orders.{orders}
use Rattle.order_table.proofs.Records.{table_live}
use Rattle.series.specs.Held.{held_well}
use Rattle.series.specs.State.{state}
use Rattle.series.specs.Tickets.{shown}
use Rattle.series.proofs.Answering.{all_clear}
use Rattle.series.proofs.Finishing.{auction_sized, contra_few, others_few, held_finished}
use Rattle.series.proofs.series.Series.finish.Goals as goal

-- what an accepted finish may count on
record Accepted (t : Millis) (rows : List Row) : Type 0 where
  timely : t.count ≤ 86400000
  room : 192 ≤ length rows

accepted : (st : State) (k : Ticket) (t : Millis) (rows : List Row) → None ≡ first_hit (checks st (finish k t rows)) → Accepted t rows
accepted st k t rows e =
    let h = all_clear (checks st (finish k t rows)) e in
    record {
      timely = ltb-false 86400000 t.count (or_parts (ltb t.count st.time) (ltb 86400000 t.count) h.1.0).1;
      room = ltb-false (length rows) 192 h.1.1.1.0;
    }

pub finish_auction-count-requires : goal.finish_auction-count-requires
finish_auction-count-requires g c =
    let s = c.args.self.now in
    let a = c.unwrap-auction.result in
    let os = orders s.table in
    let live = table_live s.table in
    let held = subst (λ (x : Option Auction). held_well x os ≡ true) (sym c.auction.ensures ∙ c.unwrap-auction.ensures) s.held in
    record {
      claims = contra_few a os s.table.records.next live held;
      others = others_few a os s.table.records.next live held;
      size = auction_sized a os s.table.records.next live held;
      room = (accepted (state s) (shown c.args.ticket.now) c.args.time c.args.rows.now c.in_ok-check_finish.ensures).room;
    }

pub invariant_of-self : goal.invariant_of-self
invariant_of-self g c =
    let s = c.args.self.now in
    let f = c.finish_auction-count in
    let k = accepted (state s) (shown c.args.ticket.now) c.args.time c.args.rows.now c.in_ok-check_finish.ensures in
    record {
      day = k.timely;
      held = held_finished (g.R.SharingRule.shared s.rule) (orders s.table) (orders f.new.table) c.unwrap-auction.result f.ensures.left;
    }
