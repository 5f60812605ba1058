use Rattle.std.proofs.Common.{◌≡◌, ℕ, ◌≤◌, true, false, leb, List, [], ◌∷◌, ◌++◌, length, Some, None, count_by, Option, sym, refl, ap, ◌∙◌, arith}
use Rattle.std.specs.List.{AllByRecursion}
use Rattle.std.proofs.lemmas.Bool.{and_parts, not-false, ltb-false, lt-ltb, eq-eqb}
use Rattle.market.specs.Refusals.{first_hit}
use Rattle.market.specs.Spans.{price_in_span, size_in_span}
use Rattle.market.specs.Words.{other, limit_at}
use Rattle.market.specs.declared.auction.Auction.{Auction}
use Rattle.market.specs.declared.order.Account.TheVariants.{MarketMaker}
use Rattle.market.specs.declared.order.Order.{Order}
use Rattle.market.specs.declared.order.Role.TheVariants.{Starter}
use Rattle.market.specs.declared.order.Side.{Side}
use Rattle.market.specs.declared.row.Row.{Row}
use Rattle.market.specs.declared.units.Cents.{Cents}
use Rattle.market.specs.declared.units.Millis.{Millis}
use Rattle.rules.specs.Calls.{Ticket, better, checks, new_order, without_old}
use Rattle.rules.specs.Series.{starter_order}
use Rattle.order_table.specs.Changes.{admissible}
use Rattle.order_table.specs.Orders.{orders}
use Rattle.book.specs.Records.{auction_contra}
use Rattle.series.specs.Held.{held_well}
use Rattle.series.specs.Phases.{running}
use Rattle.series.specs.State.{state}
use Rattle.series.specs.Tickets.{shown}
use Rattle.series.specs.declared.series.Series.{Series}
use Rattle.series.proofs.Adding.{admits, timely, sized, price_bounded}
use Rattle.series.proofs.Answering.{all_clear}
use Rattle.series.proofs.Holding.{held_same, held_parts}
use Rattle.series.proofs.Replacing.{bettering_room, held_bettered, with_starter}
use Rattle.series.proofs.Starters.{starter_from}
use Rattle.series.proofs.series.Series.better.Goals as goal

-- the starter's new order
abbrev renewed : Auction → ℕ → Side → ℕ → Order
renewed a n side p = new_order n a.member side MarketMaker (limit_at p) a.size.count Starter

module _ {R : Type 0} (s : Series R) (pass : ℕ) (k : Ticket) (t : Millis) (p : Cents) (rows : List Row) (clear : None ≡ first_hit (checks (state s) (better pass k t p rows))) (a : Auction) (running : (running s.phase) ≡ Some a) where
  abbrev passed : AllByRecursion (λ c. c.1 ≡ false) (checks (state s) (better pass k t p rows))
  passed = all_clear (checks (state s) (better pass k t p rows)) clear

  abbrev stay : List Order
  stay = without_old (starter_order (state s) a) (orders s.table)

  in_day : t.count ≤ 86400000
  in_day = timely 86400000 t.count (state s) passed.1.0

  has_rows : 1 ≤ length rows
  has_rows = omega (arith, ltb-false (length rows) 192 passed.1.1.1.1.0)

  held : held_well (Some a) (orders s.table) ≡ true
  held = ap (λ (x : Option Auction). held_well x (orders s.table)) (sym running) ∙ s.held

  size_span : (1 ≤ a.size.count) × (a.size.count ≤ 9999)
  size_span = sized a.size.count (and_parts (size_in_span a.size.count) (leb a.end.count 86393000) (held_parts (Some a) (orders s.table) held).0).0

  joins : (n : ℕ) (side : Side) → n ≡ s.table.records.next → admissible (renewed a n side p.value) stay s.table.records.next ≡ true
  joins n side e =
      admits stay n s.table.records.next a.member side MarketMaker (limit_at p.value) a.size.count Starter e size_span.1
      (price_bounded p.value (not-false (price_in_span p.value) passed.1.1.1.0))
      (lt-ltb (count_by auction_contra stay) 32 (bettering_room (state s) a (held_parts (Some a) (orders s.table) held).2 s.table.records.rivals))

  -- what the code finds, makes and leaves, in the words of the rules
  module _ (old : Option Order) (was : old ≡ starter_order (state s) a) (n : ℕ) (number : n ≡ s.table.records.next) (side : Side) (contra : side ≡ other a.side) (x : Order) (new : x ≡ renewed a n side p.value) where
    abbrev now_stand : List Order
    now_stand = without_old old (orders s.table) ++ (x ∷ [])

    admitted : admissible x (without_old old (orders s.table)) s.table.records.next ≡ true
    admitted = ap (λ (y : Order). admissible y (without_old old (orders s.table)) s.table.records.next) new ∙ ap (λ (y : Option Order). admissible (renewed a n side p.value) (without_old y (orders s.table)) s.table.records.next) was ∙ joins n side number

    stand_are : now_stand ≡ stay ++ (renewed a n side p.value ∷ [])
    stand_are = ap (λ (y : Option Order). without_old y (orders s.table) ++ (x ∷ [])) was ∙ ap (λ (y : Order). stay ++ (y ∷ [])) new

    holds : (os : List Order) → os ≡ now_stand → held_well (Some (with_starter a n)) os ≡ true
    holds os e =
        held_same (Some (with_starter a n)) os (stay ++ (renewed a n side p.value ∷ [])) (e ∙ stand_are)
        (held_bettered a n (starter_order (state s) a) (orders s.table) (renewed a n side p.value) refl
        (starter_from (with_starter a n) (renewed a n side p.value) (eq-eqb n n refl) refl refl (lt-ltb 0 a.size.count size_span.0)) held)

pub replace_order-count-requires : goal.replace_order-count-requires
replace_order-count-requires g c =
    let a = c.args in
    let s = a.self.now in
    let au = c.unwrap-auction.result in
    let is : running s.phase ≡ Some au = sym c.auction.ensures ∙ c.unwrap-auction.ensures in
    let clear = c.in_ok-check_better.ensures in
    record {
      room = has_rows s a.pass.now.series (shown a.ticket.now) a.time a.price a.rows.now clear au is;
      admissible = admitted s a.pass.now.series (shown a.ticket.now) a.time a.price a.rows.now clear au is c.starter_order-old.result c.starter_order-old.ensures c.next-number.result c.next-number.ensures c.other-side.result c.other-side.ensures c.maker_order-order.result c.maker_order-order.ensures;
    }

pub invariant_of-self : goal.invariant_of-self
invariant_of-self g c =
    let a = c.args in
    let s = a.self.now in
    let au = c.unwrap-auction.result in
    let is : running s.phase ≡ Some au = sym c.auction.ensures ∙ c.unwrap-auction.ensures in
    let clear = c.in_ok-check_better.ensures in record {
      day = in_day s a.pass.now.series (shown a.ticket.now) a.time a.price a.rows.now clear au is;
      held = holds s a.pass.now.series (shown a.ticket.now) a.time a.price a.rows.now clear au is c.starter_order-old.result c.starter_order-old.ensures c.next-number.result c.next-number.ensures c.other-side.result c.other-side.ensures c.maker_order-order.result c.maker_order-order.ensures (orders c.replace_order-count.new.table) c.replace_order-count.ensures.records;
    }
