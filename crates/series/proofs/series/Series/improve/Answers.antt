use Rattle.std.proofs.Common.{◌≡◌, ℕ, ◌+◌, ◌<◌, ◌≤◌, true, false, List, [], ◌∷◌, ◌++◌, length, is_some, None, count_by, Option, ap, ◌∙◌, arith}
use Rattle.std.specs.List.{AllByRecursion}
use Rattle.std.proofs.lemmas.Bool.{not-false, ltb-false, lt-ltb}
use Rattle.market.specs.Refusals.{first_hit}
use Rattle.market.specs.Spans.{price_in_span, size_in_span}
use Rattle.market.specs.Words.{auctioned, limit_at}
use Rattle.market.specs.declared.order.Account.TheVariants.{MarketMaker}
use Rattle.market.specs.declared.order.Order.{Order}
use Rattle.market.specs.declared.order.Role.TheVariants.{Competing}
use Rattle.market.specs.declared.order.Side.{Side}
use Rattle.market.specs.declared.row.Row.{Row}
use Rattle.market.specs.declared.units.Cents.{Cents}
use Rattle.market.specs.declared.units.Contracts.{Contracts}
use Rattle.market.specs.declared.units.Millis.{Millis}
use Rattle.rules.specs.Calls.{improve, checks, new_order, without_old}
use Rattle.rules.specs.Series.{replaced}
use Rattle.order_table.specs.Changes.{admissible}
use Rattle.order_table.specs.Orders.{orders}
use Rattle.book.specs.Records.{auction_contra}
use Rattle.series.specs.Held.{held_well}
use Rattle.series.specs.Phases.{running}
use Rattle.series.specs.State.{state}
use Rattle.series.specs.declared.series.Series.{Series}
use Rattle.series.proofs.Adding.{admits, timely, sized, price_bounded}
use Rattle.series.proofs.Answering.{all_clear}
use Rattle.series.proofs.Holding.{held_same}
use Rattle.series.proofs.Replacing.{improving_room, held_improved}
use Rattle.series.proofs.series.Series.improve.Goals as goal

module _ {R : Type 0} (s : Series R) (pass : ℕ) (t : Millis) (m : ℕ) (p : Cents) (size : Contracts) (r : Option ℕ) (rows : List Row) (clear : None ≡ first_hit (checks (state s) (improve pass t m p size r rows))) where
  abbrev passed : AllByRecursion (λ c. c.1 ≡ false) (checks (state s) (improve pass t m p size r rows))
  passed = all_clear (checks (state s) (improve pass t m p size r rows)) clear

  abbrev stay : List Order
  stay = without_old (replaced m r (state s)) (orders s.table)

  in_day : t.count ≤ 86400000
  in_day = timely 86400000 t.count (state s) passed.1.0

  has_rows : 1 ≤ length rows
  has_rows = omega (arith, ltb-false (length rows) 192 passed.1.1.1.1.1.1.0)

  runs : is_some (running s.phase) ≡ true
  runs = not-false (is_some (running s.phase)) passed.1.1.1.1.1.1.1.1.1.1.0

  has_number : s.table.records.next < 65536
  has_number = omega (arith, ltb-false 65536 (s.table.records.next + 1) passed.1.1.1.1.1.1.1.1.0)

  joins : (n : ℕ) (side : Side) → n ≡ s.table.records.next → admissible (new_order n m side MarketMaker (limit_at p.value) size.count Competing) stay s.table.records.next ≡ true
  joins n side e =
      admits stay n s.table.records.next m side MarketMaker (limit_at p.value) size.count Competing e
      (sized size.count (not-false (size_in_span size.count) passed.1.1.1.1.1.0)).1
      (price_bounded p.value (not-false (price_in_span p.value) passed.1.1.1.1.0))
      (lt-ltb (count_by auction_contra stay) 32 (improving_room m r (state s) s.table.records.rivals passed.1.1.1.1.1.1.1.0 passed.1.1.1.1.1.1.1.1.1.0))

  -- what the code finds and makes, in the words of the rules
  module _ (old : Option Order) (was : old ≡ replaced m r (state s)) (n : ℕ) (side : Side) (x : Order) (new : x ≡ new_order n m side MarketMaker (limit_at p.value) size.count Competing) where
    admitted : n ≡ s.table.records.next → admissible x (without_old old (orders s.table)) s.table.records.next ≡ true
    admitted number =
        ap (λ (y : Order). admissible y (without_old old (orders s.table)) s.table.records.next) new
        ∙ ap (λ (y : Option Order). admissible (new_order n m side MarketMaker (limit_at p.value) size.count Competing) (without_old y (orders s.table)) s.table.records.next) was
        ∙ joins n side number

    holds : (os : List Order) → os ≡ without_old old (orders s.table) ++ (x ∷ []) → held_well (running s.phase) os ≡ true
    holds os e =
        held_same (running s.phase) os (stay ++ (x ∷ [])) (e ∙ ap (λ (y : Option Order). without_old y (orders s.table) ++ (x ∷ [])) was)
        (held_improved m r (state s) s.table.records.next (running s.phase) x s.table.records.rising runs (ap (λ (o : Order). auctioned o.role) new) s.held)

pub overflow_cast-number : goal.overflow_cast-number
overflow_cast-number g c =
    let a = c.args in
    omega (arith, has_number a.self.now a.pass.now.series a.time a.member a.price a.size a.replaces a.rows.now c.in_ok-check_improve.ensures, c.next-number.ensures)

pub unwrap-requires : goal.unwrap-requires
unwrap-requires g c =
    let a = c.args in
    ap is_some c.auction.ensures ∙ runs a.self.now a.pass.now.series a.time a.member a.price a.size a.replaces a.rows.now c.in_ok-check_improve.ensures

pub replace_order-count-requires : goal.replace_order-count-requires
replace_order-count-requires g c =
    let a = c.args in
    let s = a.self.now in
    let clear = c.in_ok-check_improve.ensures in
    record {
      room = has_rows s a.pass.now.series a.time a.member a.price a.size a.replaces a.rows.now clear;
      admissible =
          admitted s a.pass.now.series a.time a.member a.price a.size a.replaces a.rows.now clear c.replaced-old.result c.replaced-old.ensures c.next-number.result
          c.other-side.result c.maker_order-order.result c.maker_order-order.ensures c.next-number.ensures;
    }

pub invariant_of-self : goal.invariant_of-self
invariant_of-self g c =
    let a = c.args in
    let s = a.self.now in
    let clear = c.in_ok-check_improve.ensures in record {
      day = in_day s a.pass.now.series a.time a.member a.price a.size a.replaces a.rows.now clear;
      held = holds s a.pass.now.series a.time a.member a.price a.size a.replaces a.rows.now clear c.replaced-old.result c.replaced-old.ensures c.next-number.result c.other-side.result c.maker_order-order.result c.maker_order-order.ensures (orders c.replace_order-count.new.table) c.replace_order-count.ensures.records;
    }
