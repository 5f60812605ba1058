use Rattle.std.proofs.Common.{◌≡◌, ℕ, ◌+◌, ◌≤◌, true, false, [], ◌∷◌, ◌++◌, Some, None, Option, sym, refl, ap, ◌∙◌, arith}
use Rattle.std.specs.List.{AllByRecursion}
use Rattle.std.proofs.lemmas.Bool.{not-false, ltb-false, lt-ltb, eq-eqb}
use Rattle.market.specs.Refusals.{first_hit}
use Rattle.market.specs.Spans.{price_in_span, size_in_span}
use Rattle.market.specs.Words.{other, limit_at}
use Rattle.market.specs.declared.auction.Auction.{Auction}
use Rattle.market.specs.declared.order.Account.TheVariants.{Customer, MarketMaker}
use Rattle.market.specs.declared.order.Role.TheVariants.{Auctioned, Starter}
use Rattle.market.specs.declared.order.Side.{Side}
use Rattle.market.specs.declared.units.Cents.{Cents}
use Rattle.market.specs.declared.units.Contracts.{Contracts}
use Rattle.market.specs.declared.units.Millis.{Millis}
use Rattle.rules.specs.Calls.{start, checks, new_order}
use Rattle.order_table.specs.Orders.{orders}
use Rattle.series.specs.Held.{held_well}
use Rattle.series.specs.Phases.{running}
use Rattle.series.specs.State.{state}
use Rattle.series.specs.declared.series.Series.{Series}
use Rattle.series.proofs.Adding.{timely, sized, price_bounded}
use Rattle.series.proofs.Answering.{all_clear}
use Rattle.series.proofs.Holding.{held_same}
use Rattle.series.proofs.Starters.{starter_from}
use Rattle.series.proofs.Starting.{none_of, all_in_book, span_from, held_started}
use Rattle.series.proofs.series.Series.start.Goals as goal

module _ {R : Type 0} (s : Series R) (pass : ℕ) (t : Millis) (m : ℕ) (side : Side) (p : Cents) (size : Contracts) (clear : None ≡ first_hit (checks (state s) (start pass t m side p size))) where
  abbrev passed : AllByRecursion (λ c. c.1 ≡ false) (checks (state s) (start pass t m side p size))
  passed = all_clear (checks (state s) (start pass t m side p size)) clear

  in_time : t.count ≤ 86390000
  in_time = timely 86390000 t.count (state s) passed.1.0

  price_most : p.value ≤ 99999
  price_most = price_bounded p.value (not-false (price_in_span p.value) passed.1.1.1.1.0)

  size_span : (1 ≤ size.count) × (size.count ≤ 9999)
  size_span = sized size.count (not-false (size_in_span size.count) passed.1.1.1.1.1.0)

  numbers_left : s.table.records.next + 2 ≤ 65536
  numbers_left = ltb-false 65536 (s.table.records.next + 2) passed.1.1.1.1.1.1.0

  idle : held_well None (orders s.table) ≡ true
  idle = ap (λ (x : Option Auction). held_well x (orders s.table)) (sym (none_of (running s.phase) passed.1.1.1.1.1.1.1.0)) ∙ s.held

pub append_pair-started-requires : goal.append_pair-started-requires
append_pair-started-requires g c =
    let a = c.args in
    let s = a.self.now in
    let pass = a.pass.now.series in
    let clear = c.in_ok-check_start.ensures in
    let outside = all_in_book (orders s.table) (idle s pass a.time a.member a.side a.price a.size clear) in
    record {
      numbers = numbers_left s pass a.time a.member a.side a.price a.size clear;
      price = price_most s pass a.time a.member a.side a.price a.size clear;
      size = (size_span s pass a.time a.member a.side a.price a.size clear).1;
      customers = outside.0;
      contra = outside.1;
    }

pub invariant_of-self : goal.invariant_of-self
invariant_of-self g c =
    let a = c.args in
    let s = a.self.now in
    let pass = a.pass.now.series in
    let clear = c.in_ok-check_start.ensures in
    let pair = c.append_pair-started in
    let early = in_time s pass a.time a.member a.side a.price a.size clear in
    let span = size_span s pass a.time a.member a.side a.price a.size clear in
    let au : Auction = record { customer = pair.result.customer; starter = pair.result.starter; member = a.member; side = a.side; size = a.size; end = record { count = a.time.count + 3000 } } in
    let p = limit_at a.price.value in
    let customer = new_order s.table.records.next a.member a.side Customer p a.size.count Auctioned in
    let starter = new_order (s.table.records.next + 1) a.member (other a.side) MarketMaker p a.size.count Starter in record {
      day = omega arith;
      held = held_same (Some au) (orders pair.new.table) (orders s.table ++ (customer ∷ starter ∷ [])) pair.ensures.records (held_started (orders s.table) au customer starter (idle s pass a.time a.member a.side a.price a.size clear) (span_from au span.0 span.1 (omega arith)) refl (sym pair.ensures.customer) refl (starter_from au starter (eq-eqb _ _ (sym pair.ensures.starter)) refl refl (lt-ltb 0 a.size.count span.0)));
    }
