use Rattle.std.proofs.Common.{◌≡◌, ℕ, ◌+◌, ◌<◌, ◌≤◌, Bool, false, [], ◌∷◌, None, count_by, refl, ap, arith}
use Rattle.std.proofs.lemmas.Bool.{not-false, ltb-false, leb-false, lt-ltb}
use Rattle.std.specs.List.{AllByRecursion}
use Rattle.market.specs.Refusals.{first_hit}
use Rattle.market.specs.Spans.{size_in_span}
use Rattle.market.specs.declared.order.Account.{Account}
use Rattle.market.specs.declared.order.Order.{Order}
use Rattle.market.specs.declared.order.OrderKind.{OrderKind}
use Rattle.market.specs.declared.order.Role.TheVariants.{Book}
use Rattle.market.specs.declared.order.Side.{Side}
use Rattle.market.specs.declared.units.Contracts.{Contracts}
use Rattle.market.specs.declared.units.Millis.{Millis}
use Rattle.rules.specs.Calls.{place, checks, new_order}
use Rattle.rules.specs.Runs.{accepted, nothing}
use Rattle.order_table.specs.Changes.{Appended}
use Rattle.order_table.specs.Orders.{orders}
use Rattle.book.specs.Records.{booked}
use Rattle.order_table.specs.declared.table.Table.{Table}
use Rattle.sharing.specs.Sharing.{Sharing}
use Rattle.series.specs.Phases.{running}
use Rattle.series.specs.State.{state}
use Rattle.series.specs.declared.series.Series.{Series}
use Rattle.series.proofs.Adding.{Added, added, timely, sized, kind_bounded}
use Rattle.series.proofs.Answering.{all_clear, accepts, changed_is}
use Rattle.series.proofs.Holding.{held_same, held_pushed}
use Rattle.series.proofs.series.Series.place.Goals as goal

module _ {R : Type 0} (s : Series R) (pass : ℕ) (t : Millis) (m : ℕ) (side : Side) (a : Account) (k : OrderKind) (size : Contracts)
    (clear : None ≡ first_hit (checks (state s) (place pass t m side a k size))) where
  abbrev passed : AllByRecursion (λ c. c.1 ≡ false) (checks (state s) (place pass t m side a k size))
  passed = all_clear (checks (state s) (place pass t m side a k size)) clear

  in_day : t.count ≤ 86400000
  in_day = timely 86400000 t.count (state s) passed.1.0

  has_number : s.table.records.next < 65536
  has_number = omega (arith, ltb-false 65536 (s.table.records.next + 1) passed.1.1.1.1.1.1.0)

  placed : (after : Table) (b : Bool) (x : Order) (n : ℕ) → Appended x s.table after b → x ≡ new_order n m side a k size.count Book → n ≡ s.table.records.next → Added (new_order s.table.records.next m side a k size.count Book) s.table after
  placed after b x n h is number =
      added s.table after b x n m side a k size.count Book h is number (sized size.count (not-false (size_in_span size.count) passed.1.1.1.1.0)).1 (kind_bounded k passed.1.1.1.0)
      (lt-ltb (count_by booked (orders s.table)) 128 (leb-false 128 (count_by booked (orders s.table)) passed.1.1.1.1.1.0))

pub overflow_cast-number : goal.overflow_cast-number
overflow_cast-number g c =
    let a = c.args in
    omega (arith, has_number a.self.now a.pass.now.series a.time a.member a.side a.account a.kind a.size c.in_ok-check_place.ensures, c.next-number.ensures)

pub invariant_of-self : goal.invariant_of-self
invariant_of-self g c =
    let a = c.args in
    let s = a.self.now in
    let clear = c.in_ok-check_place.ensures in
    let new = placed s a.pass.now.series a.time a.member a.side a.account a.kind a.size clear c.append.new.self c.append.result c.new_order-order.result c.next-number.result c.append.ensures c.new_order-order.ensures c.next-number.ensures in record {
      day = in_day s a.pass.now.series a.time a.member a.side a.account a.kind a.size clear;
      held = held_same (running s.phase) (orders c.append.new.self) _ new.records (held_pushed (running s.phase) (orders s.table) _ s.held refl);
    }

pub returns : goal.returns
returns g c =
    let a = c.args in
    let s = a.self.now in
    let st = state s in
    let rule : Sharing = g.R.SharingRule.shared s.rule in
    let clear = c.in_ok-check_place.ensures in
    let new = placed s a.pass.now.series a.time a.member a.side a.account a.kind a.size clear c.append.new.self c.append.result c.new_order-order.result c.next-number.result c.append.ensures c.new_order-order.ensures c.next-number.ensures in
    record {
      rule = refl {a = s.rule};
      answers =
          accepts rule st (place a.pass.now.series a.time a.member a.side a.account a.kind a.size) _ [] _ nothing clear
          (changed_is st a.time.count 1 c.append.new.self.records.next (orders c.append.new.self) _ st.auction new.numbers new.records)
          (ap (λ (n : ℕ). accepted 0 (n ∷ []) None) c.next-number.ensures) refl refl;
    }
