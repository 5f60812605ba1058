-- Orders that pass the checks are added to the table.
use Rattle.std.proofs.Common.{◌≡◌, ℕ, ◌+◌, ◌%◌, ◌≤◌, Bool, true, false, cond, eqb, ltb, leb, List, [], ◌∷◌, ◌++◌, refl, ap, ◌∙◌, subst, arith}
use Rattle.std.proofs.lemmas.Bool.{and_parts, and_from, or_parts, not-false, eq-eqb, leb-true, ltb-false}
use Rattle.market.specs.Spans.{price_in_span, on_grid, size_in_span}
use Rattle.market.specs.Words.{price_of}
use Rattle.market.specs.declared.order.Account.{Account}
use Rattle.market.specs.declared.order.Order.{Order}
use Rattle.market.specs.declared.order.OrderKind.{OrderKind}
use Rattle.market.specs.declared.order.OrderKind.TheVariants.{Limit, MarketOnOpening}
use Rattle.market.specs.declared.order.Role.{Role}
use Rattle.market.specs.declared.order.Side.{Side}
use Rattle.rules.specs.Calls.{new_order}
use Rattle.rules.specs.Series.{State, early_or_late, off_grid}
use Rattle.order_table.specs.Changes.{role_room, admissible, Appended}
use Rattle.order_table.specs.Orders.{orders}
use Rattle.order_table.specs.Records.{sound_record}
use Rattle.order_table.specs.declared.table.Table.{Table}
use Rattle.order_table.proofs.Records.{sound_from}

-- ---- what the checks say in numbers

pub timely : (latest t : ℕ) (st : State) → early_or_late latest t st ≡ false → t ≤ latest
timely latest t st e = ltb-false latest t (or_parts (ltb t st.time) (ltb latest t) e).1

pub sized : (n : ℕ) → size_in_span n ≡ true → (1 ≤ n) × (n ≤ 9999)
sized n e = let b = and_parts (leb 1 n) (leb n 9999) e in (leb-true 1 n b.0, leb-true n 9999 b.1)

pub price_bounded : (p : ℕ) → price_in_span p ≡ true → p ≤ 99999
price_bounded p e = leb-true p 99999 (and_parts (leb 1 p) (leb p 99999) e).1

pub kind_bounded : (k : OrderKind) → off_grid k ≡ false → price_of k ≤ 99999
kind_bounded (Limit p) e = price_bounded p.value (and_parts (price_in_span p.value) (cond (ltb p.value 300) (eqb (p.value % 5) 0) (eqb (p.value % 10) 0)) (not-false (on_grid p.value) e)).0
kind_bounded MarketOnOpening e = omega arith

-- ---- one more order

-- an order stands behind the others, and its number is used
pub record Added (o : Order) (before after : Table) : Type 0 where
  pub records : orders after ≡ orders before ++ (o ∷ [])
  pub numbers : after.records.next ≡ before.records.next + 1

added_so : (o : Order) (before after : Table) (b : Bool) → Appended o before after b → b ≡ true → Added o before after
added_so o before after b h e = record {
  records = h.records ∙ ap (λ (x : Bool). cond x (orders before ++ (o ∷ [])) (orders before)) e;
  numbers = h.numbers ∙ ap (λ (x : Bool). cond {A = ℕ} x (before.records.next + 1) before.records.next) e;
}

-- a new order can be added where there is room for its role
pub admits : (os : List Order) (n next m : ℕ) (s : Side) (a : Account) (k : OrderKind) (size : ℕ) (r : Role) → n ≡ next → size ≤ 9999 → price_of k ≤ 99999 → role_room r os ≡ true → admissible (new_order n m s a k size r) os next ≡ true
admits os n next m s a k size r e small price room =
    let o = new_order n m s a k size r in
    and_from _ _ (and_from (eqb n next) (sound_record o) (eq-eqb n next e) (sound_from o (record { sum = omega arith; size = small; price = price }))) room

pub added : (before after : Table) (b : Bool) (x : Order) (n m : ℕ) (s : Side) (a : Account) (k : OrderKind) (size : ℕ) (r : Role) → Appended x before after b → x ≡ new_order n m s a k size r → n ≡ before.records.next →
    size ≤ 9999 → price_of k ≤ 99999 → role_room r (orders before) ≡ true → Added (new_order before.records.next m s a k size r) before after
added before after b x n m s a k size r h is number small price room =
    let o = new_order before.records.next m s a k size r in
    let same : x ≡ o = is ∙ ap (λ (i : ℕ). new_order i m s a k size r) number in
    let h' : Appended o before after b = subst (λ (y : Order). Appended y before after b) same h in
    added_so o before after b h' (h'.answer ∙ admits (orders before) before.records.next before.records.next m s a k size r refl small price room)
