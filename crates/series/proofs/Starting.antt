-- The orders of a new auction.
use Rattle.std.proofs.Common.{◌≡◌, ℕ, ◌≤◌, Bool, true, false, cond, not, ◌&&◌, ◌||◌, eqb, leb, List, [], ◌∷◌, ◌++◌, length, is_some, Some, None, count_by, Option, sym, refl, ap, ◌∙◌, arith}
use Rattle.std.specs.List.{AllByRecursion}
use Rattle.std.proofs.ByRecursion.{All-append, All-weaker}
use Rattle.std.proofs.lemmas.List.{append_assoc}
use Rattle.std.proofs.lemmas.List.Sums.{sum_by-cons}
use Rattle.std.proofs.lemmas.Bool.{and_from, or_right, both_ways, eq-eqb, le-leb}
use Rattle.market.specs.Words.{in_book, auctioned, same_side}
use Rattle.market.specs.declared.auction.Auction.{Auction}
use Rattle.market.specs.declared.order.Order.{Order}
use Rattle.market.specs.declared.order.Role.{Role}
use Rattle.market.specs.declared.order.Role.TheVariants.{Book, Auctioned, Starter, Competing}
use Rattle.market.specs.declared.order.Side.{Side}
use Rattle.market.specs.declared.order.Side.TheVariants.{Buy, Sell}
use Rattle.book.specs.Records.{booked, auction_contra, customers}
use Rattle.book.proofs.Records.{count_three}
use Rattle.series.specs.Held.{auction_in_span, belongs, starters_order, starter_stands, held_well}
use Rattle.series.proofs.Holding.{held_parts, held_from}
use Rattle.series.proofs.Starters.{stands_last}

pub none_of : {A : Type 0} (x : Option A) → is_some x ≡ false → x ≡ None
none_of (Some x) e = absurd (both_ways true e refl)
none_of None e = refl

all_booked : (os : List Order) → AllByRecursion (λ o. booked o ≡ true) os → count_by booked os ≡ length os
all_booked [] h = refl
all_booked (o ∷ os) h =
    let one : ◌≡◌ {A = ℕ} (cond (booked o) 1 0) 1 = ap (λ (b : Bool). cond {A = ℕ} b 1 0) h.0 in
    omega (arith, sum_by-cons (λ (x : Order). cond (booked x) 1 0) o os, all_booked os h.1)

-- without an auction no order is outside the book
pub all_in_book : (os : List Order) → held_well None os ≡ true → (count_by customers os ≡ 0) × (count_by auction_contra os ≡ 0)
all_in_book os h =
    let all = all_booked os (held_parts None os h).1 in
    let three = count_three os in
    (omega arith, omega arith)

same : (x : Side) → same_side x x ≡ true
same Buy = refl
same Sell = refl

-- an order that is not the customer's belongs to any auction, and the customer's to its own
pub belongs_other : (a : Auction) (o : Order) → auctioned o.role ≡ false → belongs (Some a) o ≡ true
belongs_other a o e = ap (λ (b : Bool). not b || (same_side o.side a.side && eqb o.number a.customer)) e

belongs_customer : (a : Auction) (o : Order) → o.side ≡ a.side → o.number ≡ a.customer → belongs (Some a) o ≡ true
belongs_customer a o e n =
    or_right (not (auctioned o.role)) (same_side o.side a.side && eqb o.number a.customer)
    (and_from _ _ (ap (λ (x : Side). same_side x a.side) e ∙ same a.side) (eq-eqb o.number a.customer n))

no_customer : (r : Role) → in_book r ≡ true → auctioned r ≡ false
no_customer Book h = refl
no_customer Auctioned h = absurd (both_ways false refl h)
no_customer Starter h = refl
no_customer Competing h = refl

pub span_from : (a : Auction) → 1 ≤ a.size.count → a.size.count ≤ 9999 → a.end.count ≤ 86393000 → auction_in_span (Some a) ≡ true
span_from a some most end =
    and_from _ _ (and_from (leb 1 a.size.count) (leb a.size.count 9999) (le-leb 1 a.size.count some) (le-leb a.size.count 9999 most)) (le-leb a.end.count 86393000 end)

pub held_started : (os : List Order) (a : Auction) (c s : Order) → held_well None os ≡ true → auction_in_span (Some a) ≡ true → c.side ≡ a.side → c.number ≡ a.customer → auctioned s.role ≡ false → starters_order a s ≡ true → held_well (Some a) (os ++ (c ∷ s ∷ [])) ≡ true
held_started os a c s h span side number role begins =
    held_from (Some a) (os ++ (c ∷ s ∷ [])) span
    (All-append (λ (o : Order). belongs (Some a) o ≡ true) os (c ∷ s ∷ [])
    (All-weaker (λ (o : Order). booked o ≡ true) (λ (o : Order). belongs (Some a) o ≡ true) (λ o k. belongs_other a o (no_customer o.role k)) os (held_parts None os h).1)
    (belongs_customer a c side number, (belongs_other a s role, tt)))
    (ap (starter_stands (Some a)) (sym (append_assoc os (c ∷ []) (s ∷ []))) ∙ stands_last a (os ++ (c ∷ [])) s begins)
