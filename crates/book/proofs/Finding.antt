-- Places of order numbers in a list, and what stands of ranked orders.
use Rattle.std.proofs.Common.{◌≡◌, ℕ, ◌+◌, Bool, true, false, cond, eqb, List, [], ◌∷◌, Some, None, Option, sym, refl, ap, ◌∙◌, arith}
use Rattle.std.specs.List.{position, position_from}
use Rattle.std.proofs.lemmas.Iterator.Adapters.{position_from-zero}
use Rattle.market.specs.declared.order.Order.{Order}
use Rattle.rules.specs.Allocation.{place_of, next_place}
use Rattle.book.specs.Places.{at, orders_at}
use Rattle.book.specs.declared.priority.Ranked.{Ranked}

-- i places further on
abbrev moved_on : ℕ → Option ℕ → Option ℕ
moved_on i (Some k) = Some (i + k)
moved_on i None = None

moved_none : (q : Option ℕ) → moved_on 0 q ≡ q
moved_none (Some k) = ap Some (omega arith)
moved_none None = refl

moved_next : (i : ℕ) (q : Option ℕ) → moved_on i (next_place q) ≡ moved_on (i + 1) q
moved_next i (Some k) = ap Some (omega arith)
moved_next i None = refl

-- the first ranked order of that number, in the words of the rules
module _ (n : ℕ) (os : List Order) where
  place_from : (i : ℕ) (rs : List Ranked) → position_from (λ r. eqb (at os r).number n) i rs ≡ moved_on i (place_of n (orders_at os rs))
  place_from i [] = refl
  place_from i (r ∷ rs) = go (eqb (at os r).number n) (place_from (i + 1) rs)
    where
      go : (b : Bool) → position_from (λ r. eqb (at os r).number n) (i + 1) rs ≡ moved_on (i + 1) (place_of n (orders_at os rs)) →
          cond b (Some i) (position_from (λ r. eqb (at os r).number n) (i + 1) rs) ≡ moved_on i (cond b (Some 0) (next_place (place_of n (orders_at os rs))))
      go true h = ap Some (omega arith)
      go false h = h ∙ sym (moved_next i (place_of n (orders_at os rs)))

  pub place_is : (rs : List Ranked) → position (λ r. eqb (at os r).number n) rs ≡ place_of n (orders_at os rs)
  place_is rs = position_from-zero (λ r. eqb (at os r).number n) rs ∙ place_from 0 rs ∙ moved_none (place_of n (orders_at os rs))
