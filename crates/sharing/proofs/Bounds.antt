-- The bounds of a rule's input, by the test and by places.
use Rattle.std.proofs.Common.{◌≡◌, ℕ, zero, suc, ◌^◌, ◌<◌, ◌≤◌, true, not, ◌&&◌, eqb, leb, List, [], ◌∷◌, length, get_or, sum, None, Ok, Err, Option, Result, refl, arith}
use Rattle.std.specs.List.{list_all}
use Rattle.std.proofs.lemmas.Bool.{leb-true, le-leb, eqb-true, eq-eqb, not-false, not_from_true, both_ways, and_parts, and_from}
use Rattle.market.specs.declared.refusal.Refusal.{Refusal}
use Rattle.market.specs.Refusals.{first_hit, refusal_number}
use Rattle.market.proofs.Tables.{clear, hit}
use Rattle.market.specs.declared.units.Contracts.{Contracts}
use Rattle.sharing.specs.Asked.{Answered, bounds_checks, counts}
use Rattle.sharing.proofs.Counts.{sum_fits}
use Rattle.sharing.specs.Sharing.{Sharing, in_bounds}

-- no claim is over the largest, and past the end of the list there is 0
pub small_at : (cs : List ℕ) → list_all (λ c. leb c 9999) cs ≡ true → (k : ℕ) → get_or cs k 0 ≤ 9999
small_at [] h k = omega arith
small_at (c ∷ cs) h zero = leb-true c 9999 (and_parts (leb c 9999) (list_all (λ x. leb x 9999) cs) h).0
small_at (c ∷ cs) h (suc k) = small_at cs (and_parts (leb c 9999) (list_all (λ x. leb x 9999) cs) h).1 k

pub small_from : (cs : List ℕ) → ((k : ℕ) → get_or cs k 0 ≤ 9999) → list_all (λ c. leb c 9999) cs ≡ true
small_from [] h = refl
small_from (c ∷ cs) h = and_from (leb c 9999) (list_all (λ x. leb x 9999) cs) (le-leb c 9999 (h 0)) (small_from cs (λ k. h (suc k)))

pub record Bounded (claims : List ℕ) (amount guarantee : ℕ) : Type 0 where
  pub few : length claims ≤ 160
  pub small : (k : ℕ) → get_or claims k 0 ≤ 9999
  pub amounts : amount ≤ 1599840
  pub guarantees : guarantee ≤ 9999

pub bounded : (claims : List ℕ) (amount guarantee : ℕ) → in_bounds claims amount guarantee ≡ true → Bounded claims amount guarantee
bounded claims amount guarantee h =
    let few = leb (length claims) 160 in
    let small = list_all (λ c. leb c 9999) claims in
    let l = and_parts (few && small && leb amount 1599840) (leb guarantee 9999) h in
    let m = and_parts (few && small) (leb amount 1599840) l.0 in
    let n = and_parts few small m.0 in
    record {
      few = leb-true _ _ n.0;
      small = small_at claims n.1;
      amounts = leb-true _ _ m.1;
      guarantees = leb-true _ _ l.1;
    }

pub in_bounds_from : (claims : List ℕ) (amount guarantee : ℕ) → Bounded claims amount guarantee → in_bounds claims amount guarantee ≡ true
in_bounds_from claims amount guarantee b =
    let few = leb (length claims) 160 in
    let small = list_all (λ c. leb c 9999) claims in
    and_from (few && small && leb amount 1599840) (leb guarantee 9999)
    (and_from (few && small) (leb amount 1599840)
    (and_from few small (le-leb _ _ b.few) (small_from claims b.small))
    (le-leb _ _ b.amounts))
    (le-leb _ _ b.guarantees)

-- what an accepted input is
pub accepted :
    (claims : List ℕ) (amount guarantee places : ℕ) → None ≡ first_hit (bounds_checks claims amount guarantee places) →
    Bounded claims amount guarantee × (places ≡ length claims)
accepted claims amount guarantee places h =
    let parts = and_parts (in_bounds claims amount guarantee) (eqb places (length claims)) (not-false _ (clear 7 _ [] h).0) in
    (bounded claims amount guarantee parts.0, eqb-true places (length claims) parts.1)

-- the claims of an accepted input have a sum that fits
pub accepted_sum :
    (claims : List ℕ) (amount guarantee places : ℕ) → None ≡ first_hit (bounds_checks claims amount guarantee places) →
    sum claims < 2 ^ 32
accepted_sum claims amount guarantee places h =
    let b = (accepted claims amount guarantee places h).0 in
    sum_fits claims (omega (arith, b.few)) b.small

-- a rule that is asked within the bounds, with one place for each share, answers by its shares
pub asked :
    (rule : Sharing) (claims : List ℕ) (amount : ℕ) (mark : Option ℕ) (guarantee : ℕ) (before after : List Contracts) (r : Result (Unit {0}) Refusal) →
    Answered rule claims amount mark guarantee before after r → Bounded claims amount guarantee → length before ≡ length claims →
    counts after ≡ rule claims amount mark guarantee
asked rule claims amount mark guarantee before after (Ok u) a b e = a.shares_are
asked rule claims amount mark guarantee before after (Err x) a b e =
    let fits = in_bounds claims amount guarantee && eqb (length before) (length claims) in
    absurd (both_ways (not fits) (not_from_true fits (and_from _ _ (in_bounds_from claims amount guarantee b) (eq-eqb (length before) (length claims) e))) (hit 7 (not fits) (refusal_number x) a.answer_is))
