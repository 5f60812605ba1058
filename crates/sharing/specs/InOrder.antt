-- Time with guarantee is lawful, and ignores a mark outside the list.
use Rattle.std.specs.Prelude.{◌≡◌, ℕ, zero, suc, ◌+◌, ◌-◌, ◌<◌, ◌≤◌, min, Bool, true, false, cond, List, [], ◌∷◌, length, set, Some, None, Decides, sum, Option, MatchOption, ◌≢◌, slice_index, slice_index_or, slice_set, refl}
use Rattle.std.proofs.Common.{sym, ap, subst, ◌∙◌}
use Rattle.std.proofs.Math.Logic.{⊎_elim}
use native.Mathlib.Omega.{arith}
use Rattle.std.proofs.Math.ListN.{length-set}
use Rattle.std.proofs.lemmas.List.{get_or-set_same, get_or-set_other, get_or_past, set_past}
use Rattle.std.proofs.lemmas.List.Sums.{sum_by-cons, sum_by-set}
use Rattle.std.proofs.lemmas.Bool.{cases_lt, cases_eq, cases_Bool, cond-true, cond-false, both_ways}
use Rattle.sharing.specs.Sharing.{Shares, Lawful}
use Rattle.sharing.specs.Time.{in_order, others, assured, time_with_guarantee}

pub length_others : (cs : List ℕ) (mark : Option ℕ) → length (others cs mark) ≡ length cs
length_others cs None = refl
length_others cs (Some m) = length-set cs m 0

-- the claim at a place, by the test whether it is the marked one
pub others_at :
    (cs : List ℕ) (mark : Option ℕ) (i : ℕ) (r : Bool) → i < length cs → MatchOption mark (r ≡ false) (λ m. Decides r (m ≡ i)) →
    slice_index (others cs mark) i ≡ cond r 0 (slice_index cs i)
others_at cs None i r h no-mark = sym (cond-false r 0 (slice_index cs i) no-mark)
others_at cs (Some m) i r h test =
    ⊎_elim
    (λ (yes' : r ≡ true). ap (λ k. slice_index (slice_set cs m 0) k) (sym (test.0 yes')) ∙ get_or-set_same cs m 0 0 (rw (test.0 yes') h) ∙ sym (cond-true r 0 (slice_index cs i) yes'))
    (λ (no' : r ≡ false). get_or-set_other cs m i 0 0 (λ e. both_ways r no' (test.1 (sym e))) ∙ sym (cond-false r 0 (slice_index cs i) no'))
    (cases_Bool r)

pub length_in_order : (cs : List ℕ) (left : ℕ) → length (in_order cs left) ≡ length cs
length_in_order [] left = refl
length_in_order (c ∷ cs) left = ap suc (length_in_order cs (left - c))

pub in_order_le : (cs : List ℕ) (left k : ℕ) → slice_index (in_order cs left) k ≤ slice_index cs k
in_order_le [] left k = omega arith
in_order_le (c ∷ cs) left zero = omega arith
in_order_le (c ∷ cs) left (suc k) = in_order_le cs (left - c) k

sum_cons : (x : ℕ) (xs : List ℕ) → sum (x ∷ xs) ≡ x + sum xs
sum_cons x xs = sum_by-cons (λ y. y) x xs

pub sum_in_order : (cs : List ℕ) (left : ℕ) → sum (in_order cs left) ≡ min left (sum cs)
sum_in_order [] left = omega arith
sum_in_order (c ∷ cs) left =
    omega (arith, sum_cons c cs, sum_cons (min c left) (in_order cs (left - c)), sum_in_order cs (left - c))

-- a list with another number at one place
sum_set : (xs : List ℕ) (i y : ℕ) → i < length xs → sum (slice_set xs i y) + slice_index xs i ≡ sum xs + y
sum_set xs i y h = sum_by-set (λ x. x) xs i y 0 h

pub in_order_shares : (cs : List ℕ) (amount : ℕ) → Shares cs amount (in_order cs amount)
in_order_shares cs amount =
    record { each = length_in_order cs amount; within = in_order_le cs amount; all = sum_in_order cs amount }

module _ (cs : List ℕ) (amount m guarantee : ℕ) where
  first : ℕ
  first = assured cs amount m guarantee

  rest : List ℕ
  rest = in_order (slice_set cs m 0) (amount - first)

  marked : ℕ
  marked = first + min (slice_index cs m - first) (amount - first - sum rest)

  inside : m < length cs → Shares cs amount (slice_set rest m marked)
  unfolding first rest marked
  inside h =
      let long : length rest ≡ length cs = length_in_order (slice_set cs m 0) (amount - first) ∙ length-set cs m 0 in
      let none : slice_index_or (slice_set cs m 0) m 0 ≡ 0 = get_or-set_same cs m 0 0 h in
      let empty : slice_index_or rest m 0 ≡ 0 = omega (arith, in_order_le (slice_set cs m 0) (amount - first) m) in
      let here : slice_index_or (slice_set rest m marked) m 0 ≡ marked = get_or-set_same rest m marked 0 (omega arith) in
      let here-le : slice_index_or (slice_set rest m marked) m 0 ≤ slice_index_or cs m 0 = omega arith in
      let there : (k : ℕ) → (k ≢ m) → slice_index (slice_set rest m marked) k ≤ slice_index_or cs k 0 =
      λ k ne. omega (arith, get_or-set_other rest m k marked 0 ne, get_or-set_other cs m k 0 0 ne, in_order_le (slice_set cs m 0) (amount - first) k) in
      record {
        each = length-set rest m marked ∙ long;
        within = λ k. ⊎_elim (λ e. rw e here-le) (there k) (cases_eq k m);
        all = omega (arith, sum_set cs m 0 h, sum_set rest m marked (omega arith), sum_in_order (slice_set cs m 0) (amount - first));
      }

-- a mark outside the list counts as none
pub outside_mark :
    (cs : List ℕ) (amount m guarantee : ℕ) → length cs ≤ m → time_with_guarantee cs amount (Some m) guarantee ≡ in_order cs amount
unfolding first rest marked
outside_mark cs amount m guarantee past =
    let f = first cs amount m guarantee in
    let none : slice_index_or cs m 0 ≡ 0 = get_or_past cs m 0 past in
    let all : amount - f ≡ amount = omega arith in
    let long : length (slice_set cs m 0) ≡ length cs = length-set cs m 0 in
    set_past (rest cs amount m guarantee) m _ (omega (arith, length_in_order (slice_set cs m 0) (amount - f)))
    ∙ ap (λ xs. in_order xs (amount - f)) (set_past cs m 0 past)
    ∙ ap (in_order cs) all

pub time_with_guarantee_lawful : Lawful time_with_guarantee
unfolding first rest marked
time_with_guarantee_lawful cs amount None guarantee fits = in_order_shares cs amount
time_with_guarantee_lawful cs amount (Some m) guarantee fits =
    ⊎_elim (inside cs amount m guarantee)
    (λ past. subst (Shares cs amount) (sym (outside_mark cs amount m guarantee past)) (in_order_shares cs amount))
    (cases_lt m (length cs))

-- the shares as the code comes to them: the others filled, then the marked claim's two parts
pub marked_written :
    (cs : List ℕ) (amount m guarantee first left last : ℕ) →
    first ≡ assured cs amount m guarantee → left ≡ amount - first - sum (slice_set cs m 0) → last ≡ min left (slice_index cs m - first) →
    slice_set (in_order (slice_set cs m 0) (amount - first)) m (first + last) ≡ time_with_guarantee cs amount (Some m) guarantee
marked_written cs amount m guarantee f left last isF isLeft is_last =
    let filled = sum_in_order (slice_set cs m 0) (amount - f) in
    let end : last ≡ min (slice_index cs m - f) (amount - f - sum (in_order (slice_set cs m 0) (amount - f))) = omega arith in
    let build : ℕ → List ℕ =
    λ x. set (in_order (slice_set cs m 0) (amount - x)) m (x + min (slice_index cs m - x) (amount - x - sum (in_order (slice_set cs m 0) (amount - x)))) in
    ap (λ x. set (in_order (slice_set cs m 0) (amount - f)) m (f + x)) end ∙ ap build isF
