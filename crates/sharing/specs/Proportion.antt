-- Sharing in proportion is lawful, and near the exact fractions.
use Rattle.std.specs.Prelude.{◌≡◌, ℕ, zero, suc, ◌+◌, ◌-◌, ◌*◌, ◌%◌, ◌<◌, ◌≤◌, min, List, [], ◌∷◌, length, sum_by, sum, Option, nat_le, slice_index, refl}
use Rattle.std.proofs.Common.{sym, ap, ◌∙◌, ⊎_elim, div-add-mod', mod-lt, add-mul, mul_comm, mul-le-mul_left, lt_of_mul-lt-mul_right, le_of_mul-le-mul_right, arith}
use Rattle.std.proofs.lemmas.List.Sums.{sum_by-cons}
use Rattle.std.proofs.lemmas.Bool.{cases_lt, leb-true, leb-false, lt-leb, cond_both, cond-false}
use Rattle.sharing.specs.Sharing.{Shares, Lawful, IgnoresOutsideMarks}
use Rattle.sharing.specs.ProRata.{part, extra, parts, pro_rata, Near}

module _ (a t : ℕ) where
  abbrev left_over : ℕ → ℕ
  left_over c = c * a % t

  abbrev one : ℕ → ℕ
  one c = min 1 (left_over c)

  divided : (c : ℕ) → part a t c * t + left_over c ≡ c * a
  divided c = div-add-mod' (c * a) t

  pub length_parts : (cs : List ℕ) (spare : ℕ) → length (parts a t cs spare) ≡ length cs
  length_parts [] spare = refl
  length_parts (c ∷ cs) spare = ap suc (length_parts cs (spare - extra a t c spare))

  -- what holds of each claim and its share
  parts_at :
      (P : ℕ → ℕ → Type 0) → P 0 0 → ((c spare : ℕ) → P c (part a t c + extra a t c spare)) →
      (cs : List ℕ) (spare k : ℕ) → P (slice_index cs k) (slice_index (parts a t cs spare) k)
  parts_at P none each [] spare k = none
  parts_at P none each (c ∷ cs) spare zero = each c spare
  parts_at P none each (c ∷ cs) spare (suc k) = parts_at P none each cs (spare - extra a t c spare) k

  sum_divided : (cs : List ℕ) → sum_by (part a t) cs * t + sum_by left_over cs ≡ sum cs * a
  sum_divided [] = omega arith
  sum_divided (c ∷ cs) =
      let p = part a t c in
      let ps = sum_by (part a t) cs in
      let times-t : sum_by (part a t) (c ∷ cs) * t ≡ p * t + ps * t = ap (λ x. x * t) (sum_by-cons (part a t) c cs) ∙ add-mul p ps t in
      let times-a : sum (c ∷ cs) * a ≡ c * a + sum cs * a = ap (λ x. x * a) (sum_by-cons (λ x. x) c cs) ∙ add-mul c (sum cs) a in
      omega (arith, sum_by-cons left_over c cs, divided c, sum_divided cs)

  sum_parts : (cs : List ℕ) (spare : ℕ) → sum (parts a t cs spare) ≡ sum_by (part a t) cs + min spare (sum_by one cs)
  sum_parts [] spare = omega arith
  sum_parts (c ∷ cs) spare =
      let e = extra a t c spare in
      omega (arith, sum_by-cons (part a t) c cs, sum_by-cons one c cs, sum_by-cons (λ x. x) (part a t c + e) (parts a t cs (spare - e)), sum_parts cs (spare - e))

  -- a product with 0 or 1
  times : (x n : ℕ) → x ≡ n → x * t ≡ n * t
  times x n e = ap (λ y. y * t) e

  module _ (less : a < t) where
    pub share_le : (c spare : ℕ) → part a t c + extra a t c spare ≤ c
    share_le c spare =
        let d = divided c in
        let most : c * a ≤ c * t = mul-le-mul_left c (omega arith) in
        ⊎_elim
        (λ some. let below : part a t c < c = lt_of_mul-lt-mul_right t (omega arith) in omega arith)
        (λ none. let upto : part a t c ≤ c = le_of_mul-le-mul_right {k = t} (omega arith) (omega arith) in omega arith)
        (cases_lt 0 (left_over c))

    pub part_le : (c : ℕ) → part a t c ≤ c
    part_le c = omega (arith, share_le c 0)

    share_near : (c spare : ℕ) → ((part a t c + extra a t c spare) * t < c * a + t) × (c * a < (part a t c + extra a t c spare) * t + t)
    share_near c spare =
        let e = extra a t c spare in
        let d = divided c in
        let small : left_over c < t = mod-lt (c * a) (omega arith) in
        let apart : (part a t c + e) * t ≡ part a t c * t + e * t = add-mul (part a t c) e t in
        ⊎_elim
        (λ some. let one_more = times e 1 (omega arith) in (omega arith, omega arith))
        (λ none. let no_more = times e 0 (omega arith) in (omega arith, omega arith))
        (cases_lt 0 e)

    left_over_one : (c : ℕ) → left_over c ≤ one c * t
    left_over_one c =
        let small : left_over c < t = mod-lt (c * a) (omega arith) in
        ⊎_elim (λ some. omega (arith, times (one c) 1 (omega arith))) (λ none. omega arith) (cases_lt 0 (left_over c))

    -- each remainder is below the total, so there are at least as many of them as the contracts that they make together
    left_over_le : (cs : List ℕ) → sum_by left_over cs ≤ sum_by one cs * t
    left_over_le [] = omega arith
    left_over_le (c ∷ cs) =
        let times-t : sum_by one (c ∷ cs) * t ≡ one c * t + sum_by one cs * t = ap (λ x. x * t) (sum_by-cons one c cs) ∙ add-mul (one c) (sum_by one cs) t in
        omega (arith, sum_by-cons left_over c cs, left_over_one c, left_over_le cs)

    module _ (cs : List ℕ) (whole : sum cs ≡ t) where
      all_divided : sum_by (part a t) cs * t + sum_by left_over cs ≡ a * t
      all_divided = sum_divided cs ∙ ap (λ x. x * a) whole ∙ mul_comm t a

      -- the parts rounded down come to no more than the amount
      pub sum_part_le : sum_by (part a t) cs ≤ a
      sum_part_le = le_of_mul-le-mul_right {k = t} (omega (arith, all_divided)) (omega arith)

      spare_le : a - sum_by (part a t) cs ≤ sum_by one cs
      spare_le =
          let s = sum_by (part a t) cs in
          let rest : (s + (a - s)) * t ≡ s * t + (a - s) * t = add-mul s (a - s) t in
          let again : (s + (a - s)) * t ≡ a * t = ap (λ x. x * t) (omega (arith, sum_part_le)) in
          le_of_mul-le-mul_right {k = t} (omega (arith, all_divided, left_over_le cs)) (omega arith)

      pub parts_shares : Shares cs a (parts a t cs (a - sum_by (part a t) cs))
      parts_shares =
          let spare = a - sum_by (part a t) cs in
          record {
            each = length_parts cs spare;
            within = parts_at (λ c s. s ≤ c) (omega arith) share_le cs spare;
            all = omega (arith, sum_parts cs spare, sum_part_le, spare_le);
          }

    pub parts_near : (cs : List ℕ) (spare k : ℕ) → (slice_index (parts a t cs spare) k * t < slice_index cs k * a + t) × (slice_index cs k * a < slice_index (parts a t cs spare) k * t + t)
    parts_near = parts_at (λ c s. (s * t < c * a + t) × (c * a < s * t + t)) (omega arith, omega arith) share_near

covered_shares : (cs : List ℕ) (a : ℕ) → sum cs ≤ a → Shares cs a cs
covered_shares cs a h = record { each = refl; within = λ k. omega arith; all = omega arith }

-- where the amount does not cover all claims
pub pro_rata_parts :
    (cs : List ℕ) (a t : ℕ) (mark : Option ℕ) (guarantee : ℕ) → t ≡ sum cs → a < t →
    pro_rata cs a mark guarantee ≡ parts a t cs (a - sum_by (part a t) cs)
pro_rata_parts cs a t mark guarantee whole less =
    cond-false (nat_le (sum cs) a) _ _ (lt-leb (sum cs) a (omega arith)) ∙ ap (λ x. parts a x cs (a - sum_by (part a x) cs)) (sym whole)

pub pro_rata_near : (cs : List ℕ) (a : ℕ) (mark : Option ℕ) (guarantee : ℕ) → Near cs a (pro_rata cs a mark guarantee)
pro_rata_near cs a mark guarantee less k =
    rw (pro_rata_parts cs a (sum cs) mark guarantee refl less) (parts_near a (sum cs) less cs (a - sum_by (part a (sum cs)) cs) k)

pub pro_rata_lawful : Lawful pro_rata
pro_rata_lawful cs a mark guarantee bounded =
    cond_both (nat_le (sum cs) a) _ _ (Shares cs a)
    (λ e. covered_shares cs a (leb-true (sum cs) a e))
    (λ e. parts_shares a (sum cs) (leb-false (sum cs) a e) cs refl)

pub ignores_marks : IgnoresOutsideMarks pro_rata
ignores_marks cs a m guarantee past = refl
