-- Members of lists, filters and folds, and a walk from the back.
use Rattle.std.proofs.Common.{◌≡◌, ℕ, zero, suc, ◌+◌, ◌<◌, Bool, cond, ◌⊎◌, List, [], ◌∷◌, ◌++◌, length, get_or, take, fold, filter, sym, refl, ap, ◌∙◌, inl, inr, arith}
use Rattle.std.specs.List.{ContainsAt as Has, push}
use Rattle.std.proofs.Math.Seq.{get_or-append_seam, take-append_seam}
use Rattle.std.proofs.lemmas.List.{get_or-take, length-append, length-take, take-take}
use Rattle.std.proofs.lemmas.Bool.{cond_both, cond-true, cond-false}

pub has_here : {X : Type 0} (x : X) (xs : List X) (y : X) → x ≡ y → Has (x ∷ xs) y
has_here x xs y e = (0, omega arith, λ d. e)

pub has_cases : {X : Type 0} (x : X) (xs : List X) (y : X) → Has (x ∷ xs) y → (x ≡ y) ⊎ Has xs y
has_cases x xs y h = go h.0 h.1 h.2
  where
    go : (k : ℕ) → k < length (x ∷ xs) → ((d : _) → get_or (x ∷ xs) k d ≡ y) → (x ≡ y) ⊎ Has xs y
    go zero l at = inl (at x)
    go (suc k) l at = inr (k, omega arith, at)

pub has_none : {X Y : Type 0} (x : X) → Has [] x → Y
has_none x h = absurd (omega (arith, h.1))

pub folded_kept : {A B : Type 0} (f : B → A → B) (p : A → Bool) (b : B) (xs : List A) → fold (λ c x. cond (p x) (f c x) c) b xs ≡ fold f b (filter p xs)
folded_kept f p b [] = refl
folded_kept f p b (x ∷ xs) =
    folded_kept f p (cond (p x) (f b x) b) xs ∙
    cond_both (p x) (x ∷ filter p xs) (filter p xs) (λ ys. fold f (cond (p x) (f b x) b) (filter p xs) ≡ fold f b ys)
    (λ t. ap (λ c. fold f c (filter p xs)) (cond-true (p x) (f b x) b t)) (λ t. ap (λ c. fold f c (filter p xs)) (cond-false (p x) (f b x) b t))

-- of xs those left are in front, and x, the last of them, is taken off
pub record FromBack {X : Type 0} (xs left next : List X) (x d : X) : Type 0 where
  pub one : length left ≡ length next + 1
  pub front : next ≡ take (length next) xs
  pub inside : length next < length xs
  pub is : x ≡ get_or xs (length next) d

pub from_back : {X : Type 0} (xs left next : List X) (x d : X) → left ≡ take (length left) xs → left ≡ push next x → FromBack xs left next x d
from_back xs left next x d front e =
    let m = length next in
    let one : length left ≡ m + 1 = ap length e ∙ length-append next (x ∷ []) in
    let cut = ap length front ∙ length-take (length left) xs in
    let split : next ++ x ∷ [] ≡ take (m + 1) xs = sym e ∙ front ∙ ap (λ (k : ℕ). take k xs) one in
    record {
      one = one;
      front = sym (take-append_seam next (x ∷ [])) ∙ ap (take m) split ∙ take-take m (m + 1) xs (omega arith);
      inside = omega arith;
      is = sym (get_or-append_seam next x [] d) ∙ ap (λ ys. get_or ys m d) split ∙ get_or-take (m + 1) xs m d (omega arith);
    }
