-- The numbers in a list of contracts.
use Rattle.std.proofs.Common.{◌≡◌, ℕ, zero, suc, ◌+◌, ◌^◌, ◌<◌, ◌≤◌, List, [], ◌∷◌, ◌++◌, length, get_or, take, drop, set, sum, sym, refl, ap, ◌∙◌, arith}
use lib.ListN.{length-map}
use Rattle.std.proofs.lemmas.List.{map-set, take_more_set, drop_more, append_assoc, drop-set-lt}
use Rattle.std.proofs.lemmas.List.Sums.{sum_by-le}
use Rattle.std.proofs.lemmas.List.Elements.{All-from_get_or}
use Rattle.market.specs.declared.units.Contracts.{Contracts}
use Rattle.sharing.specs.Asked.{counts}

pub length_counts : (cs : List Contracts) → length (counts cs) ≡ length cs
length_counts cs = length-map cs (λ c. c.count)

pub counts_at : (cs : List Contracts) (i : ℕ) → get_or (counts cs) i 0 ≡ (get_or cs i (record { count = 0 })).count
counts_at [] i = refl
counts_at (c ∷ cs) zero = refl
counts_at (c ∷ cs) (suc i) = counts_at cs i

pub counts_set : (cs : List Contracts) (i : ℕ) (v : Contracts) → counts (set cs i v) ≡ set (counts cs) i v.count
counts_set cs i v = map-set (λ (c : Contracts). c.count) cs i v

-- a loop that cuts one share after the other: what F gives of the claims that are left begins with v
pub cut_more :
    (ss : List Contracts) (i : ℕ) (v : Contracts) (F G : List ℕ → List ℕ) → i < length ss →
    ((rest : List ℕ) → F (get_or (counts ss) i 0 ∷ rest) ≡ v.count ∷ G rest) →
    take (i + 1) (counts (set ss i v)) ++ G (drop (i + 1) (counts (set ss i v))) ≡ take i (counts ss) ++ F (drop i (counts ss))
cut_more ss i v F G h step =
    let xs = counts ss in
    let inside : i < length xs = omega (arith, length_counts ss) in
    ap (λ ys. take (i + 1) ys ++ G (drop (i + 1) ys)) (counts_set ss i v)
    ∙ ap (λ ys. take (i + 1) (set xs i v.count) ++ G ys) (drop-set-lt (i + 1) xs i v.count (omega arith))
    ∙ ap (λ ys. ys ++ G (drop (i + 1) xs)) (take_more_set xs i v.count inside)
    ∙ append_assoc (take i xs) (v.count ∷ []) (G (drop (i + 1) xs))
    ∙ ap (λ ys. take i xs ++ ys) (sym (step (drop (i + 1) xs)))
    ∙ ap (λ ys. take i xs ++ F ys) (sym (drop_more xs i 0 inside))

-- 161 claims of at most 9,999 contracts have a sum that fits
pub sum_fits : (xs : List ℕ) → length xs ≤ 161 → ((k : ℕ) → get_or xs k 0 ≤ 9999) → sum xs < 2 ^ 32
sum_fits xs few small = omega (arith, sum_by-le (λ x. x) 9999 xs (All-from_get_or (λ x. x ≤ 9999) xs 0 (λ k h. small k)))
