-- Walks over a list of orders by a test.
use Rattle.std.proofs.Common.{◌≡◌, ℕ, ◌+◌, ◌*◌, ◌<◌, ◌≤◌, Bool, true, false, cond, List, [], ◌∷◌, ◌++◌, length, get_or, take, Some, sum_by, filter, refl, ap, arith, length-take}
use Rattle.std.specs.List.{AllByRecursion, find}
use Rattle.std.proofs.lemmas.List.Elements.{filter_more}
use Rattle.std.proofs.ByRecursion.{All-take, all_kept_by, sum_by_le}
use Rattle.std.proofs.lemmas.List.Sums.{length-filter, sum_by-append, count_by-le-length}
use Rattle.std.proofs.lemmas.Bool.{cond-true, cond-false}
use Rattle.market.specs.declared.order.Order.{Order}
use Rattle.market.specs.Words.{standing}
use Rattle.rules.specs.Series.{found}
use Rattle.book.specs.Places.{no_order}

-- sums over what passes
module _ (p : Order → Bool) (f : Order → ℕ) (os : List Order) (i : ℕ) (in' : i < length os) where
  pub kept_sum_yes : p (get_or os i no_order) ≡ true → sum_by f (filter p (take (i + 1) os)) ≡ sum_by f (filter p (take i os)) + f (get_or os i no_order)
  kept_sum_yes h =
      let x = get_or os i no_order in
      let m = ap (sum_by f) (filter_more p os i no_order in') in
      let c = ap (λ (ys : List Order). sum_by f (filter p (take i os) ++ ys)) (cond-true (p x) (x ∷ []) [] h) in
      let s = sum_by-append f (filter p (take i os)) (x ∷ []) in
      omega arith

  pub kept_sum_no : p (get_or os i no_order) ≡ false → sum_by f (filter p (take (i + 1) os)) ≡ sum_by f (filter p (take i os))
  kept_sum_no h =
      let x = get_or os i no_order in
      let m = ap (sum_by f) (filter_more p os i no_order in') in
      let c = ap (λ (ys : List Order). sum_by f (filter p (take i os) ++ ys)) (cond-false (p x) (x ∷ []) [] h) in
      let s = sum_by-append f (filter p (take i os)) [] in
      omega arith

-- what stands of some of at most 161 orders
pub kept_sum_small : (p : Order → Bool) (os : List Order) (i : ℕ) → length os ≤ 161 → AllByRecursion (λ o. standing o ≤ 9999) os → sum_by standing (filter p (take i os)) ≤ 1609839
kept_sum_small p os i few small =
    let a = sum_by_le standing 9999 (filter p (take i os)) (all_kept_by p (λ o. standing o ≤ 9999) (take i os) (All-take (λ o. standing o ≤ 9999) i os small)) in
    let b = length-filter p (take i os) in
    let c = count_by-le-length p (take i os) in
    let d = length-take i os in
    few_times (length (filter p (take i os))) (sum_by standing (filter p (take i os))) (omega arith) a
  where
    few_times : (n s : ℕ) → n ≤ 161 → s ≤ n * 9999 → s ≤ 1609839
    few_times n s le h = omega arith

-- the first that passes, in the words of the rules
pub found_is : (p : Order → Bool) (os : List Order) → find p os ≡ found p os
found_is p [] = refl
found_is p (o ∷ os) = ap (λ r. cond (p o) (Some o) r) (found_is p os)
