-- A loop that keeps what trades leave of the orders, and what it keeps in the words of the rules.
use Rattle.std.proofs.Common.{◌≡◌, ℕ, suc, ◌+◌, ◌<◌, ◌≤◌, min, Bool, true, false, cond, ltb, List, [], ◌∷◌, ◌++◌, map, length, get_or, take, drop, set, sym, refl, ap, ◌∙◌, arith}
use Rattle.std.proofs.lemmas.List.{append-nil, append_assoc, take_more_set, at_drop_more, at_drop_all}
use Rattle.std.proofs.lemmas.Bool.{cond-true, cond-false}
use Rattle.market.specs.Words.{standing}
use Rattle.market.specs.declared.order.Order.{Order}
use Rattle.rules.specs.Allocation.{after_trade, live}
use Rattle.book.specs.Places.{no_order}
use Rattle.book.specs.Settling.{traded_by, settled, Covered, traded_up_to, by_place, settled_up_to}

-- ---- in the words of the rules

module _ (p : Order → Bool) (f : Order → ℕ) where
  -- the fill of each order that passes is f of it
  abbrev pub FilledBy : List Order → List ℕ → Type 0
  FilledBy os ns = (k : ℕ) → k < length os → p (get_or os k no_order) ≡ true → get_or ns k 0 ≡ f (get_or os k no_order)

  traded_same : (o : Order) (n : ℕ) → (p o ≡ true → n ≡ f o) → traded_by p n o ≡ cond (p o) (after_trade (f o) o) o
  traded_same o n h = go (p o) h
    where
      go : (b : Bool) → (b ≡ true → n ≡ f o) → cond b (after_trade n o) o ≡ cond b (after_trade (f o) o) o
      go true h = ap (λ k. after_trade k o) (h refl)
      go false h = refl

  pub settled_is : (os : List Order) (ns : List ℕ) → length os ≡ length ns → FilledBy os ns → settled p os ns ≡ live (map (λ o. cond (p o) (after_trade (f o) o) o) os)
  settled_is [] ns e h = refl
  settled_is (o ∷ os) [] e h = absurd (omega arith)
  settled_is (o ∷ os) (n ∷ ns) e h =
      let a = traded_same o n (h 0 (omega arith)) in
      let b = settled_is os ns (omega arith) (λ k lt. h (suc k) (omega arith)) in
      (λ i. cond (ltb 0 (standing (a i))) (a i ∷ b i) (b i))

-- ---- fills that are covered

module _ (p : Order → Bool) where
  -- a fill of no more than stands of the order is traded whole
  traded_whole : (o : Order) (m n : ℕ) → m ≡ n → (p o ≡ true → n ≤ standing o) → traded_up_to p m o ≡ traded_by p n o
  traded_whole o m n e h = go (p o) h
    where
      go : (b : Bool) → (b ≡ true → n ≤ standing o) → cond b (after_trade (min m (standing o)) o) o ≡ cond b (after_trade n o) o
      go true h = let le = h refl in ap (λ k. after_trade k o) {x = min m (standing o)} {y = n} (omega arith)
      go false h = refl

  settled_from : (j : ℕ) (os : List Order) (ns all : List ℕ) → length os ≡ length ns →
      ((k : ℕ) → k < length os → get_or all (j + k) 0 ≡ get_or ns k 0) → Covered p os ns →
      live (by_place (λ k. traded_up_to p (get_or all k 0)) j os) ≡ settled p os ns
  settled_from j [] ns all e same h = refl
  settled_from j (o ∷ os) [] all e same h = absurd (omega arith)
  settled_from j (o ∷ os) (n ∷ ns) all e same h =
      let first : get_or all j 0 ≡ n = ap (λ k. get_or all k 0) {x = j} {y = j + 0} (omega arith) ∙ same 0 (omega arith) in
      let a = traded_whole o (get_or all j 0) n first (h 0 (omega arith)) in
      let b = settled_from (j + 1) os ns all (omega arith)
      (λ k lt. ap (λ i. get_or all i 0) {x = j + 1 + k} {y = j + suc k} (omega arith) ∙ same (suc k) (omega arith))
      (λ k lt. h (suc k) (omega arith)) in
      (λ i. cond (ltb 0 (standing (a i))) (a i ∷ b i) (b i))

  pub settled_exact : (os : List Order) (ns : List ℕ) → length os ≡ length ns → Covered p os ns → settled_up_to p os ns ≡ settled p os ns
  settled_exact os ns e h = settled_from 0 os ns ns e (λ k lt. ap (λ i. get_or ns i 0) {x = 0 + k} {y = k} (omega arith)) h

-- ---- the loop: `count` orders are left of the first i

module _ (change : ℕ → Order → Order) (os : List Order) where
  abbrev pub left_from : ℕ → List Order
  left_from i = live (by_place change i (drop i os))

  pub record Settles (out : List Order) (count i : ℕ) : Type 0 where
    pub front : take count out ++ left_from i ≡ live (by_place change 0 os)
    pub behind : count ≤ i

  module _ (out : List Order) (count i : ℕ) (w : Settles out count i) where
    module _ (in' : i < length os) (x : Order) (is : x ≡ change i (get_or os i no_order)) where
      step : left_from i ≡ cond (ltb 0 (standing x)) (x ∷ left_from (i + 1)) (left_from (i + 1))
      step =
          at_drop_more (λ (xs : List Order). live (by_place change i xs)) os i no_order in'
          ∙ ap (λ (y : Order). cond (ltb 0 (standing y)) (y ∷ left_from (i + 1)) (left_from (i + 1))) (sym is)

      pub settles_some : ltb 0 (standing x) ≡ true → count < length out → Settles (set out count x) (count + 1) (i + 1)
      settles_some some room =
          let low = w.behind in
          record {
            front =
                ap (λ zs. zs ++ left_from (i + 1)) (take_more_set out count x room)
                ∙ append_assoc (take count out) (x ∷ []) (left_from (i + 1))
                ∙ ap (λ zs. take count out ++ zs) (sym (step ∙ cond-true (ltb 0 (standing x)) _ _ some))
                ∙ w.front;
            behind = omega arith;
          }

      pub settles_none : ltb 0 (standing x) ≡ false → Settles out count (i + 1)
      settles_none none =
          let low = w.behind in
          record {
            front = ap (λ zs. take count out ++ zs) (sym (step ∙ cond-false (ltb 0 (standing x)) _ _ none)) ∙ w.front;
            behind = omega arith;
          }

    pub settles_all : length os ≤ i → take count out ≡ live (by_place change 0 os)
    settles_all le =
        sym (append-nil (take count out))
        ∙ ap (λ zs. take count out ++ zs) (sym (at_drop_all (λ (xs : List Order). live (by_place change i xs)) os i le))
        ∙ w.front
