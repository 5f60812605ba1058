-- The opening price is never outdone on the grid.
use Rattle.std.proofs.Common.{◌≡◌, ℕ, zero, suc, ◌+◌, ◌<◌, ◌≤◌, Bool, true, false, cond, ◌&&◌, ◌||◌, eqb, ltb, leb, ◌⊎◌, List, [], ◌∷◌, Some, None, filter, Option, sym, refl, ap, ◌∙◌, subst, inl, inr, ⊎_elim, arith}
use Rattle.std.specs.List.{ContainsAt as Has, AllByRecursion, best_of}
use Rattle.std.specs.Cmp.{IsStrictWeakOrder}
use Rattle.std.proofs.lemmas.List.MinMax.{IsStrictWeakOrder-by_number, IsFirstBest-from_best_of}
use Rattle.std.proofs.ByRecursion.{kept_by_passes}
use Rattle.std.proofs.lemmas.Bool.{ltb-true, cases_lt, ltb-false, lt-ltb, le-ltb, leb-true, ne_eqb, eq-eqb, both_ways, cases_order, cases_eq, and_parts}
use Rattle.market.specs.Spans.{on_grid, price_in_span}
use Rattle.market.specs.declared.order.Order.{Order}
use Rattle.rules.specs.Opening.{IsTop, TopIsTheTop, best_price, counted, grid, opens_better, top}
use Rattle.rules.specs.Prices.{distance, far_off}
use Rattle.rules.specs.Volume.{matched_volume, of_order, surplus}
use Rattle.rules.proofs.Matching.{has_to_kept, has_cons}
use Rattle.rules.proofs.Steps.{zero_one}

-- ---- one test, then another among equals

lex_lt : (u v : ℕ) (r : Bool) → u < v → (ltb u v || (eqb u v && r)) ≡ true
lex_lt u v r l = ap (λ b. b || (eqb u v && r)) (lt-ltb u v l)

lex_gt : (u v : ℕ) (r : Bool) → v < u → (ltb u v || (eqb u v && r)) ≡ false
lex_gt u v r l = (λ i. le-ltb u v (weak u v l) i || (ne_eqb u v (apart u v l) i && r))
  where
    weak : (u v : ℕ) → v < u → v ≤ u
    weak u v l = omega arith

    apart : (u v : ℕ) → v < u → u ≡ v → ⊥
    apart u v l e = omega arith

lex_eq : (u v : ℕ) (r : Bool) → u ≡ v → (ltb u v || (eqb u v && r)) ≡ r
lex_eq u v r e = (λ i. le-ltb u v (weak u v e) i || (eq-eqb u v e i && r))
  where
    weak : (u v : ℕ) → u ≡ v → v ≤ u
    weak u v e = omega arith

lex_false : (u v : ℕ) (r : Bool) → (ltb u v || (eqb u v && r)) ≡ false → (v < u) ⊎ ((u ≡ v) × (r ≡ false))
lex_false u v r e = ⊎_elim (λ (q : u ≡ v). inr (q, sym (lex_eq u v r q) ∙ e)) (⊎_elim (λ (l : u < v). absurd (both_ways (ltb u v || (eqb u v && r)) e (lex_lt u v r l))) (λ (l : v < u). inl l)) (cases_order u v)

lex_true : (u v : ℕ) (r : Bool) → (ltb u v || (eqb u v && r)) ≡ true → (u < v) ⊎ ((u ≡ v) × (r ≡ true))
lex_true u v r e = ⊎_elim (λ (q : u ≡ v). inr (q, sym (lex_eq u v r q) ∙ e)) (⊎_elim (λ (l : u < v). inl l) (λ (l : v < u). absurd (both_ways (ltb u v || (eqb u v && r)) (lex_gt u v r l) e))) (cases_order u v)

-- the smaller f first
lex_least : (f : ℕ → ℕ) (rest : ℕ → ℕ → Bool) → IsStrictWeakOrder rest → IsStrictWeakOrder (λ x y. ltb (f x) (f y) || (eqb (f x) (f y) && rest x y))
lex_least f rest k = record { one_way = one; chain = two }
  where
    one : (x y : ℕ) → (ltb (f x) (f y) || (eqb (f x) (f y) && rest x y)) ≡ true → (ltb (f y) (f x) || (eqb (f y) (f x) && rest y x)) ≡ false
    one x y e = ⊎_elim (λ (l : f x < f y). lex_gt (f y) (f x) (rest y x) l) (λ (q : (f x ≡ f y) × (rest x y ≡ true)). lex_eq (f y) (f x) (rest y x) (sym q.0) ∙ k.one_way x y q.1) (lex_true (f x) (f y) (rest x y) e)

    join : (x y z : ℕ) → (f y < f x) ⊎ ((f x ≡ f y) × (rest x y ≡ false)) → (f z < f y) ⊎ ((f y ≡ f z) × (rest y z ≡ false)) → (ltb (f x) (f z) || (eqb (f x) (f z) && rest x z)) ≡ false
    join x y z (inl p) (inl q) = lex_gt (f x) (f z) (rest x z) (omega arith)
    join x y z (inl p) (inr q) = lex_gt (f x) (f z) (rest x z) (omega (arith, q.0))
    join x y z (inr p) (inl q) = lex_gt (f x) (f z) (rest x z) (omega (arith, p.0))
    join x y z (inr p) (inr q) = lex_eq (f x) (f z) (rest x z) (p.0 ∙ q.0) ∙ k.chain x y z p.1 q.1

    two : (x y z : ℕ) → (ltb (f x) (f y) || (eqb (f x) (f y) && rest x y)) ≡ false → (ltb (f y) (f z) || (eqb (f y) (f z) && rest y z)) ≡ false → (ltb (f x) (f z) || (eqb (f x) (f z) && rest x z)) ≡ false
    two x y z a b = join x y z (lex_false (f x) (f y) (rest x y) a) (lex_false (f y) (f z) (rest y z) b)

-- the greater f first
lex_most : (f : ℕ → ℕ) (rest : ℕ → ℕ → Bool) → IsStrictWeakOrder rest → IsStrictWeakOrder (λ x y. ltb (f y) (f x) || (eqb (f y) (f x) && rest x y))
lex_most f rest k = record { one_way = one; chain = two }
  where
    one : (x y : ℕ) → (ltb (f y) (f x) || (eqb (f y) (f x) && rest x y)) ≡ true → (ltb (f x) (f y) || (eqb (f x) (f y) && rest y x)) ≡ false
    one x y e = ⊎_elim (λ (l : f y < f x). lex_gt (f x) (f y) (rest y x) l) (λ (q : (f y ≡ f x) × (rest x y ≡ true)). lex_eq (f x) (f y) (rest y x) (sym q.0) ∙ k.one_way x y q.1) (lex_true (f y) (f x) (rest x y) e)

    join : (x y z : ℕ) → (f x < f y) ⊎ ((f y ≡ f x) × (rest x y ≡ false)) → (f y < f z) ⊎ ((f z ≡ f y) × (rest y z ≡ false)) → (ltb (f z) (f x) || (eqb (f z) (f x) && rest x z)) ≡ false
    join x y z (inl p) (inl q) = lex_gt (f z) (f x) (rest x z) (omega arith)
    join x y z (inl p) (inr q) = lex_gt (f z) (f x) (rest x z) (omega (arith, q.0))
    join x y z (inr p) (inl q) = lex_gt (f z) (f x) (rest x z) (omega (arith, p.0))
    join x y z (inr p) (inr q) = lex_eq (f z) (f x) (rest x z) (q.0 ∙ p.0) ∙ k.chain x y z p.1 q.1

    two : (x y z : ℕ) → (ltb (f y) (f x) || (eqb (f y) (f x) && rest x y)) ≡ false → (ltb (f z) (f y) || (eqb (f z) (f y) && rest y z)) ≡ false → (ltb (f z) (f x) || (eqb (f z) (f x) && rest x z)) ≡ false
    two x y z a b = join x y z (lex_false (f y) (f x) (rest x y) a) (lex_false (f z) (f y) (rest y z) b)

pub opens_ranks : (os : List Order) (close : ℕ) → IsStrictWeakOrder (opens_better os close)
opens_ranks os close = lex_most (matched_volume of_order os) _ (lex_least (surplus of_order os) _ (lex_least (λ q. distance q close) (λ q p. ltb q p) (IsStrictWeakOrder-by_number (λ q. q))))

-- ---- the grid

counted_has : (a n q : ℕ) → a ≤ q → q < a + n → Has (counted a n) q
counted_has a zero q p l = absurd (go p l)
  where
    go : a ≤ q → q < a + 0 → ⊥
    go p l = omega arith
counted_has a (suc n) q p l =
    let ih = counted_has (1 + a) n q in
    ⊎_elim (λ (e : q ≡ a). subst (Has (a ∷ counted (1 + a) n)) (sym e) (0, omega arith, λ d. refl)) (λ k. has_cons a (counted (1 + a) n) q (ih (more p k) (less l))) (cases_eq q a)
  where
    more : a ≤ q → (q ≡ a → ⊥) → 1 + a ≤ q
    more l k = omega arith

    less : q < a + suc n → q < 1 + a + n
    less l = omega arith

gridded_has : (n q : ℕ) → on_grid q ≡ true → q ≤ n → Has (filter on_grid (counted 1 n)) q
gridded_has n q e l = has_to_kept on_grid (counted 1 n) q (counted_has 1 n q (leb-true 1 q (and_parts (leb 1 q) _ (and_parts (price_in_span q) _ e).0).0) (omega arith)) e

grid_has : (q : ℕ) → on_grid q ≡ true → Has grid q
unfolding grid
grid_has q e = gridded_has 99999 q e (leb-true q 99999 (and_parts (leb 1 q) _ (and_parts (price_in_span q) _ e).0).1)

grid_all : AllByRecursion (λ q. on_grid q ≡ true) grid
unfolding grid
grid_all = kept_by_passes on_grid (counted 1 99999)

-- ---- the best price

best_all : {X : Type 0} (beats : X → X → Bool) (P : X → Type 0) (a : X) (xs : List X) → P a → AllByRecursion P xs → P (best_of beats a xs)
best_all beats P a [] p h = p
best_all beats P a (x ∷ xs) p h = best_all beats P (cond (beats x a) x a) xs (go (beats x a)) h.1
  where
    go : (b : Bool) → P (cond b x a)
    go true = h.0
    go false = p

module _ (os : List Order) (close : ℕ) where
  pub best_on_grid : on_grid (best_price os close) ≡ true
  best_on_grid = best_all (opens_better os close) (λ q. on_grid q ≡ true) 5 grid refl grid_all

  pub unbeaten : (q : ℕ) → on_grid q ≡ true → opens_better os close q (best_price os close) ≡ false
  unbeaten q e =
      let f = IsFirstBest-from_best_of (opens_ranks os close) 5 grid in
      let h = has_cons 5 grid q (grid_has q e) in
      (λ i. opens_better os close (sym (h.2 5) i) (sym f.2 i)) ∙ f.1.1 h.0 5 h.1

  never : (q : ℕ) → on_grid q ≡ true →
      ((matched_volume of_order os (best_price os close) < matched_volume of_order os q) ⊎
      (((matched_volume of_order os (best_price os close) ≡ matched_volume of_order os q) × (surplus of_order os q < surplus of_order os (best_price os close))) ⊎
      ((matched_volume of_order os (best_price os close) ≡ matched_volume of_order os q) × (surplus of_order os q ≡ surplus of_order os (best_price os close)) × (distance q close < distance (best_price os close) close)))) → ⊥
  never q e (inl l) = both_ways _ (unbeaten q e) (lex_lt (matched_volume of_order os (best_price os close)) (matched_volume of_order os q) _ l)
  never q e (inr (inl l)) = both_ways _ (unbeaten q e) (lex_eq (matched_volume of_order os (best_price os close)) (matched_volume of_order os q) _ l.0 ∙ lex_lt (surplus of_order os q) (surplus of_order os (best_price os close)) _ l.1)
  never q e (inr (inr l)) = both_ways _ (unbeaten q e)
      (lex_eq (matched_volume of_order os (best_price os close)) (matched_volume of_order os q) _ l.0 ∙ lex_eq (surplus of_order os q) (surplus of_order os (best_price os close)) _ l.1 ∙ lex_lt (distance q close) (distance (best_price os close) close) _ l.2)

  top_is : (b : Bool) (p n : ℕ) (x : ℕ × ℕ) → cond b (Some (p, n)) None ≡ Some x → x ≡ (p, n)
  top_is true p n x e = cc
  top_is false p n x e = let z : ◌≡◌ {A = ℕ} 0 1 = cc in absurd (zero_one z)

  top_traded : (b : Bool) (p n : ℕ) (x : ℕ × ℕ) → cond b (Some (p, n)) None ≡ Some x → b ≡ true
  top_traded true p n x e = refl
  top_traded false p n x e = let z : ◌≡◌ {A = ℕ} 0 1 = cc in absurd (zero_one z)

  pub top_some : (x : ℕ × ℕ) → top os close ≡ Some x → (x.1 ≡ matched_volume of_order os x.0) × (on_grid x.0 ≡ true) × (0 < x.1)
  top_some x e =
      let p = best_price os close in
      let n = matched_volume of_order os p in
      subst (λ (y : ℕ × ℕ). (y.1 ≡ matched_volume of_order os y.0) × (on_grid y.0 ≡ true) × (0 < y.1)) (sym (top_is (ltb 0 n) p n x e))
      (refl, best_on_grid, ltb-true 0 n (top_traded (ltb 0 n) p n x e))

  pub top_best : (x : ℕ × ℕ) → top os close ≡ Some x → (q : ℕ) → on_grid q ≡ true →
      ((matched_volume of_order os x.0 < matched_volume of_order os q) ⊎
      (((matched_volume of_order os x.0 ≡ matched_volume of_order os q) × (surplus of_order os q < surplus of_order os x.0)) ⊎
      ((matched_volume of_order os x.0 ≡ matched_volume of_order os q) × (surplus of_order os q ≡ surplus of_order os x.0) × (distance q close < distance x.0 close)))) → ⊥
  top_best x e q g =
      let s = top_is (ltb 0 (matched_volume of_order os (best_price os close))) (best_price os close) (matched_volume of_order os (best_price os close)) x e in
      subst (λ (y : ℕ × ℕ). ((matched_volume of_order os y.0 < matched_volume of_order os q) ⊎
      (((matched_volume of_order os y.0 ≡ matched_volume of_order os q) × (surplus of_order os q < surplus of_order os y.0)) ⊎
      ((matched_volume of_order os y.0 ≡ matched_volume of_order os q) × (surplus of_order os q ≡ surplus of_order os y.0) × (distance q close < distance y.0 close)))) → ⊥) (sym s) (never q g)

  pub top_none : top os close ≡ None → (q : ℕ) → on_grid q ≡ true → 0 < matched_volume of_order os q → ⊥
  top_none e q g l = never q g (inl (go (ltb 0 (matched_volume of_order os (best_price os close))) refl e))
    where
      go : (b : Bool) → ltb 0 (matched_volume of_order os (best_price os close)) ≡ b → cond {A = Option (ℕ × ℕ)} b (Some (best_price os close, matched_volume of_order os (best_price os close))) None ≡ None → matched_volume of_order os (best_price os close) < matched_volume of_order os q
      go true t k = let z : ◌≡◌ {A = ℕ} 0 1 = cc in absurd (zero_one z)
      go false t k = omega (arith, ltb-false 0 (matched_volume of_order os (best_price os close)) t)

  -- ---- top as a relation

  pub is_top : (y : Option (ℕ × ℕ)) → top os close ≡ y → IsTop os close y
  is_top (Some x) e =
      let p = best_price os close in
      let n = matched_volume of_order os p in
      let t = top_some x e in
      (t.1, t.0, t.2, subst (λ (y : ℕ × ℕ). (q : ℕ) → on_grid q ≡ true → opens_better os close q y.0 ≡ false) (sym (top_is (ltb 0 n) p n x e)) unbeaten)
  is_top None e = λ q g. ⊎_elim (λ (l : 0 < matched_volume of_order os q). absurd (top_none e q g l)) (λ l. omega arith) (cases_lt 0 (matched_volume of_order os q))

-- neither beats the other: they are equal, and so are the next two
lex_both : (u v : ℕ) (r t : Bool) → (ltb u v || (eqb u v && r)) ≡ false → (ltb v u || (eqb v u && t)) ≡ false → (u ≡ v) × (r ≡ false) × (t ≡ false)
lex_both u v r t a b = go (lex_false u v r a) (lex_false v u t b)
  where
    go : (v < u) ⊎ ((u ≡ v) × (r ≡ false)) → (u < v) ⊎ ((v ≡ u) × (t ≡ false)) → (u ≡ v) × (r ≡ false) × (t ≡ false)
    go (inl p) (inl q) = absurd (omega arith)
    go (inl p) (inr q) = absurd (omega (arith, q.0))
    go (inr p) (inl q) = absurd (omega (arith, p.0))
    go (inr p) (inr q) = (p.0, p.1, q.1)

pub same_best : (os : List Order) (close p q : ℕ) → opens_better os close q p ≡ false → opens_better os close p q ≡ false → p ≡ q
same_best os close p q a b =
    let m = lex_both (matched_volume of_order os p) (matched_volume of_order os q) _ _ a b in
    let u = lex_both (surplus of_order os q) (surplus of_order os p) _ _ m.1 m.2 in
    let f = lex_both (far_off close q) (far_off close p) _ _ u.1 u.2 in
    omega (arith, ltb-false q p f.1, ltb-false p q f.2)

no_trade : (n m : ℕ) → 0 < n → n ≡ m → m ≡ 0 → ⊥
no_trade n m l e z = omega arith

pub one_top : (os : List Order) (close : ℕ) (x y : Option (ℕ × ℕ)) → IsTop os close x → IsTop os close y → x ≡ y
one_top os close (Some x) (Some y) a b =
    let e = same_best os close x.0 y.0 (a.3 y.0 b.0) (b.3 x.0 a.0) in
    let f : x.1 ≡ y.1 = a.1 ∙ ap (matched_volume of_order os) e ∙ sym b.1 in
    (λ i. Some (e i, f i))
one_top os close (Some x) None a b = absurd (no_trade x.1 (matched_volume of_order os x.0) a.2 a.1 (b x.0 a.0))
one_top os close None (Some x) a b = absurd (no_trade x.1 (matched_volume of_order os x.0) b.2 b.1 (a x.0 b.0))
one_top os close None None a b = refl

pub top_is_the_top : TopIsTheTop
top_is_the_top os close = (is_top os close (top os close) refl, λ x a. one_top os close x (top os close) a (is_top os close (top os close) refl))
