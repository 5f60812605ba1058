-- The opening price lies within one grid step of the close or beside some limit, so few prices need be tried.
use Rattle.std.proofs.Common.{◌≡◌, ℕ, ◌%◌, ◌<◌, ◌≤◌, min, Bool, true, false, cond, ◌&&◌, ltb, leb, ◌⊎◌, List, [], ◌∷◌, get_or, Some, fold, sum_by, filter, sym, refl, ap, ◌∙◌, subst, ap₂, inl, inr, ⊎_elim, arith}
use Rattle.std.specs.List.{ContainsAt as Has, AllByRecursion, best_of}
use Rattle.std.proofs.lemmas.List.MinMax.{IsFirstBest-from_best_of}
use Rattle.std.proofs.ByRecursion.{All-from_get_or, all-has, All-weaker, has_get_or, kept_by_passes}
use Rattle.std.proofs.lemmas.Bool.{cases_Bool, both_ways}
use Rattle.std.proofs.lemmas.Bool.Decides.{nat_tests}
use Rattle.market.specs.Spans.{on_grid}
use Rattle.market.specs.Words.{standing, same_side, limit_of}
use Rattle.market.specs.declared.order.Order.{Order}
use Rattle.market.specs.declared.order.OrderKind.{OrderKind}
use Rattle.market.specs.declared.order.OrderKind.TheVariants.{Limit, MarketOnOpening}
use Rattle.market.specs.declared.order.Side.{Side}
use Rattle.market.specs.declared.order.Side.TheVariants.{Buy, Sell}
use Rattle.rules.specs.Prices.{distance}
use Rattle.rules.specs.Volume.{willing_at, willing, volume, demand, supply, matched_volume, surplus, of_order}
use Rattle.rules.specs.Opening.{opens_better, best_price}
use Rattle.rules.proofs.Tops.{opens_ranks, best_on_grid, unbeaten, same_best}
use Rattle.rules.proofs.Matching.{has_cons, has_to_kept, kept_same}
use Rattle.book.specs.Candidates.{above, below, floor, ceiling, around, beside, better_by}
use Rattle.book.proofs.Listed.{has_here, folded_kept}

-- ---- what on_grid says

record Gridded (q : ℕ) : Type 0 where
  low : 0 < q
  high : q ≤ 99999
  fives : q % 5 ≡ 0
  tens : 300 ≤ q → q % 10 ≡ 0

gridded : (q : ℕ) → on_grid q ≡ true → Gridded q
gridded q h = record {
  low = grind (arith, nat_tests);
  high = grind (arith, nat_tests);
  fives = grind (arith, nat_tests);
  tens = λ far. grind (arith, nat_tests);
}

-- ---- between neighbouring limits nothing changes

-- x lies no further than q's neighbours
abbrev near : ℕ → ℕ → Bool
near q x = leb (below q) x && leb x (above q)

-- an order becomes willing between q and one of its neighbours
abbrev limit_near : ℕ → Side → OrderKind → Bool
limit_near q Buy (Limit l) = leb (below q) l.value && ltb l.value (above q)
limit_near q Sell (Limit l) = ltb (below q) l.value && leb l.value (above q)
limit_near q Buy MarketOnOpening = false
limit_near q Sell MarketOnOpening = false

willing_same : (s : Side) (k : OrderKind) (q p : ℕ) → below q ≤ p → p ≤ above q → limit_near q s k ≡ false → willing_at s q (limit_of k) ≡ willing_at s p (limit_of k)
willing_same Buy (Limit l) q p a b h = grind (arith, nat_tests)
willing_same Sell (Limit l) q p a b h = grind (arith, nat_tests)
willing_same Buy MarketOnOpening q p a b h = refl
willing_same Sell MarketOnOpening q p a b h = refl

module _ (q p : ℕ) (a : below q ≤ p) (b : p ≤ above q) where
  side_same : (s t : Side) (k : OrderKind) → limit_near q t k ≡ false → (same_side t s && willing_at s q (limit_of k)) ≡ (same_side t s && willing_at s p (limit_of k))
  side_same Buy Buy k h = willing_same Buy k q p a b h
  side_same Buy Sell k h = refl
  side_same Sell Buy k h = refl
  side_same Sell Sell k h = willing_same Sell k q p a b h

  volume_same : (s : Side) (os : List Order) → AllByRecursion (λ o. limit_near q o.side o.kind ≡ false) os → volume of_order s os q ≡ volume of_order s os p
  volume_same s os h = ap (sum_by standing) (kept_same (λ o. willing s q (of_order o)) (λ o. willing s p (of_order o)) os
      (All-weaker (λ o. limit_near q o.side o.kind ≡ false) (λ o. willing s q (of_order o) ≡ willing s p (of_order o)) (λ o t. side_same s o.side o.kind t) os h))

  -- the nearer to the close then opens better
  nearer_better : (os : List Order) (close : ℕ) → AllByRecursion (λ o. limit_near q o.side o.kind ≡ false) os → distance p close < distance q close → opens_better os close p q ≡ true
  nearer_better os close h d =
      let e = volume_same Buy os h in let f = volume_same Sell os h in
      let t : matched_volume of_order os q ≡ matched_volume of_order os p = ap₂ min e f in
      let u : surplus of_order os q ≡ surplus of_order os p = ap₂ distance e f in
      grind (arith, nat_tests)

some_near : (q : ℕ) (os : List Order) → AllByRecursion (λ o. limit_near q o.side o.kind ≡ false) os ⊎ ((o : Order) × Has os o × (limit_near q o.side o.kind ≡ true))
some_near q [] = inl tt
some_near q (o ∷ os) = ⊎_elim
    (λ here. inr (o, has_here o os o refl, here))
    (λ none. ⊎_elim (λ rest. inl (none, rest)) (λ r. inr (r.0, has_cons o os r.0 r.1, r.2)) (some_near q os))
    (cases_Bool (limit_near q o.side o.kind))

above_on_grid : (q : ℕ) → on_grid q ≡ true → above q ≤ 99999 → on_grid (above q) ≡ true
above_on_grid q h l = let g = gridded q h in grind (arith, nat_tests)

below_on_grid : (q : ℕ) → on_grid q ≡ true → 0 < below q → on_grid (below q) ≡ true
below_on_grid q h l = let g = gridded q h in grind (arith, nat_tests)

module _ (os : List Order) (close : ℕ) (span : close ≤ 99999) where
  abbrev Beside : ℕ → Type 0
  Beside q = (near q close ≡ true) ⊎ ((o : Order) × Has os o × (limit_near q o.side o.kind ≡ true))

  -- a grid price with the close and all limits beyond its neighbours is outdone by a neighbour
  outdone : (q : ℕ) → on_grid q ≡ true → near q close ≡ false → AllByRecursion (λ o. limit_near q o.side o.kind ≡ false) os → (p : ℕ) × (on_grid p ≡ true) × (opens_better os close p q ≡ true)
  outdone q g far none = ⊎_elim
      (λ (l : close < below q). (below q, below_on_grid q g (omega arith), nearer_better q (below q) (omega arith) (grind (arith, nat_tests)) os close none (grind (arith, nat_tests))))
      (λ (l : above q < close). (above q, above_on_grid q g (omega arith), nearer_better q (above q) (grind (arith, nat_tests)) (omega arith) os close none (grind (arith, nat_tests))))
      side
    where
      side : (close < below q) ⊎ (above q < close)
      side = grind (arith, nat_tests)

  best_beside : Beside (best_price os close)
  best_beside = ⊎_elim
      (λ n. inl n)
      (λ far. ⊎_elim
      (λ none. let r = outdone (best_price os close) (best_on_grid os close) far none in absurd (both_ways (opens_better os close r.0 (best_price os close)) (unbeaten os close r.0 r.1) r.2))
      (λ some. inr some)
      (some_near (best_price os close) os))
      (cases_Bool (near (best_price os close) close))

-- ---- the prices to try

near_around : (q x : ℕ) → on_grid q ≡ true → near q x ≡ true → (q ≡ below (floor x)) ⊎ ((q ≡ floor x) ⊎ (q ≡ above (floor x)))
near_around q x g h = let k = gridded q g in grind (arith, nat_tests)

around_has : (q x : ℕ) → on_grid q ≡ true → near q x ≡ true → Has (around x) q
around_has q x g h = ⊎_elim
    (λ e. has_here (below (floor x)) (floor x ∷ above (floor x) ∷ []) q (sym e))
    (λ r. has_cons (below (floor x)) (floor x ∷ above (floor x) ∷ []) q (⊎_elim
    (λ e. has_here (floor x) (above (floor x) ∷ []) q (sym e))
    (λ e. has_cons (floor x) (above (floor x) ∷ []) q (has_here (above (floor x)) [] q (sym e)))
    r))
    (near_around q x g h)

near_buy : (q l : ℕ) → on_grid q ≡ true → (leb (below q) l && ltb l (above q)) ≡ true → (q ≡ floor l) ⊎ (q ≡ above (floor l))
near_buy q l g h = let k = gridded q g in grind (arith, nat_tests)

near_sell : (q l : ℕ) → on_grid q ≡ true → (ltb (below q) l && leb l (above q)) ≡ true → (q ≡ below (ceiling l)) ⊎ (q ≡ ceiling l)
near_sell q l g h = let k = gridded q g in grind (arith, nat_tests)

has_one : (x y q : ℕ) → (q ≡ x) ⊎ (q ≡ y) → Has (x ∷ y ∷ []) q
has_one x y q = ⊎_elim (λ e. has_here x (y ∷ []) q (sym e)) (λ e. has_cons x (y ∷ []) q (has_here y [] q (sym e)))

limit_has : (q : ℕ) (s : Side) (k : OrderKind) → on_grid q ≡ true → limit_near q s k ≡ true → (x : ℕ) × (limit_of k ≡ Some x) × Has (beside s x) q
limit_has q Buy (Limit l) g h = (l.value, refl, has_one (floor l.value) (above (floor l.value)) q (near_buy q l.value g h))
limit_has q Sell (Limit l) g h = (l.value, refl, has_one (below (ceiling l.value)) (ceiling l.value) q (near_sell q l.value g h))
limit_has q Buy MarketOnOpening g h = absurd (both_ways false refl h)
limit_has q Sell MarketOnOpening g h = absurd (both_ways false refl h)

module _ (os : List Order) (close : ℕ) (span : close ≤ 99999) where
  -- the opening price is around the close or beside the limit of some order
  pub best_around : Has (around close) (best_price os close) ⊎ ((o : Order) × Has os o × ((x : ℕ) × (limit_of o.kind ≡ Some x) × Has (beside o.side x) (best_price os close)))
  best_around = ⊎_elim
      (λ n. inl (around_has (best_price os close) close (best_on_grid os close) n))
      (λ s. inr (s.0, s.1, limit_has (best_price os close) s.0.side s.0.kind (best_on_grid os close) s.2))
      (best_beside os close span)

-- ---- a search that tries one price after another

module _ (os : List Order) (close : ℕ) where
  -- what is among the tried and beaten by none is the best of them
  best_only : (a : ℕ) (cs : List ℕ) → on_grid a ≡ true → AllByRecursion (λ q. on_grid q ≡ true) cs → Has cs (best_price os close) → best_of (opens_better os close) a cs ≡ best_price os close
  best_only a cs g all h =
      let beats = opens_better os close in
      let f = IsFirstBest-from_best_of (opens_ranks os close) a cs in
      let here : Has (a ∷ cs) (best_of beats a cs) = subst (Has (a ∷ cs)) f.2 (has_get_or (a ∷ cs) f.0 a f.1.0) in
      let none : AllByRecursion (λ x. beats x (best_of beats a cs) ≡ false) (a ∷ cs) = All-from_get_or (λ x. beats x (best_of beats a cs) ≡ false) (a ∷ cs) a (λ i l. subst (λ y. beats (get_or (a ∷ cs) i a) y ≡ false) f.2 (f.1.1 i a l)) in
      let mine : AllByRecursion (λ q. on_grid q ≡ true) (a ∷ cs) = (g, all) in
      same_best os close (best_of beats a cs) (best_price os close)
      (all-has (λ y. beats y (best_of beats a cs) ≡ false) (a ∷ cs) (best_price os close) none (has_cons a cs (best_price os close) h))
      (unbeaten os close (best_of beats a cs) (all-has (λ q. on_grid q ≡ true) (a ∷ cs) (best_of beats a cs) mine here))

  pub search_finds : (cs : List ℕ) → Has cs (best_price os close) → fold (better_by (demand of_order os) (supply of_order os) close) 5 cs ≡ best_price os close
  search_finds cs h =
      folded_kept (λ b q. cond (opens_better os close q b) q b) on_grid 5 cs ∙
      best_only 5 (filter on_grid cs) refl (kept_by_passes on_grid cs) (has_to_kept on_grid cs (best_price os close) h (best_on_grid os close))
