-- What the ladders say of demand and supply, and that the candidates have the opening price among them.
use Rattle.std.proofs.Common.{◌≡◌, ℕ, ◌+◌, ◌<◌, ◌≤◌, Bool, true, false, cond, ◌&&◌, eqb, ltb, ◌⊎◌, List, [], ◌∷◌, ◌++◌, Option, Some, None, fold, sym, refl, ap, ◌∙◌, subst, inl, inr, ⊎_elim, arith}
use Rattle.std.specs.List.{ContainsAt as Has}
use Rattle.std.proofs.ByRecursion.{has_append_left, has_append_right}
use Rattle.std.proofs.lemmas.List.Sums.{sum_by-cons}
use Rattle.std.specs.Option.{option_eq}
use Rattle.std.proofs.lemmas.Bool.{both_ways, cond-true, cond-false, eqb-true, lt-ltb, le-ltb}
use Rattle.std.proofs.lemmas.Bool.Decides.{nat_tests}
use Rattle.market.specs.declared.order.Order.{Order}
use Rattle.market.specs.declared.order.OrderKind.{OrderKind}
use Rattle.market.specs.declared.order.OrderKind.TheVariants.{Limit, MarketOnOpening}
use Rattle.market.specs.declared.order.Side.{Side}
use Rattle.market.specs.declared.order.Side.TheVariants.{Buy, Sell}
use Rattle.market.specs.Words.{standing, same_side, limit_of}
use Rattle.rules.specs.Opening.{best_price, top}
use Rattle.rules.specs.Volume.{willing_at, willing, volume, demand, supply, matched_volume, of_order}
use Rattle.rules.proofs.Tally.{sum_kept}
use Rattle.book.specs.declared.ladder.Ladder.{Ladder}
use Rattle.book.specs.declared.ladder.Step.{Step}
use Rattle.book.specs.declared.opening_price.search.Candidate.{Candidate}
use Rattle.book.specs.declared.opening_price.search.Opening.{Opening}
use Rattle.book.specs.Candidates.{around, beside, better_by, traded_at}
use Rattle.book.specs.Steps.{inserted, total, lower}
use Rattle.book.specs.Rungs.{with_step, steps_of, market_part, market_of, rungs, Laid}
use Rattle.book.specs.Rating.{Rated, better_on, offered_on, wanted_on}
use Rattle.book.specs.Search.{beside_steps, candidates}
use Rattle.book.proofs.Candidates.{best_around, search_finds}
use Rattle.book.proofs.Inserted.{has_inserted, has_others, sum_inserted}
use Rattle.book.proofs.Listed.{has_cases, has_none}

-- ---- sums over a ladder, order by order

-- what an order's limit adds to the volume below a price, and to the whole
abbrev lower_part : Bool → OrderKind → ℕ → ℕ → ℕ
lower_part true (Limit l) n q = cond (ltb l.value q) n 0
lower_part true MarketOnOpening n q = 0
lower_part false k n q = 0

abbrev total_part : Bool → OrderKind → ℕ → ℕ
total_part true (Limit l) n = n
total_part true MarketOnOpening n = 0
total_part false k n = 0

lower_with : (b : Bool) (k : OrderKind) (n q : ℕ) (xs : List Step) → lower (with_step b k n xs) q ≡ lower_part b k n q + lower xs q
lower_with true (Limit l) n q xs =
    let s : Step = record { price = l.value; volume = n } in
    let f : Step → ℕ = λ x. cond (ltb x.price q) x.volume 0 in
    omega (arith, sum_kept (λ x. x.volume) (λ x. ltb x.price q) (inserted s xs), sum_inserted (λ (x : Step). x.price) s xs f, sum_kept (λ x. x.volume) (λ x. ltb x.price q) xs)
lower_with true MarketOnOpening n q xs = omega arith
lower_with false k n q xs = omega arith

total_with : (b : Bool) (k : OrderKind) (n : ℕ) (xs : List Step) → total (with_step b k n xs) ≡ total_part b k n + total xs
total_with true (Limit l) n xs = sum_inserted (λ (x : Step). x.price) (record { price = l.value; volume = n }) xs (λ x. x.volume)
total_with true MarketOnOpening n xs = omega arith
total_with false k n xs = omega arith

volume_cons : (s : Side) (o : Order) (os : List Order) (q : ℕ) → volume of_order s (o ∷ os) q ≡ cond (willing s q (of_order o)) (standing o) 0 + volume of_order s os q
volume_cons s o os q =
    let w : Order → Bool = λ x. willing s q (of_order x) in
    omega (arith, sum_kept standing w (o ∷ os), sum_kept standing w os, sum_by-cons (λ x. cond (w x) (standing x) 0) o os)

buy_part : (b : Bool) (k : OrderKind) (n q : ℕ) → cond (b && willing_at Buy q (limit_of k)) n 0 + lower_part b k n q ≡ market_part b k n + total_part b k n
buy_part true (Limit l) n q = grind (arith, nat_tests)
buy_part true MarketOnOpening n q = refl
buy_part false k n q = refl

sell_part : (b : Bool) (k : OrderKind) (n q : ℕ) → cond (b && willing_at Sell q (limit_of k)) n 0 ≡ market_part b k n + lower_part b k n (q + 1)
sell_part true (Limit l) n q = grind (arith, nat_tests)
sell_part true MarketOnOpening n q = omega arith
sell_part false k n q = refl

buys_laid : (os : List Order) (q : ℕ) → demand of_order os q + lower (steps_of Buy os) q ≡ market_of Buy os + total (steps_of Buy os)
buys_laid [] q = refl
buys_laid (o ∷ os) q =
    let b = same_side o.side Buy in
    omega (
      arith,
      volume_cons Buy o os q,
      lower_with b o.kind (standing o) q (steps_of Buy os),
      total_with b o.kind (standing o) (steps_of Buy os),
      buy_part b o.kind (standing o) q,
      buys_laid os q,
    )

sells_laid : (os : List Order) (q : ℕ) → supply of_order os q ≡ market_of Sell os + lower (steps_of Sell os) (q + 1)
sells_laid [] q = refl
sells_laid (o ∷ os) q =
    let b = same_side o.side Sell in
    omega (
      arith,
      volume_cons Sell o os q,
      lower_with b o.kind (standing o) (q + 1) (steps_of Sell os),
      sell_part b o.kind (standing o) q,
      sells_laid os q,
    )

wanted_is : (os : List Order) (l : Ladder) → Laid Buy os l → (q : ℕ) → wanted_on l q ≡ demand of_order os q
wanted_is os l h q = omega (arith, buys_laid os q, h.limits, h.market, ap (λ (xs : List Step). lower xs q) h.steps)

offered_is : (os : List Order) (l : Ladder) → Laid Sell os l → (q : ℕ) → offered_on l q ≡ supply of_order os q
offered_is os l h q = omega (arith, sells_laid os q, h.market, ap (λ (xs : List Step). lower xs (q + 1)) h.steps)

-- ---- the limits of the orders are the prices of the steps

has_with : (b : Bool) (k : OrderKind) (n : ℕ) (xs : List Step) (y : Step) → Has xs y → Has (with_step b k n xs) y
has_with true (Limit l) n xs y h = has_others (λ (x : Step). x.price) (record { price = l.value; volume = n }) xs y h
has_with true MarketOnOpening n xs y h = h
has_with false k n xs y h = h

abbrev StepAt : List Step → ℕ → Type 0
StepAt xs p = (s : Step) × Has xs s × (s.price ≡ p)

own_step : (b : Bool) (k : OrderKind) (n : ℕ) (xs : List Step) (p : ℕ) → b ≡ true → limit_of k ≡ Some p → StepAt (with_step b k n xs) p
own_step true (Limit l) n xs p t e = let s : Step = record { price = l.value; volume = n } in let f : l.value ≡ p = cc in (s, has_inserted (λ (x : Step). x.price) s xs, f)
own_step true MarketOnOpening n xs p t e = let z : ◌≡◌ {A = ℕ} 0 1 = cc in absurd (omega arith)
own_step false k n xs p t e = let z : ◌≡◌ {A = ℕ} 0 1 = cc in absurd (omega arith)

step_at : (s : Side) (os : List Order) (o : Order) (p : ℕ) → same_side o.side s ≡ true → limit_of o.kind ≡ Some p → Has os o → StepAt (steps_of s os) p
step_at s [] o p t e h = has_none o h
step_at s (x ∷ os) o p t e h = ⊎_elim
    (λ (is : x ≡ o). own_step (same_side x.side s) x.kind (standing x) (steps_of s os) p (ap (λ (y : Order). same_side y.side s) is ∙ t) (ap (λ (y : Order). limit_of y.kind) is ∙ e))
    (λ r. let q = step_at s os o p t e r in (q.0, has_with (same_side x.side s) x.kind (standing x) (steps_of s os) q.0 q.1, q.2))
    (has_cases x os o h)

-- the grid prices beside the last limit, if there is one
abbrev beside_last : Side → Option ℕ → List ℕ
beside_last side None = []
beside_last side (Some l) = beside side l

-- what lies beside a limit is among what is tried beside the limits, or beside the last one
beside_among : (side : Side) (last : Option ℕ) (xs : List Step) (s : Step) (q : ℕ) → Has xs s → Has (beside side s.price) q → Has (beside_last side last) q ⊎ Has (beside_steps side last xs) q
beside_among side last [] s q h k = has_none s h
beside_among side last (x ∷ xs) s q h k = go (λ p r. beside_among side p xs s q r k) last (option_eq eqb last (Some x.price)) refl
  where
    rest : Option ℕ → List ℕ
    rest p = beside_steps side p xs

    at_last : (last : Option ℕ) → option_eq eqb last (Some x.price) ≡ true → x ≡ s → Has (beside_last side last) q
    at_last None e is = absurd (both_ways false refl e)
    at_last (Some l) e is = subst (λ p. Has (beside side p) q) (sym (ap (λ (y : Step). y.price) is) ∙ sym (eqb-true l x.price e)) k

    go : ((p : Option ℕ) → Has xs s → Has (beside_last side p) q ⊎ Has (rest p) q) → (last : Option ℕ) (b : Bool) → option_eq eqb last (Some x.price) ≡ b →
        Has (beside_last side last) q ⊎ Has (cond b (rest last) (beside side x.price ++ rest (Some x.price))) q
    go later last true e = ⊎_elim (λ is. inl (at_last last e is)) (λ r. later last r) (has_cases x xs s h)
    go later last false e = inr (⊎_elim
        (λ (is : x ≡ s). has_append_left (beside side x.price) (rest (Some x.price)) q (subst (λ p. Has (beside side p) q) (sym (ap (λ (y : Step). y.price) is)) k))
        (λ r. ⊎_elim (λ b. has_append_left (beside side x.price) (rest (Some x.price)) q b) (λ m. has_append_right (beside side x.price) (rest (Some x.price)) q m) (later (Some x.price) r))
        (has_cases x xs s h))

beside_has : (s : Side) (os : List Order) (l : Ladder) (o : Order) (p best : ℕ) → Laid s os l → same_side o.side s ≡ true → limit_of o.kind ≡ Some p → Has os o → Has (beside s p) best → Has (beside_steps s None (rungs l)) best
beside_has s os l o p best laid t e h k =
    let q = step_at s os o p t e h in
    ⊎_elim (λ none. has_none best none) (λ m. m)
    (beside_among s None (rungs l) q.0 best (subst (λ (xs : List Step). Has xs q.0) (sym laid.steps) q.1) (subst (λ n. Has (beside s n) best) (sym q.2) k))

-- ---- the search finds the opening price

module _ (os : List Order) (i : Opening) (buys : Laid Buy os i.buys) (sells : Laid Sell os i.sells) where
  abbrev best : ℕ
  best = best_price os i.close.value

  limits_have : (o : Order) (p : ℕ) (s : Side) → o.side ≡ s → Has os o → limit_of o.kind ≡ Some p → Has (beside s p) best → Has (beside_steps Buy None (rungs i.buys) ++ beside_steps Sell None (rungs i.sells)) best
  limits_have o p Buy e h l k = has_append_left (beside_steps Buy None (rungs i.buys)) (beside_steps Sell None (rungs i.sells)) best (beside_has Buy os i.buys o p best buys (ap (λ s. same_side s Buy) e) l h k)
  limits_have o p Sell e h l k = has_append_right (beside_steps Buy None (rungs i.buys)) (beside_steps Sell None (rungs i.sells)) best (beside_has Sell os i.sells o p best sells (ap (λ s. same_side s Sell) e) l h k)

  candidates_have : Has (candidates i) best
  candidates_have = ⊎_elim
      (λ h. has_append_left (around i.close.value) (beside_steps Buy None (rungs i.buys) ++ beside_steps Sell None (rungs i.sells)) best h)
      (λ h. has_append_right (around i.close.value) (beside_steps Buy None (rungs i.buys) ++ beside_steps Sell None (rungs i.sells)) best (limits_have h.0 h.2.0 h.0.side refl h.1 h.2.1 h.2.2))
      (best_around os i.close.value i.close.span)

  -- what the ladders give is what the orders give
  wanted_same : wanted_on i.buys ≡ demand of_order os
  wanted_same = λ t q. wanted_is os i.buys buys q t

  offered_same : offered_on i.sells ≡ supply of_order os
  offered_same = λ t q. offered_is os i.sells sells q t

  found_price : fold (better_on i) 5 (candidates i) ≡ best
  found_price = (λ t. fold (better_by (wanted_same t) (offered_same t) i.close.value) 5 (candidates i)) ∙ search_finds os i.close.value (candidates i) candidates_have

  found_is : (c : Candidate) → Rated i c → c.price ≡ fold (better_on i) 5 (candidates i) → (c.price ≡ best) × (c.volume ≡ matched_volume of_order os best)
  found_is c r e =
      let p = e ∙ found_price in
      (p, r.volume ∙ (λ t. traded_at (wanted_same t) (offered_same t) (p t)))

  pub top_some : (c : Candidate) → Rated i c → c.price ≡ fold (better_on i) 5 (candidates i) → 0 < c.volume → Some (c.price, c.volume) ≡ top os i.close.value
  top_some c r e l =
      let f = found_is c r e in
      let n = matched_volume of_order os best in
      (λ t. Some (f.0 t, f.1 t)) ∙ sym (cond-true (ltb 0 n) (Some (best, n)) None (lt-ltb 0 n (omega (arith, f.1))))

  pub top_none : (c : Candidate) → Rated i c → c.price ≡ fold (better_on i) 5 (candidates i) → c.volume ≤ 0 → None ≡ top os i.close.value
  top_none c r e l =
      let n = matched_volume of_order os best in
      sym (cond-false (ltb 0 n) (Some (best, n)) None (le-ltb 0 n (omega (arith, (found_is c r e).1))))
