-- A loop that writes shares to the places of their orders, and what stands at each place then.
use Rattle.std.proofs.Common.{◌≡◌, ℕ, zero, suc, ◌+◌, ◌<◌, ◌≤◌, Bool, true, false, cond, ◌||◌, eqb, leb, List, [], ◌∷◌, map, length, get_or, drop, set, filter, sym, refl, ap, ◌∙◌, subst, arith}
use Rattle.std.specs.List.{AllByRecursion, list_any}
use Rattle.std.proofs.ByRecursion.{All-weaker, All-get_or}
use Rattle.std.proofs.lemmas.List.{at_drop_more, get_or-set_same, get_or-set_other, length-set}
use Rattle.std.proofs.lemmas.Bool.{eq-eqb, eqb-true, eqb-false, ne_eqb, or_from}
use Rattle.market.specs.Words.{standing}
use Rattle.market.specs.declared.order.Order.{Order}
use Rattle.market.specs.declared.units.Contracts.{Contracts}
use Rattle.rules.specs.Allocation.{priority, by_priority, after_trade, live}
use Rattle.rules.proofs.Matching.{all_from_kept}
use Rattle.sharing.specs.Asked.{counts}
use Rattle.sharing.proofs.Counts.{counts_set}
use Rattle.book.specs.Places.{no_order, at, orders_at, TrueRank}
use Rattle.book.specs.Ranking.{insert_ranked, by_rank, ranked_from}
use Rattle.book.specs.Settling.{scattered, filled_places, settled, Covered, settled_up_to}
use Rattle.book.specs.declared.priority.Ranked.{Ranked}
use Rattle.book.proofs.Settling.{settled_is, settled_exact}
use Rattle.book.proofs.Sorting.{no_rank}
use Rattle.book.proofs.Stable.{ranked_stand, ranks_true}
use Rattle.book.proofs.Trades.{no_contracts}

-- ---- the loop

module _ (rs : List Ranked) (ns fills : List Contracts) (i : ℕ) where
  pub scattered_more : i < length rs → i < length ns →
      scattered (drop i rs) (counts (drop i ns)) (counts fills) ≡ scattered (drop (i + 1) rs) (counts (drop (i + 1) ns)) (counts (set fills (get_or rs i no_rank).place (get_or ns i no_contracts)))
  scattered_more a b =
      at_drop_more (λ (xs : List Ranked). scattered xs (counts (drop i ns)) (counts fills)) rs i no_rank a
      ∙ at_drop_more (λ (xs : List Contracts). scattered (get_or rs i no_rank ∷ drop (i + 1) rs) (counts xs) (counts fills)) ns i no_contracts b
      ∙ ap (scattered (drop (i + 1) rs) (counts (drop (i + 1) ns))) (sym (counts_set fills (get_or rs i no_rank).place (get_or ns i no_contracts)))

-- ---- what stands at a place

-- whether a place is one of the ranked ones
abbrev among : ℕ → List Ranked → Bool
among k rs = list_any (λ r. eqb r.place k) rs

pub scattered_length : (rs : List Ranked) (ns fills : List ℕ) → length (scattered rs ns fills) ≡ length fills
scattered_length [] ns fills = refl
scattered_length (r ∷ rs) [] fills = refl
scattered_length (r ∷ rs) (n ∷ ns) fills = scattered_length rs ns (set fills r.place n) ∙ length-set fills r.place n

module _ (os : List Order) (f : Order → ℕ) where
  -- at a ranked place the share of its order, elsewhere what stood there
  pub scattered_at : (rs : List Ranked) (fills : List ℕ) (k : ℕ) → k < length fills →
      get_or (scattered rs (map f (orders_at os rs)) fills) k 0 ≡ cond (among k rs) (f (get_or os k no_order)) (get_or fills k 0)
  scattered_at [] fills k lt = refl
  scattered_at (r ∷ rs) fills k lt =
      scattered_at rs (set fills r.place (f (at os r))) k (omega (arith, length-set fills r.place (f (at os r))))
      ∙ go (eqb r.place k) (among k rs) refl
    where
      go : (b c : Bool) → eqb r.place k ≡ b → cond c (f (get_or os k no_order)) (get_or (set fills r.place (f (at os r))) k 0) ≡ cond (b || c) (f (get_or os k no_order)) (get_or fills k 0)
      go true true e = refl
      go true false e =
          let same = eqb-true r.place k e in
          ap (λ (j : ℕ). get_or (set fills j (f (get_or os j no_order))) k 0) same ∙ get_or-set_same fills k (f (get_or os k no_order)) 0 lt
      go false true e = refl
      go false false e = get_or-set_other fills r.place k (f (at os r)) 0 (λ same. eqb-false r.place k e (sym same))

-- ---- the ranked places are those of the orders that pass

or_swap : (a b c : Bool) → (a || (b || c)) ≡ (b || (a || c))
or_swap true true c = refl
or_swap true false c = refl
or_swap false true c = refl
or_swap false false c = refl

among_insert : (k : ℕ) (x : Ranked) (rs : List Ranked) → among k (insert_ranked x rs) ≡ among k (x ∷ rs)
among_insert k x [] = refl
among_insert k x (y ∷ rs) = go (leb x.priority y.priority) (among_insert k x rs)
  where
    go : (b : Bool) → among k (insert_ranked x rs) ≡ among k (x ∷ rs) → among k (cond b (x ∷ y ∷ rs) (y ∷ insert_ranked x rs)) ≡ among k (x ∷ y ∷ rs)
    go true h = refl
    go false h = ap (λ (b : Bool). eqb y.place k || b) h ∙ or_swap (eqb y.place k) (eqb x.place k) (among k rs)

among_by_rank : (k : ℕ) (rs : List Ranked) → among k (by_rank rs) ≡ among k rs
among_by_rank k [] = refl
among_by_rank k (x ∷ rs) = among_insert k x (by_rank rs) ∙ ap (λ (b : Bool). eqb x.place k || b) (among_by_rank k rs)

module _ (p : Order → Bool) where
  among_before : (k j : ℕ) (os : List Order) → k < j → among k (ranked_from p j os) ≡ false
  among_before k j [] lt = refl
  among_before k j (o ∷ os) lt = go (p o) (among_before k (j + 1) os (omega arith))
    where
      go : (b : Bool) → among k (ranked_from p (j + 1) os) ≡ false → among k (cond b (record { place = j; priority = priority o } ∷ ranked_from p (j + 1) os) (ranked_from p (j + 1) os)) ≡ false
      go true h = or_from (eqb j k) (among k (ranked_from p (j + 1) os)) (ne_eqb j k (λ e. omega arith)) h
      go false h = h

  among_from : (j i : ℕ) (os : List Order) → i < length os → among (j + i) (ranked_from p j os) ≡ p (get_or os i no_order)
  among_from j i [] lt = absurd (omega arith)
  among_from j zero (o ∷ os) lt = go (p o)
    where
      go : (b : Bool) → among (j + 0) (cond b (record { place = j; priority = priority o } ∷ ranked_from p (j + 1) os) (ranked_from p (j + 1) os)) ≡ b
      go true = ap (λ (b : Bool). b || among (j + 0) (ranked_from p (j + 1) os)) (eq-eqb j (j + 0) (omega arith))
      go false = among_before (j + 0) (j + 1) os (omega arith)
  among_from j (suc i) (o ∷ os) lt = go (p o) (among_from (j + 1) i os (omega arith))
    where
      next : j + 1 + i ≡ j + suc i
      next = omega arith

      go : (b : Bool) → among (j + 1 + i) (ranked_from p (j + 1) os) ≡ p (get_or os i no_order) →
          among (j + suc i) (cond b (record { place = j; priority = priority o } ∷ ranked_from p (j + 1) os) (ranked_from p (j + 1) os)) ≡ p (get_or os i no_order)
      go true h =
          ap (λ (b : Bool). b || among (j + suc i) (ranked_from p (j + 1) os)) (ne_eqb j (j + suc i) (λ e. omega arith))
          ∙ ap (λ (k : ℕ). among k (ranked_from p (j + 1) os)) (sym next)
          ∙ h
      go false h = ap (λ (k : ℕ). among k (ranked_from p (j + 1) os)) (sym next) ∙ h

  -- a place in the list is ranked if its order passes
  among_ranked : (os : List Order) (k : ℕ) → k < length os → among k (by_rank (ranked_from p 0 os)) ≡ p (get_or os k no_order)
  among_ranked os k lt =
      let e : k ≡ 0 + k = omega arith in
      among_by_rank k (ranked_from p 0 os) ∙ ap (λ (n : ℕ). among n (ranked_from p 0 os)) e ∙ among_from 0 k os lt

  -- the ranked places lie in a list as long as the orders
  pub places_inside : (os : List Order) (n : ℕ) → length os ≤ n → AllByRecursion (λ r. r.place < n) (by_rank (ranked_from p 0 os))
  places_inside os n le = All-weaker (TrueRank os) (λ r. r.place < n) (λ r t. (let lt = t.inside in omega arith)) (by_rank (ranked_from p 0 os)) (ranks_true p os)

  -- ---- so the fills are those of the orders that pass, and the others are as they were

  module _ (f : Order → ℕ) (os : List Order) (fills : List ℕ) where
    abbrev fills_after : List ℕ
    fills_after = filled_places p f os fills

    fill_at : (k : ℕ) → k < length os → k < length fills → get_or fills_after k 0 ≡ cond (p (get_or os k no_order)) (f (get_or os k no_order)) (get_or fills k 0)
    fill_at k lt in' =
        ap (λ ys. get_or (scattered (by_rank (ranked_from p 0 os)) (map f ys) fills) k 0) (sym (ranked_stand p os))
        ∙ scattered_at os f (by_rank (ranked_from p 0 os)) fills k in'
        ∙ ap (λ (b : Bool). cond b (f (get_or os k no_order)) (get_or fills k 0)) (among_ranked os k lt)

    pub fill_passed : length os ≡ length fills → (k : ℕ) → k < length os → p (get_or os k no_order) ≡ true → get_or fills_after k 0 ≡ f (get_or os k no_order)
    fill_passed e k lt t = fill_at k lt (omega arith) ∙ ap (λ (b : Bool). cond b (f (get_or os k no_order)) (get_or fills k 0)) t

    pub fill_other : length os ≡ length fills → (k : ℕ) → k < length os → p (get_or os k no_order) ≡ false → get_or fills_after k 0 ≡ get_or fills k 0
    fill_other e k lt t = fill_at k lt (omega arith) ∙ ap (λ (b : Bool). cond b (f (get_or os k no_order)) (get_or fills k 0)) t

    pub places_fit : length os ≡ length fills → length os ≡ length fills_after
    places_fit e = e ∙ sym (scattered_length (by_rank (ranked_from p 0 os)) (map f (by_priority (filter p os))) fills)

    -- and what they leave is what the rules say
    left_after : length os ≡ length fills → settled p os fills_after ≡ live (map (λ o. cond (p o) (after_trade (f o) o) o) os)
    left_after e = settled_is p f os fills_after (places_fit e) (fill_passed e)

    -- what each order that passes trades is at most what stands of it, so its fill is
    fills_covered : length os ≡ length fills → AllByRecursion (λ o. f o ≤ standing o) (filter p os) → Covered p os fills_after
    fills_covered e bound k lt t =
        subst (λ (n : ℕ). n ≤ standing (get_or os k no_order)) (sym (fill_passed e k lt t))
        (All-get_or (λ o. p o ≡ true → f o ≤ standing o) os k no_order lt (all_from_kept p (λ o. f o ≤ standing o) os bound) t)

    pub left_up_to : length os ≡ length fills → AllByRecursion (λ o. f o ≤ standing o) (filter p os) → settled_up_to p os fills_after ≡ live (map (λ o. cond (p o) (after_trade (f o) o) o) os)
    left_up_to e bound = settled_exact p os fills_after (places_fit e) (fills_covered e bound) ∙ left_after e
