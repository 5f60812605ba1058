-- The rows of a taker: what they name, hold and cost.
use Rattle.std.proofs.Common.{◌≡◌, ℕ, ◌+◌, ◌*◌, Bool, true, false, cond, ◌||◌, eqb, ltb, leb, List, [], ◌∷◌, sum_by, filter, sym, refl, ap, ◌∙◌, arith}
use Rattle.std.specs.List.{flat_map, ContainsAt as Has, AllByRecursion}
use Rattle.std.proofs.lemmas.List.Sums.{sum_by-cons, sum_by-append}
use Rattle.std.proofs.ByRecursion.{All-weaker, All-append, all_has_itself}
use Rattle.std.proofs.lemmas.Bool.{ltb-false, ne_eqb, eq-eqb}
use Rattle.market.specs.declared.order.Order.{Order}
use Rattle.market.specs.declared.order.Side.{Side}
use Rattle.market.specs.declared.order.Side.TheVariants.{Buy, Sell}
use Rattle.market.specs.declared.row.Row.{Row}
use Rattle.rules.specs.Allocation.{by_priority, insert, priority, taker_rows}
use Rattle.rules.specs.Law.{taker}
use Rattle.rules.specs.Ledger.{contracts_in, named, names, total_of}
use Rattle.market.specs.Words.{price_of, trade}
use Rattle.rules.proofs.Tally.{sum_kept, sum_same, all_of}
use Rattle.rules.proofs.Sound.{Takes}

pub sum_by_priority : (φ : Order → ℕ) (os : List Order) → sum_by φ (by_priority os) ≡ sum_by φ os
sum_by_priority φ [] = refl
sum_by_priority φ (o ∷ os) = omega (arith, inserted o (by_priority os), sum_by_priority φ os, sum_by-cons φ o os)
  where
    inserted : (o : Order) (ps : List Order) → sum_by φ (insert o ps) ≡ φ o + sum_by φ ps
    inserted o [] = sum_by-cons φ o []
    inserted o (p ∷ ps) = go (leb (priority o) (priority p)) (inserted o ps)
      where
        go : (b : Bool) → sum_by φ (insert o ps) ≡ φ o + sum_by φ ps → sum_by φ (cond b (o ∷ p ∷ ps) (p ∷ insert o ps)) ≡ φ o + sum_by φ (p ∷ ps)
        go true e = sum_by-cons φ o (p ∷ ps)
        go false e = omega (arith, sum_by-cons φ p (insert o ps), sum_by-cons φ p ps)

pub all_by_priority : (P : Order → Type 0) (os : List Order) → AllByRecursion P os → AllByRecursion P (by_priority os)
all_by_priority P [] h = tt
all_by_priority P (o ∷ os) h = inserted o (by_priority os) h.0 (all_by_priority P os h.1)
  where
    inserted : (o : Order) (ps : List Order) → P o → AllByRecursion P ps → AllByRecursion P (insert o ps)
    inserted o [] x h = (x, tt)
    inserted o (p ∷ ps) x h = go (leb (priority o) (priority p)) (inserted o ps x h.1)
      where
        go : (b : Bool) → AllByRecursion P (insert o ps) → AllByRecursion P (cond b (o ∷ p ∷ ps) (p ∷ insert o ps))
        go true k = (x, h)
        go false k = (h.0, k)

pub sum_joined : {X Y : Type 0} (φ : Y → ℕ) (k : X → List Y) (xs : List X) → sum_by φ (flat_map k xs) ≡ sum_by (λ x. sum_by φ (k x)) xs
sum_joined φ k [] = refl
sum_joined φ k (x ∷ xs) = omega (arith, sum_by-append φ (k x) (flat_map k xs), sum_joined φ k xs, sum_by-cons (λ x. sum_by φ (k x)) x xs)

pub all_joined : {X Y : Type 0} (P : Y → Type 0) (k : X → List Y) (xs : List X) → AllByRecursion (λ x. AllByRecursion P (k x)) xs → AllByRecursion P (flat_map k xs)
all_joined P k [] h = tt
all_joined P k (x ∷ xs) h = All-append P (k x) (flat_map k xs) h.0 (all_joined P k xs h.1)

module _ (s : Side) (taker : ℕ) (f : Order → ℕ) where
  abbrev row : Order → Row
  row o = trade s taker o.number (price_of o.kind) (f o)

  rows_sum : (ψ : Row → ℕ) (v : Order → ℕ) (os : List Order) → ((o : Order) → ψ (row o) ≡ v o) → ((o : Order) → f o ≡ 0 → v o ≡ 0) → sum_by ψ (taker_rows s taker f os) ≡ sum_by v os
  rows_sum ψ v os e z =
      sum_joined ψ (λ o. cond (ltb 0 (f o)) (row o ∷ []) []) (by_priority os) ∙
      sum_by_priority (λ o. sum_by ψ (cond (ltb 0 (f o)) (row o ∷ []) [])) os ∙
      sum_same (λ o. sum_by ψ (cond (ltb 0 (f o)) (row o ∷ []) [])) v os (all_of _ os (λ o. go (ltb 0 (f o)) o refl))
    where
      go : (b : Bool) (o : Order) → ltb 0 (f o) ≡ b → sum_by ψ (cond b (row o ∷ []) []) ≡ v o
      go true o k = omega (arith, sum_by-cons ψ (row o) [], e o)
      go false o k = omega (arith, z o (omega (arith, ltb-false 0 (f o) k)))

  pub rows_all : (P : Row → Type 0) (os : List Order) → AllByRecursion (λ o. P (row o)) os → AllByRecursion P (taker_rows s taker f os)
  rows_all P os h = all_joined P (λ o. cond (ltb 0 (f o)) (row o ∷ []) []) (by_priority os) (all_by_priority (λ o. AllByRecursion P (cond (ltb 0 (f o)) (row o ∷ []) [])) os (All-weaker (λ o. P (row o)) _ (λ o k. go (ltb 0 (f o)) o k) os h))
    where
      go : (b : Bool) (o : Order) → P (row o) → AllByRecursion P (cond b (row o ∷ []) [])
      go true o k = (k, tt)
      go false o k = tt

row_names : (s : Side) (taker : ℕ) (f : Order → ℕ) (n : ℕ) (o : Order) → (n ≡ taker → ⊥) → names n (trade s taker o.number (price_of o.kind) (f o)) ≡ eqb o.number n
row_names Buy taker f n o k = ap (λ b. b || eqb o.number n) (ne_eqb taker n (λ e. k (sym e)))
row_names Sell taker f n o k = ap (λ b. eqb o.number n || b) (ne_eqb taker n (λ e. k (sym e))) ∙ go (eqb o.number n)
  where
    go : (b : Bool) → (b || false) ≡ b
    go true = refl
    go false = refl

row_taker : (s : Side) (taker : ℕ) (f : Order → ℕ) (o : Order) → names taker (trade s taker o.number (price_of o.kind) (f o)) ≡ true
row_taker Buy taker f o = ap (λ b. b || eqb o.number taker) (eq-eqb taker taker refl)
row_taker Sell taker f o = ap (λ b. eqb o.number taker || b) (eq-eqb taker taker refl) ∙ go (eqb o.number taker)
  where
    go : (b : Bool) → (b || true) ≡ true
    go true = refl
    go false = refl

row_contracts : (s : Side) (taker : ℕ) (f : Order → ℕ) (o : Order) → (trade s taker o.number (price_of o.kind) (f o)).contracts.count ≡ f o
row_contracts Buy taker f o = refl
row_contracts Sell taker f o = refl

row_total : (s : Side) (taker : ℕ) (f : Order → ℕ) (o : Order) → (trade s taker o.number (price_of o.kind) (f o)).price.value * (trade s taker o.number (price_of o.kind) (f o)).contracts.count ≡ price_of o.kind * f o
row_total Buy taker f o = refl
row_total Sell taker f o = refl

pub rows_named : (s : Side) (taker : ℕ) (f : Order → ℕ) (os : List Order) (n : ℕ) → (n ≡ taker → ⊥) → named n (taker_rows s taker f os) ≡ sum_by f (filter (λ o. eqb o.number n) os)
rows_named s taker f os n k =
    sum_kept (λ r. r.contracts.count) (names n) (taker_rows s taker f os) ∙
    rows_sum s taker f (λ r. cond (names n r) r.contracts.count 0) (λ o. cond (eqb o.number n) (f o) 0) os
    (λ o i. cond (row_names s taker f n o k i) (row_contracts s taker f o i) 0) (λ o e. ap (λ m. cond (eqb o.number n) m 0) e ∙ go (eqb o.number n)) ∙
    sym (sum_kept f (λ o. eqb o.number n) os)
  where
    go : (b : Bool) → ◌≡◌ {A = ℕ} (cond b 0 0) 0
    go true = refl
    go false = refl

pub rows_taker : (s : Side) (taker : ℕ) (f : Order → ℕ) (os : List Order) → named taker (taker_rows s taker f os) ≡ sum_by f os
rows_taker s taker f os =
    sum_kept (λ r. r.contracts.count) (names taker) (taker_rows s taker f os) ∙
    rows_sum s taker f (λ r. cond (names taker r) r.contracts.count 0) f os (λ o i. cond (row_taker s taker f o i) (row_contracts s taker f o i) 0) (λ o e. e)

pub rows_contracts : (s : Side) (taker : ℕ) (f : Order → ℕ) (os : List Order) → contracts_in (taker_rows s taker f os) ≡ sum_by f os
rows_contracts s taker f os = rows_sum s taker f (λ r. r.contracts.count) f os (row_contracts s taker f) (λ o e. e)

pub rows_total : (s : Side) (taker : ℕ) (f : Order → ℕ) (os : List Order) → total_of (taker_rows s taker f os) ≡ sum_by (λ o. price_of o.kind * f o) os
rows_total s taker f os = rows_sum s taker f (λ r. r.price.value * r.contracts.count) (λ o. price_of o.kind * f o) os (row_total s taker f) (λ o e. ap (λ m. price_of o.kind * m) e ∙ omega arith)

pub rows_taken : (s : Side) (taker : ℕ) (f : Order → ℕ) (os : List Order) → AllByRecursion (Takes s os) (taker_rows s taker f os)
rows_taken s taker f os = rows_all s taker f (Takes s os) os (All-weaker (Has os) _ (λ o h. go s o h) os (all_has_itself os))
  where
    go : (s : Side) (o : Order) → Has os o → Takes s os (trade s taker o.number (price_of o.kind) (f o))
    go Buy o h = (refl, (o, h, refl, refl))
    go Sell o h = (refl, (o, h, refl, refl))
