-- Trades: what is taken from the orders that are hit, and what rests of an entering order.
use Rattle.std.proofs.Common.{◌≡◌, ℕ, suc, ◌+◌, ◌<◌, ◌≤◌, Bool, true, false, cond, not, ◌&&◌, eqb, ltb, List, [], ◌∷◌, map, length, Some, None, sum_by, count_by, filter, Option, refl, ap, ◌∙◌, inl, inr, arith}
use Rattle.std.specs.List.{AllByRecursion}
use Rattle.std.proofs.ByRecursion.{all_kept_by, kept_by_passes, All-weaker, All-map}
use Rattle.std.proofs.lemmas.Bool.{eqb-true, eqb-false, ltb-true}
use Rattle.market.specs.declared.auction.Auction.{Auction}
use Rattle.market.specs.declared.order.Account.{Account}
use Rattle.market.specs.declared.order.Order.{Order}
use Rattle.market.specs.declared.order.OrderKind.{OrderKind}
use Rattle.market.specs.declared.order.Side.{Side}
use Rattle.market.specs.declared.order.Side.TheVariants.{Buy, Sell}
use Rattle.market.specs.declared.quote.Quote.{Quote}
use Rattle.market.specs.declared.row.Row.{Row}
use Rattle.market.specs.declared.row.RowKind.TheVariants.{Returned}
use Rattle.market.specs.declared.units.Cents.{Cents}
use Rattle.market.specs.declared.units.Millis.{Millis}
use Rattle.rules.specs.Allocation.{after_trade, live}
use Rattle.rules.specs.Calls.{opened, remainder, resting}
use Rattle.rules.specs.Law.{maker}
use Rattle.rules.specs.Ledger.{Entry, named, t_rows}
use Rattle.rules.specs.Prices.{away_best, best_among, better_price, cents, quoted}
use Rattle.rules.specs.Series.{left_under}
use Rattle.market.specs.Words.{AddsUp, departure, limit_at, market_maker, or_else, price_of, standing}
use Rattle.rules.proofs.Tally.{sum_kept, sum_map, sum_same, all_both, all_of}
use Rattle.rules.proofs.Sound.{Matched, none, spent, stands_as, Agrees, Roled, Good, Fine, Priced, Spanned, reached}
use Rattle.rules.proofs.Matching.{left_here, left_past, matched_kept, count_kept, moved_accounts, matched_map}
use Rattle.rules.proofs.Steps.{departures_named}

-- ---- orders that are hit

hit_either : (b : Bool) (q : ℕ) (o : Order) (P : Order → Type 0) → P (after_trade q o) → P o → P (cond b (after_trade q o) o)
hit_either true q o P x y = x
hit_either false q o P x y = y

pub roled_trade : (a : Option Auction) (o : Order) (q : ℕ) → Roled a o → Roled a (after_trade q o)
roled_trade None o q r = r
roled_trade (Some a) o q (inl r) = inl r
roled_trade (Some a) o q (inr r) = inr r

module _ (hit : Order → Bool) (f : Order → ℕ) (os : List Order) (fits : AllByRecursion (λ o. hit o ≡ true → f o ≤ standing o) os) where
  abbrev pub traded : List Order
  traded = live (map (λ o. cond (hit o) (after_trade (f o) o) o) os)

  pub traded_accounts : (n : ℕ) → sum_by f (filter (λ o. eqb o.number n) (filter hit os)) + left_under traded n ≡ left_under os n
  traded_accounts n =
      let e₁ = moved_accounts (λ o. cond (hit o) (after_trade (f o) o) o) (λ o. cond (hit o) (f o) 0) os n
      (All-weaker (λ o. hit o ≡ true → f o ≤ standing o) _ (λ o k. point (hit o) o k) os fits) in
      let e₂ = sum_kept f (λ o. eqb o.number n) (filter hit os) in
      let e₃ = sum_kept (λ o. cond (eqb o.number n) (f o) 0) hit os in
      let e₄ = sum_kept (λ o. cond (hit o) (f o) 0) (λ o. eqb o.number n) os in
      let e₅ = sum_same (λ o. cond (hit o) (cond (eqb o.number n) (f o) 0) 0) (λ o. cond (eqb o.number n) (cond (hit o) (f o) 0) 0) os (all_of _ os (λ o. swap (hit o) (eqb o.number n) (f o))) in
      omega arith
    where
      swap : (b c : Bool) (m : ℕ) → cond b (cond c m 0) 0 ≡ cond c (cond b m 0) 0
      swap true true m = refl
      swap true false m = refl
      swap false true m = refl
      swap false false m = refl

      point : (b : Bool) (o : Order) → (b ≡ true → f o ≤ standing o) → ((cond b (after_trade (f o) o) o).number ≡ o.number) × (cond b (f o) 0 + standing (cond b (after_trade (f o) o) o) ≡ standing o)
      point true o k = (refl, omega (arith, k refl))
      point false o k = (refl, omega arith)

  pub traded_all : (P : Order → Type 0) → ((o : Order) (q : ℕ) → P o → P (after_trade q o)) → AllByRecursion P os → AllByRecursion P traded
  traded_all P keeps h =
      all_kept_by (λ o. ltb 0 (standing o)) P (map (λ o. cond (hit o) (after_trade (f o) o) o) os)
      (All-map P (λ o. cond (hit o) (after_trade (f o) o) o) os (All-weaker P _ (λ o k. hit_either (hit o) (f o) o P (keeps o (f o) k) k) os h))

  traded_adds : AllByRecursion AddsUp os → AllByRecursion AddsUp traded
  traded_adds h =
      all_kept_by (λ o. ltb 0 (standing o)) AddsUp (map (λ o. cond (hit o) (after_trade (f o) o) o) os)
      (All-map AddsUp (λ o. cond (hit o) (after_trade (f o) o) o) os (all_both (λ o. hit o ≡ true → f o ≤ standing o) AddsUp _ os (λ o k a. point (hit o) o k a) fits h))
    where
      point : (b : Bool) (o : Order) → (b ≡ true → f o ≤ standing o) → AddsUp o → AddsUp (cond b (after_trade (f o) o) o)
      point true o k a = omega (arith, k refl, a)
      point false o k a = a

  pub traded_good : (t : Bool) → AllByRecursion (Good t) os → AllByRecursion (Good t) traded
  traded_good t g =
      all_both (λ o. (ltb 0 (standing o) ≡ true) × AddsUp o) (λ o. (standing o ≤ 9999) × Fine t o.kind) (Good t) traded
      (λ o x y. record { some_left = ltb-true 0 (standing o) x.0; at_most = y.0; fine = y.1; adds = x.1 })
      (all_both (λ o. ltb 0 (standing o) ≡ true) AddsUp _ traded (λ o x y. (x, y))
      (kept_by_passes (λ o. ltb 0 (standing o)) (map (λ o. cond (hit o) (after_trade (f o) o) o) os)) (traded_adds (All-weaker (Good t) AddsUp (λ o k. k.adds) os g)))
      (traded_all (λ o. (standing o ≤ 9999) × Fine t o.kind) (λ o q k. (omega (arith, k.0), k.1)) (All-weaker (Good t) _ (λ o k. (k.at_most, k.fine)) os g))

  pub traded_matched : (t : Bool) (opened : Option ℕ) (bs : List Entry) → Matched (λ b. Unit {0}) (Agrees t opened) bs os → Matched (λ b. Unit {0}) (Agrees t opened) bs traded
  traded_matched t opened bs m =
      matched_kept (λ o. ltb 0 (standing o))
      (matched_map (λ o. cond (hit o) (after_trade (f o) o) o) (λ b o r. hit_either (hit o) (f o) o (Agrees t opened b) (same t b o (f o) r) r) m)
    where
      priced : (t : Bool) (b : Entry) (o : Order) (q : ℕ) → Priced t opened b o → Priced t opened b (after_trade q o)
      priced true b o q k = k
      priced false b o q k = k

      same : (t : Bool) (b : Entry) (o : Order) (q : ℕ) → Agrees t opened b o → Agrees t opened b (after_trade q o)
      same t b o q r = record { number = r.number; side = r.side; book = r.book; price = priced t b o q r.price }

  pub traded_count : (q : Order → Bool) → ((o : Order) (m : ℕ) → q (after_trade m o) ≡ q o) → count_by q traded ≤ count_by q os
  traded_count q keeps =
      let a = count_kept (λ o. ltb 0 (standing o)) q (map (λ o. cond (hit o) (after_trade (f o) o) o) os) in
      let b = sum_map (λ o. cond (q o) 1 0) (λ o. cond (hit o) (after_trade (f o) o) o) os in
      let c = sum_same (λ o. cond (q (cond (hit o) (after_trade (f o) o) o)) 1 0) (λ o. cond (q o) 1 0) os
      (all_of _ os (λ o. ap (λ b. cond b 1 0) (hit_either (hit o) (f o) o (λ p. q p ≡ q o) (keeps o (f o)) refl))) in
      omega arith

-- ---- what rests of an entering order

positive : (n : ℕ) → (n ≡ 0 → ⊥) → 0 < n
positive n k = omega arith

pub record Rests (o : Order) (rest price : ℕ) (x : List Order × List Row) : Type 0 where
  pub these : AllByRecursion (λ r. (r.number ≡ o.number) × (r.side ≡ o.side) × (r.role ≡ o.role) × (price_of r.kind ≡ price) × (0 < standing r) × (standing r ≤ rest) × Fine true r.kind × AddsUp r) x.0
  pub few : length x.0 ≤ 1
  pub account : named o.number x.1 + left_under x.0 o.number ≡ rest
  pub elsewhere : (i : ℕ) → 0 < i → (o.number ≡ i → ⊥) → named i x.1 ≡ 0
  pub no_trades : t_rows x.1 ≡ []

module _ (o : Order) (rest far end : ℕ) (pos : 0 < o.number) (fine : Fine true o.kind) (far-fine : far ≤ 99999) (new : o.gone.count ≡ 0) (at_most : rest ≤ o.size.count) where
  stays : (k : OrderKind) (e : Option Millis) → Fine true k → 0 < rest → Rests o rest (price_of k) (resting o rest k e ∷ [], [])
  stays k e f p = record {
    these = ((refl, refl, refl, refl, p, omega arith, f, omega (arith, new, at_most)), tt);
    few = omega arith;
    account = omega (arith, left_here (resting o rest k e) [] o.number refl);
    elsewhere = λ i q n. refl;
    no_trades = refl;
  }

  goes : (price : ℕ) → Rests o rest price ([], departure Returned o.number 0 rest ∷ [])
  goes price = record {
    these = tt;
    few = omega arith;
    account = omega (arith, departures_named row (part ∷ []) o.number pos (λ p. (refl, refl, refl)), left_here part [] o.number refl);
    elsewhere = λ i q n. departures_named row (part ∷ []) i q (λ p. (refl, refl, refl)) ∙ left_past part [] i n;
    no_trades = refl;
  }
    where
      part : Order
      part = resting o rest o.kind None

      row : Order → Row
      row p = departure Returned p.number 0 (standing p)

  gone : (price : ℕ) → rest ≡ 0 → Rests o rest price ([], [])
  gone price e = record { these = tt; few = omega arith; account = omega arith; elsewhere = λ i q n. refl; no_trades = refl }

  rests_by : (z reached maker : Bool) → eqb rest 0 ≡ z →
      Rests o rest (cond (reached && not maker) far (price_of o.kind))
      (cond z ([], [])
      (cond reached
      (cond maker ([], departure Returned o.number 0 rest ∷ [])
      (resting o rest (limit_at far) (Some (record { count = end })) ∷ [], []))
      (resting o rest o.kind None ∷ [], [])))
  rests_by true reached maker e = gone _ (eqb-true rest 0 e)
  rests_by false true true e = goes _
  rests_by false true false e = stays (limit_at far) (Some (record { count = end })) far-fine (positive rest (eqb-false rest 0 e))
  rests_by false false maker e = stays o.kind None fine (positive rest (eqb-false rest 0 e))

  pub rests : (a : Account) (reached : Bool) → Rests o rest (cond (reached && not (market_maker a)) far (price_of o.kind)) (remainder o rest a reached far end)
  rests a reached = rests_by (eqb rest 0) reached (market_maker a) refl

pub rest_matched : (R : Entry → Order → Type 0) (b : Entry) (xs : List Order) → length xs ≤ 1 → AllByRecursion (R b) xs → Matched (λ b. Unit {0}) R (b ∷ []) xs
rest_matched R b [] l h = spent tt none
rest_matched R b (x ∷ []) l h = stands_as h.0 none
rest_matched R b (x ∷ y ∷ xs) l h = absurd (go (length xs) l)
  where
    go : (n : ℕ) → suc (suc n) ≤ 1 → ⊥
    go n l = omega arith

-- ---- the away best is in span

abbrev Below : Option ℕ → Type 0
Below (Some v) = v ≤ 99999
Below None = Unit {0}

best_below : (s : Side) (ps : List (Option ℕ)) → AllByRecursion Below ps → Below (best_among s ps)
best_below s [] h = tt
best_below s (p ∷ ps) h = go s p (best_among s ps) h.0 (best_below s ps h.1)
  where
    go : (s : Side) (p q : Option ℕ) → Below p → Below q → Below (better_price s p q)
    go Buy (Some p) (Some q) a b = omega arith
    go Buy (Some p) None a b = a
    go Buy None (Some q) a b = b
    go Buy None None a b = tt
    go Sell (Some p) (Some q) a b = omega arith
    go Sell (Some p) None a b = a
    go Sell None (Some q) a b = b
    go Sell None None a b = tt

pub away_below : (s : Side) (qs : List Quote) → AllByRecursion (λ (q : Quote). Spanned q.bid × Spanned q.offer) qs → or_else (away_best s qs) 0 ≤ 99999
away_below s qs h = last (away_best s qs) (best_below s (map (quoted s) qs) (All-map Below (quoted s) qs (All-weaker (λ (q : Quote). Spanned q.bid × Spanned q.offer) (λ q. Below (quoted s q)) (λ q k. one s q k) qs h)))
  where
    each : (c : Option Cents) → Spanned c → Below (cents c)
    each (Some p) k = k
    each None k = tt

    one : (s : Side) (q : Quote) → Spanned q.bid × Spanned q.offer → Below (quoted s q)
    one Buy q k = each q.offer k.1
    one Sell q k = each q.bid k.0

    last : (x : Option ℕ) → Below x → or_else x 0 ≤ 99999
    last (Some v) k = k
    last None k = omega arith
