-- How matched lists, rising numbers and kept parts behave.
use Rattle.std.proofs.Common.{◌≡◌, ℕ, ◌+◌, ◌<◌, ◌≤◌, Bool, true, false, cond, ◌&&◌, eqb, ltb, List, [], ◌∷◌, ◌++◌, map, sum_by, count_by, filter, sym, refl, ap, ◌∙◌, subst, arith}
use Rattle.std.specs.List.{ContainsAt as Has, AllByRecursion}
use Rattle.std.proofs.lemmas.List.Sums.{length-filter, count_by-le-length, sum_by-cons, sum_by-append}
use Rattle.std.proofs.lemmas.List.Elements.{filter-append}
use Rattle.std.proofs.ByRecursion.{all_kept_by, kept_by_passes, all_has_itself, all-has, All-weaker, has_append_right}
use Rattle.std.proofs.lemmas.Bool.{ltb-false, ne_eqb, eq-eqb, cond-true, cond-false, both_ways}
use Rattle.market.specs.declared.order.Order.{Order}
use Rattle.market.specs.declared.row.Row.{Row}
use Rattle.rules.specs.Allocation.{live}
use Rattle.rules.specs.Law.{Rising}
use Rattle.rules.specs.Ledger.{Entry, named, names}
use Rattle.rules.specs.Series.{left_under}
use Rattle.market.specs.Words.{standing}
use Rattle.rules.proofs.Tally.{sum_kept, sum_map, sum_two, sum_under, all_both, all_of}
use Rattle.rules.proofs.Sound.{Lot, Matched, none, spent, stands_as}

-- ---- kept parts

module _ {X : Type 0} where
  pub all_from_kept : (p : X → Bool) (P : X → Type 0) (xs : List X) → AllByRecursion P (filter p xs) → AllByRecursion (λ x. p x ≡ true → P x) xs
  all_from_kept p P [] h = tt
  all_from_kept p P (x ∷ xs) h = go (p x) (all_from_kept p P xs) h
    where
      go : (b : Bool) → (AllByRecursion P (filter p xs) → AllByRecursion (λ x. p x ≡ true → P x) xs) → AllByRecursion P (cond b (x ∷ filter p xs) (filter p xs)) → (b ≡ true → P x) × AllByRecursion (λ x. p x ≡ true → P x) xs
      go true f k = (λ _. k.0, f k.1)
      go false f k = (λ e. absurd (both_ways false refl e), f k)

  pub all_to_kept : (p : X → Bool) (P : X → Type 0) (xs : List X) → AllByRecursion (λ x. p x ≡ true → P x) xs → AllByRecursion P (filter p xs)
  all_to_kept p P xs h = all_both (λ x. p x ≡ true → P x) (λ x. p x ≡ true) P (filter p xs) (λ x k e. k e) (all_kept_by p (λ x. p x ≡ true → P x) xs h) (kept_by_passes p xs)

  pub has_from_kept : (p : X → Bool) (xs : List X) (x : X) → Has (filter p xs) x → Has xs x × (p x ≡ true)
  has_from_kept p xs x h =
      all-has (λ y. Has xs y × (p y ≡ true)) (filter p xs) x
      (all_both (Has xs) (λ y. p y ≡ true) (λ y. Has xs y × (p y ≡ true)) (filter p xs) (λ y a b. (a, b)) (all_kept_by p (Has xs) xs (all_has_itself xs)) (kept_by_passes p xs))
      h

  pub has_cons : (y : X) (xs : List X) (x : X) → Has xs x → Has (y ∷ xs) x
  has_cons y xs x h = has_append_right (y ∷ []) xs x h

  pub has_to_kept : (p : X → Bool) (xs : List X) (x : X) → Has xs x → p x ≡ true → Has (filter p xs) x
  has_to_kept p xs x h = all-has (λ y. p y ≡ true → Has (filter p xs) y) xs x (all_from_kept p (Has (filter p xs)) xs (all_has_itself (filter p xs))) h

  pub count_kept : (p q : X → Bool) (xs : List X) → count_by q (filter p xs) ≤ count_by q xs
  count_kept p q xs =
      let e = sum_kept (λ x. cond (q x) 1 0) p xs in
      let l = sum_under (λ x. cond (p x) (cond (q x) 1 0) 0) (λ x. cond (q x) 1 0) xs (all_of (λ x. cond (p x) (cond (q x) 1 0) 0 ≤ cond (q x) 1 0) xs (λ x. go (p x) (cond (q x) 1 0))) in
      omega arith
    where
      go : (b : Bool) (n : ℕ) → cond b n 0 ≤ n
      go true n = omega arith
      go false n = omega arith

  pub kept_same : (p q : X → Bool) (xs : List X) → AllByRecursion (λ x. p x ≡ q x) xs → filter p xs ≡ filter q xs
  kept_same p q [] h = refl
  kept_same p q (x ∷ xs) h = (λ t. cond (h.0 t) (x ∷ kept_same p q xs h.1 t) (kept_same p q xs h.1 t))

  pub kept_kept : (p q : X → Bool) (xs : List X) → filter q (filter p xs) ≡ filter (λ x. p x && q x) xs
  kept_kept p q [] = refl
  kept_kept p q (x ∷ xs) = go (p x) (kept_kept p q xs)
    where
      go : (b : Bool) → filter q (filter p xs) ≡ filter (λ x. p x && q x) xs → filter q (cond b (x ∷ filter p xs) (filter p xs)) ≡ cond (b && q x) (x ∷ filter (λ x. p x && q x) xs) (filter (λ x. p x && q x) xs)
      go true e = ap (λ ys. cond (q x) (x ∷ ys) ys) e
      go false e = e

  pub kept_all : (p : X → Bool) (xs : List X) → AllByRecursion (λ x. p x ≡ true) xs → filter p xs ≡ xs
  kept_all p [] h = refl
  kept_all p (x ∷ xs) h = cond-true (p x) (x ∷ filter p xs) (filter p xs) h.0 ∙ ap (λ ys. x ∷ ys) (kept_all p xs h.1)

  pub kept_none : (p : X → Bool) (xs : List X) → AllByRecursion (λ x. p x ≡ false) xs → filter p xs ≡ []
  kept_none p [] h = refl
  kept_none p (x ∷ xs) h = cond-false (p x) (x ∷ filter p xs) (filter p xs) h.0 ∙ kept_none p xs h.1

  -- ---- rising numbers

  pub rising_above : (f : X → ℕ) (low m : ℕ) (xs : List X) → m ≤ low → Rising f low xs → AllByRecursion (λ x. m < f x) xs
  rising_above f low m [] l h = tt
  rising_above f low m (x ∷ xs) l h = (omega (arith, h.0), rising_above f (f x) m xs (omega (arith, h.0)) h.1)

  pub rising_lower : (f : X → ℕ) (low m : ℕ) (xs : List X) → m ≤ low → Rising f low xs → Rising f m xs
  rising_lower f low m [] l h = tt
  rising_lower f low m (x ∷ xs) l h = (omega (arith, h.0), h.1)

  pub rising_kept : (f : X → ℕ) (p : X → Bool) (low : ℕ) (xs : List X) → Rising f low xs → Rising f low (filter p xs)
  rising_kept f p low [] h = tt
  rising_kept f p low (x ∷ xs) h = go (p x) (rising_kept f p (f x) xs h.1)
    where
      go : (b : Bool) → Rising f (f x) (filter p xs) → Rising f low (cond b (x ∷ filter p xs) (filter p xs))
      go true k = (h.0, k)
      go false k = rising_lower f (f x) low (filter p xs) (omega (arith, h.0)) k

  pub rising_append : (f : X → ℕ) (low m : ℕ) (xs ys : List X) → Rising f low xs → AllByRecursion (λ x. f x ≤ m) xs → low ≤ m → Rising f m ys → Rising f low (xs ++ ys)
  rising_append f low m [] ys h a l k = rising_lower f m low ys l k
  rising_append f low m (x ∷ xs) ys h a l k = (h.0, rising_append f (f x) m xs ys h.1 a.1 a.0 k)

-- ---- contracts under a number

pub left_none : (os : List Order) (n : ℕ) → AllByRecursion (λ o. o.number ≡ n → ⊥) os → left_under os n ≡ 0
left_none os n h = ap (sum_by (λ o. o.left.count)) (kept_none (λ o. eqb o.number n) os (All-weaker (λ o. o.number ≡ n → ⊥) (λ o. eqb o.number n ≡ false) (λ o k. ne_eqb o.number n k) os h))

pub left_append : (os ps : List Order) (n : ℕ) → left_under (os ++ ps) n ≡ left_under os n + left_under ps n
left_append os ps n = ap (sum_by (λ o. o.left.count)) (filter-append (λ o. eqb o.number n) os ps) ∙ sum_by-append (λ o. o.left.count) (filter (λ o. eqb o.number n) os) (filter (λ o. eqb o.number n) ps)

pub left_here : (o : Order) (os : List Order) (n : ℕ) → o.number ≡ n → left_under (o ∷ os) n ≡ standing o + left_under os n
left_here o os n e =
    ap (sum_by (λ o. o.left.count)) (cond-true (eqb o.number n) (o ∷ filter (λ o. eqb o.number n) os) (filter (λ o. eqb o.number n) os) (eq-eqb o.number n e)) ∙
    sum_by-cons (λ o. o.left.count) o (filter (λ o. eqb o.number n) os)

pub left_past : (o : Order) (os : List Order) (n : ℕ) → (o.number ≡ n → ⊥) → left_under (o ∷ os) n ≡ left_under os n
left_past o os n e = ap (sum_by (λ o. o.left.count)) (cond-false (eqb o.number n) (o ∷ filter (λ o. eqb o.number n) os) (filter (λ o. eqb o.number n) os) (ne_eqb o.number n e))

pub named_append : (n : ℕ) (rs ts : List Row) → named n (rs ++ ts) ≡ named n rs + named n ts
named_append n rs ts = ap (sum_by (λ r. r.contracts.count)) (filter-append (names n) rs ts) ∙ sum_by-append (λ r. r.contracts.count) (filter (names n) rs) (filter (names n) ts)

-- d of each order goes, and those with nothing left are dropped
pub moved_accounts : (g : Order → Order) (d : Order → ℕ) (os : List Order) (n : ℕ) → AllByRecursion (λ o. ((g o).number ≡ o.number) × (d o + standing (g o) ≡ standing o)) os →
    sum_by d (filter (λ o. eqb o.number n) os) + left_under (live (map g os)) n ≡ left_under os n
moved_accounts g d os n h =
    let e₁ = sum_kept d (λ o. eqb o.number n) os in
    let e₂ = sum_kept (λ o. o.left.count) (λ o. eqb o.number n) (live (map g os)) in
    let e₃ = sum_kept (λ o. cond (eqb o.number n) o.left.count 0) (λ o. ltb 0 (standing o)) (map g os) in
    let e₄ = sum_map (λ o. cond (ltb 0 (standing o)) (cond (eqb o.number n) o.left.count 0) 0) g os in
    let e₅ = sum_kept (λ o. o.left.count) (λ o. eqb o.number n) os in
    let e₆ = sum_two (λ o. cond (eqb o.number n) (d o) 0) (λ o. cond (ltb 0 (standing (g o))) (cond (eqb (g o).number n) (g o).left.count 0) 0) (λ o. cond (eqb o.number n) o.left.count 0) os
    (All-weaker (λ o. ((g o).number ≡ o.number) × (d o + standing (g o) ≡ standing o)) _ (λ o k. point o k) os h) in
    omega arith
  where
    go : (b t : Bool) (q m l : ℕ) → ltb 0 m ≡ t → q + m ≡ l → cond b q 0 + cond t (cond b m 0) 0 ≡ cond b l 0
    go true true q m l c e = e
    go true false q m l c e = omega (arith, ltb-false 0 m c)
    go false true q m l c e = refl
    go false false q m l c e = refl

    point : (o : Order) → ((g o).number ≡ o.number) × (d o + standing (g o) ≡ standing o) →
        cond (eqb o.number n) (d o) 0 + cond (ltb 0 (standing (g o))) (cond (eqb (g o).number n) (g o).left.count 0) 0 ≡ cond (eqb o.number n) o.left.count 0
    point o k = subst (λ m. cond (eqb o.number n) (d o) 0 + cond (ltb 0 (standing (g o))) (cond (eqb m n) (g o).left.count 0) 0 ≡ cond (eqb o.number n) o.left.count 0) (sym k.0) (go (eqb o.number n) (ltb 0 (standing (g o))) (d o) (standing (g o)) (standing o) refl k.1)

-- ---- matched lists

pub matched_kept : {R : Entry → Order → Type 0} {bs : List Entry} {os : List Order} → (p : Order → Bool) → Matched (λ b. Unit {0}) R bs os → Matched (λ b. Unit {0}) R bs (filter p os)
matched_kept p none = none
matched_kept p (spent s m) = spent s (matched_kept p m)
matched_kept {R = R} p (stands_as {b = b} {o = o} {bs = bs} {os = os} r m) = go (p o) (matched_kept p m)
  where
    go : (t : Bool) → Matched (λ b. Unit {0}) R bs (filter p os) → Matched (λ b. Unit {0}) R (b ∷ bs) (cond t (o ∷ filter p os) (filter p os))
    go true k = stands_as r k
    go false k = spent tt k

module _ {S : Entry → Type 0} {R : Entry → Order → Type 0} where
  pub matched_append : {bs cs : List Entry} {os ps : List Order} → Matched S R bs os → Matched S R cs ps → Matched S R (bs ++ cs) (os ++ ps)
  matched_append none k = k
  matched_append (spent s m) k = spent s (matched_append m k)
  matched_append (stands_as r m) k = stands_as r (matched_append m k)

  pub matched_with : (P : Entry → Type 0) {bs : List Entry} {os : List Order} → Matched S R bs os → AllByRecursion P bs → Matched (λ b. S b × P b) (λ b o. R b o × P b) bs os
  matched_with P none a = none
  matched_with P (spent s m) a = spent (s, a.0) (matched_with P m a.1)
  matched_with P (stands_as r m) a = stands_as (r, a.0) (matched_with P m a.1)

  -- each order's entry
  pub matched_entry : {bs : List Entry} {os : List Order} → Matched S R bs os → AllByRecursion (λ o. (b : Entry) × Has bs b × R b o) os
  matched_entry none = tt
  matched_entry (spent {b = b} {bs = bs} {os = os} s m) = All-weaker (λ o. (c : Entry) × Has bs c × R c o) (λ o. (c : Entry) × Has (b ∷ bs) c × R c o) (λ o k. (k.0, has_cons b bs k.0 k.1, k.2)) os (matched_entry m)
  matched_entry (stands_as {b = b} {o = o} {bs = bs} {os = os} r m) =
      ((b, (0, omega arith, λ d. refl), r), All-weaker (λ o. (c : Entry) × Has bs c × R c o) (λ o. (c : Entry) × Has (b ∷ bs) c × R c o) (λ o k. (k.0, has_cons b bs k.0 k.1, k.2)) os (matched_entry m))

  pub matched_all : (P : Order → Type 0) {bs : List Entry} {os : List Order} → ((b : Entry) (o : Order) → R b o → P o) → Matched S R bs os → AllByRecursion P os
  matched_all P h none = tt
  matched_all P h (spent s m) = matched_all P h m
  matched_all P h (stands_as {b = b} {o = o} r m) = (h b o r, matched_all P h m)

  pub rising_orders : {bs : List Entry} {os : List Order} → ((b : Entry) (o : Order) → R b o → o.number ≡ b.number) → (low : ℕ) → Matched S R bs os → Rising (λ (b : Entry). b.number) low bs → Rising (λ (o : Order). o.number) low os
  rising_orders f low none h = tt
  rising_orders f low (spent {b = b} {os = os} s m) h = rising_lower (λ (o : Order). o.number) b.number low os (omega (arith, h.0)) (rising_orders f b.number m h.1)
  rising_orders f low (stands_as {b = b} {o = o} {os = os} r m) h =
      (omega (arith, h.0, f b o r), rising_lower (λ (o : Order). o.number) b.number o.number os (omega (arith, f b o r)) (rising_orders f b.number m h.1))

  pub matched_sum : (pe : Entry → Bool) (po : Order → Bool) (u : Entry → ℕ) (v : Order → ℕ) {bs : List Entry} {os : List Order} →
      ((b : Entry) → S b → pe b ≡ true → u b ≡ 0) → ((b : Entry) (o : Order) → R b o → (pe b ≡ po o) × (pe b ≡ true → u b ≡ v o)) →
      Matched S R bs os → sum_by u (filter pe bs) ≡ sum_by v (filter po os)
  matched_sum pe po u v hs hr none = refl
  matched_sum pe po u v hs hr (spent {b = b} {bs = bs} s m) = go (pe b) (hs b s) ∙ matched_sum pe po u v hs hr m
    where
      go : (t : Bool) → (t ≡ true → u b ≡ 0) → sum_by u (cond t (b ∷ filter pe bs) (filter pe bs)) ≡ sum_by u (filter pe bs)
      go true k = omega (arith, sum_by-cons u b (filter pe bs), k refl)
      go false k = refl
  matched_sum pe po u v hs hr (stands_as {b = b} {o = o} {bs = bs} {os = os} r m) = go (pe b) (po o) (hr b o r).0 (hr b o r).1 (matched_sum pe po u v hs hr m)
    where
      go : (t t' : Bool) → t ≡ t' → (t ≡ true → u b ≡ v o) → sum_by u (filter pe bs) ≡ sum_by v (filter po os) →
          sum_by u (cond t (b ∷ filter pe bs) (filter pe bs)) ≡ sum_by v (cond t' (o ∷ filter po os) (filter po os))
      go true true e k ih = omega (arith, sum_by-cons u b (filter pe bs), sum_by-cons v o (filter po os), k refl, ih)
      go true false e k ih = absurd (both_ways false refl (sym e))
      go false true e k ih = absurd (both_ways false refl e)
      go false false e k ih = ih

pub matched_map : {S : Entry → Type 0} {R Q : Entry → Order → Type 0} {bs : List Entry} {os : List Order} → (g : Order → Order) → ((b : Entry) (o : Order) → R b o → Q b (g o)) → Matched S R bs os → Matched S Q bs (map g os)
matched_map g h none = none
matched_map g h (spent s m) = spent s (matched_map g h m)
matched_map g h (stands_as {b = b} {o = o} r m) = stands_as (h b o r) (matched_map g h m)

pub matched_to : {S T : Entry → Type 0} {R Q : Entry → Order → Type 0} {bs : List Entry} {os : List Order} → ((b : Entry) → S b → T b) → ((b : Entry) (o : Order) → R b o → Q b o) → Matched S R bs os → Matched T Q bs os
matched_to f h none = none
matched_to f h (spent {b = b} s m) = spent (f b s) (matched_to f h m)
matched_to f h (stands_as {b = b} {o = o} r m) = stands_as (h b o r) (matched_to f h m)

pub lot_of : (p : Order → Bool) (os : List Order) → Lot os → Lot (filter p os)
lot_of p os l = record {
  rising = rising_kept (λ (o : Order). o.number) p 0 os l.rising;
  short = omega (arith, l.short, length-filter p os, count_by-le-length p os);
  small = all_kept_by p (λ o. standing o ≤ 9999) os l.small;
}
