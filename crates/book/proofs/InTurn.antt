-- Buyers and sellers paired: the k-th contract bought is the k-th contract sold, as one pairs the first unpaired buyer
-- with the first unpaired seller.
use Rattle.std.proofs.Common.{◌≡◌, ℕ, suc, ◌+◌, ◌-◌, ◌<◌, ◌≤◌, min, cond, ltb, leb, List, [], ◌∷◌, ◌++◌, length, sym, refl, ap, ◌∙◌, subst, ap₂, ⊎_elim, arith}
use Rattle.std.specs.List.{flat_map, AllByRecursion}
use Rattle.std.proofs.ByRecursion.{All-weaker}
use Rattle.std.proofs.lemmas.List.{append-nil, append_assoc, length-append}
use Rattle.std.proofs.lemmas.Bool.{cond_both, cond-true, cond-false, leb-true, leb-false, le-leb, lt-leb, cases_lt}
use Rattle.market.specs.Words.{trade}
use Rattle.market.specs.declared.order.Side.TheVariants.{Buy}
use Rattle.market.specs.declared.row.Row.{Row}
use Rattle.rules.specs.Opening.{intervals, overlap, paired}

-- ---- lists of lists

joined_same : {X A : Type 0} (f g : X → List A) (xs : List X) → AllByRecursion (λ x. f x ≡ g x) xs → flat_map f xs ≡ flat_map g xs
joined_same f g [] h = refl
joined_same f g (x ∷ xs) h = ap₂ ◌++◌ h.0 (joined_same f g xs h.1)

joined_none : {X A : Type 0} (f : X → List A) (xs : List X) → AllByRecursion (λ x. f x ≡ []) xs → flat_map f xs ≡ []
joined_none f [] h = refl
joined_none f (x ∷ xs) h = ap₂ ◌++◌ h.0 (joined_none f xs h.1)

joined_nil : {X A : Type 0} (xs : List X) → flat_map {A = A} (λ (x : X). []) xs ≡ []
joined_nil [] = refl
joined_nil (x ∷ xs) = joined_nil xs

-- ---- pairing one after another

-- a row of k contracts, none for no contracts
abbrev pub row_of : ℕ → ℕ → ℕ → ℕ → List Row
row_of p buyer seller k = cond (ltb 0 k) (trade Buy buyer seller p k ∷ []) []

-- a buyer with x contracts meets the sellers in turn, and what is left of them goes to the next buyers
abbrev pub served : ℕ → ℕ → ℕ → (List (ℕ × ℕ) → List Row) → List (ℕ × ℕ) → List Row
served p n x next [] = []
served p n x next (s ∷ ss) =
    cond (leb x s.1)
    (row_of p n s.0 x ++ next ((s.0, s.1 - x) ∷ ss))
    (row_of p n s.0 s.1 ++ served p n (x - s.1) next ss)

abbrev pub pair_up : ℕ → List (ℕ × ℕ) → List (ℕ × ℕ) → List Row
pair_up p [] ss = []
pair_up p (b ∷ bs) ss = served p b.0 b.1 (pair_up p bs) ss

-- ---- the intervals lie one after another

later : (low at : ℕ) (xs : List (ℕ × ℕ)) → low ≤ at → AllByRecursion (λ s. low ≤ s.1) (intervals at xs)
later low at [] l = tt
later low at (x ∷ xs) l = (l, later low (at + x.1) xs (omega arith))

abbrev meet : ℕ → (ℕ × ℕ × ℕ) → (ℕ × ℕ × ℕ) → List Row
meet p b s = row_of p b.0 s.0 (overlap b s)

-- those that begin where b ends have nothing in common with it
meet_past : (p at : ℕ) (b : ℕ × ℕ × ℕ) (low : ℕ) (xs : List (ℕ × ℕ)) → b.2 ≤ low → low ≤ at → flat_map (meet p b) (intervals at xs) ≡ []
meet_past p at b low xs l k =
    joined_none (meet p b) (intervals at xs)
    (All-weaker (λ t. low ≤ t.1) (λ t. meet p b t ≡ []) (λ t h. ap (row_of p b.0 t.0) {x = overlap b t} {y = 0} (omega arith)) (intervals at xs) (later low at xs k))

module _ (p at n x m y : ℕ) (bs ss : List (ℕ × ℕ)) where
  buyer_rest : x ≤ y → (b : ℕ × ℕ × ℕ) → at + x ≤ b.1 →
      flat_map (meet p b) (intervals at ((m, y) ∷ ss)) ≡ flat_map (meet p b) (intervals (at + x) ((m, y - x) ∷ ss))
  buyer_rest l b h = ap₂ ◌++◌
      (ap (row_of p b.0 m) {x = overlap b (m, at, at + y)} {y = overlap b (m, at + x, at + x + (y - x))} (omega arith))
      (ap (λ z. flat_map (meet p b) (intervals z ss)) {x = at + y} {y = at + x + (y - x)} (omega arith))

  -- the first buyer is used up
  buyer_first : x ≤ y → paired p (intervals at ((n, x) ∷ bs)) (intervals at ((m, y) ∷ ss)) ≡
      row_of p n m x ++ paired p (intervals (at + x) bs) (intervals (at + x) ((m, y - x) ∷ ss))
  buyer_first l = ap₂ ◌++◌
      (ap₂ ◌++◌ (ap (row_of p n m) {x = overlap (n, at, at + x) (m, at, at + y)} {y = x} (omega arith)) (meet_past p (at + y) (n, at, at + x) (at + x) ss (omega arith) (omega arith)) ∙ append-nil (row_of p n m x))
      (joined_same (λ b. flat_map (meet p b) (intervals at ((m, y) ∷ ss))) (λ b. flat_map (meet p b) (intervals (at + x) ((m, y - x) ∷ ss))) (intervals (at + x) bs)
      (All-weaker (λ b. at + x ≤ b.1) (λ b. flat_map (meet p b) (intervals at ((m, y) ∷ ss)) ≡ flat_map (meet p b) (intervals (at + x) ((m, y - x) ∷ ss))) (buyer_rest l)
      (intervals (at + x) bs) (later (at + x) (at + x) bs (omega arith))))

  seller_rest : y ≤ x → flat_map (meet p (n, at, at + x)) (intervals (at + y) ss) ≡ flat_map (meet p (n, at + y, at + y + (x - y))) (intervals (at + y) ss)
  seller_rest l =
      joined_same (meet p (n, at, at + x)) (meet p (n, at + y, at + y + (x - y))) (intervals (at + y) ss)
      (All-weaker (λ t. at + y ≤ t.1) (λ t. meet p (n, at, at + x) t ≡ meet p (n, at + y, at + y + (x - y)) t)
      (λ t h. ap (row_of p n t.0) {x = overlap (n, at, at + x) t} {y = overlap (n, at + y, at + y + (x - y)) t} (omega arith)) (intervals (at + y) ss) (later (at + y) (at + y) ss (omega arith)))

  seller_past : y ≤ x → flat_map (λ b. flat_map (meet p b) (intervals at ((m, y) ∷ ss))) (intervals (at + x) bs) ≡ flat_map (λ b. flat_map (meet p b) (intervals (at + y) ss)) (intervals (at + y + (x - y)) bs)
  seller_past l =
      joined_same (λ b. flat_map (meet p b) (intervals at ((m, y) ∷ ss))) (λ b. flat_map (meet p b) (intervals (at + y) ss)) (intervals (at + x) bs)
      (All-weaker (λ b. at + y ≤ b.1) (λ b. flat_map (meet p b) (intervals at ((m, y) ∷ ss)) ≡ flat_map (meet p b) (intervals (at + y) ss))
      (λ b h. ap (λ k. row_of p b.0 m k ++ flat_map (meet p b) (intervals (at + y) ss)) {x = overlap b (m, at, at + y)} {y = 0} (omega arith))
      (intervals (at + x) bs) (later (at + y) (at + x) bs (omega arith))) ∙
      ap (λ z. flat_map (λ b. flat_map (meet p b) (intervals (at + y) ss)) (intervals z bs)) {x = at + x} {y = at + y + (x - y)} (omega arith)

  -- the first seller is used up
  seller_first : y ≤ x → paired p (intervals at ((n, x) ∷ bs)) (intervals at ((m, y) ∷ ss)) ≡
      row_of p n m y ++ paired p (intervals (at + y) ((n, x - y) ∷ bs)) (intervals (at + y) ss)
  seller_first l =
      ap₂ ◌++◌ (ap₂ ◌++◌ (ap (row_of p n m) {x = overlap (n, at, at + x) (m, at, at + y)} {y = y} (omega arith)) (seller_rest l)) (seller_past l) ∙
      append_assoc (row_of p n m y) (flat_map (meet p (n, at + y, at + y + (x - y))) (intervals (at + y) ss)) (flat_map (λ b. flat_map (meet p b) (intervals (at + y) ss)) (intervals (at + y + (x - y)) bs))

-- ---- so pairing by intervals is pairing one after another

module _ (p : ℕ) (bs : List (ℕ × ℕ)) (next : (at : ℕ) (ss : List (ℕ × ℕ)) → paired p (intervals at bs) (intervals at ss) ≡ pair_up p bs ss) where
  paired_served : (n x at : ℕ) (ss : List (ℕ × ℕ)) → paired p (intervals at ((n, x) ∷ bs)) (intervals at ss) ≡ served p n x (pair_up p bs) ss
  paired_served n x at [] = joined_nil (intervals (at + x) bs)
  paired_served n x at (s ∷ ss) =
      cond_both (leb x s.1) (row_of p n s.0 x ++ pair_up p bs ((s.0, s.1 - x) ∷ ss)) (row_of p n s.0 s.1 ++ served p n (x - s.1) (pair_up p bs) ss)
      (λ r. paired p (intervals at ((n, x) ∷ bs)) (intervals at (s ∷ ss)) ≡ r)
      (λ t. buyer_first p at n x s.0 s.1 bs ss (leb-true x s.1 t) ∙ ap (λ r. row_of p n s.0 x ++ r) (next (at + x) ((s.0, s.1 - x) ∷ ss)))
      (λ t. seller_first p at n x s.0 s.1 bs ss (omega (arith, leb-false x s.1 t)) ∙ ap (λ r. row_of p n s.0 s.1 ++ r) (paired_served n (x - s.1) (at + s.1) ss))

pub paired_is : (p : ℕ) (bs : List (ℕ × ℕ)) (at : ℕ) (ss : List (ℕ × ℕ)) → paired p (intervals at bs) (intervals at ss) ≡ pair_up p bs ss
paired_is p [] at ss = refl
paired_is p (b ∷ bs) at ss = paired_served p bs (paired_is p bs) b.0 b.1 at ss

-- ---- the number of rows

row_length : (p n m k : ℕ) → length (row_of p n m k) ≤ 1
row_length p n m k = cond_both (ltb 0 k) (trade Buy n m p k ∷ []) [] (λ rs. length rs ≤ 1) (λ t. omega arith) (λ t. omega arith)

module _ (p : ℕ) (bs : List (ℕ × ℕ)) (next : (ss : List (ℕ × ℕ)) → length (pair_up p bs ss) ≤ length bs + length ss) where
  served_length : (n x : ℕ) (ss : List (ℕ × ℕ)) → length (served p n x (pair_up p bs) ss) ≤ suc (length bs + length ss)
  served_length n x [] = omega arith
  served_length n x (s ∷ ss) =
      cond_both (leb x s.1) (row_of p n s.0 x ++ pair_up p bs ((s.0, s.1 - x) ∷ ss)) (row_of p n s.0 s.1 ++ served p n (x - s.1) (pair_up p bs) ss)
      (λ rs. length rs ≤ suc (length bs + length (s ∷ ss)))
      (λ t. omega (arith, length-append (row_of p n s.0 x) (pair_up p bs ((s.0, s.1 - x) ∷ ss)), row_length p n s.0 x, next ((s.0, s.1 - x) ∷ ss)))
      (λ t. omega (arith, length-append (row_of p n s.0 s.1) (served p n (x - s.1) (pair_up p bs) ss), row_length p n s.0 s.1, served_length n (x - s.1) ss))

pair_up_length : (p : ℕ) (bs ss : List (ℕ × ℕ)) → length (pair_up p bs ss) ≤ length bs + length ss
pair_up_length p [] ss = omega arith
pair_up_length p (b ∷ bs) ss = omega (arith, served_length p bs (pair_up_length p bs) b.0 b.1 ss)

-- there are no more rows than buyers and sellers
pub paired_length : (p at : ℕ) (bs ss : List (ℕ × ℕ)) → length (paired p (intervals at bs) (intervals at ss)) ≤ length bs + length ss
paired_length p at bs ss = subst (λ rs. length rs ≤ length bs + length ss) (sym (paired_is p bs at ss)) (pair_up_length p bs ss)

-- ---- steps of a loop over both lists: what is used up falls out

pub pair_none : (p : ℕ) (bs : List (ℕ × ℕ)) → pair_up p bs [] ≡ []
pair_none p [] = refl
pair_none p (b ∷ bs) = refl

pub drop_buyer : (p n : ℕ) (bs ss : List (ℕ × ℕ)) → pair_up p ((n, 0) ∷ bs) ss ≡ pair_up p bs ss
drop_buyer p n bs [] = sym (pair_none p bs)
drop_buyer p n bs (s ∷ ss) =
    cond-true (leb 0 s.1) (pair_up p bs ((s.0, s.1 - 0) ∷ ss)) (row_of p n s.0 s.1 ++ served p n (0 - s.1) (pair_up p bs) ss) (le-leb 0 s.1 (omega arith)) ∙
    ap (λ z. pair_up p bs ((s.0, z) ∷ ss)) {x = s.1 - 0} {y = s.1} (omega arith)

pub drop_seller : (p m : ℕ) (bs ss : List (ℕ × ℕ)) → pair_up p bs ((m, 0) ∷ ss) ≡ pair_up p bs ss
drop_seller p m [] ss = refl
drop_seller p m (b ∷ bs) ss =
    cond_both (leb b.1 0) (row_of p b.0 m b.1 ++ pair_up p bs ((m, 0 - b.1) ∷ ss)) (served p b.0 (b.1 - 0) (pair_up p bs) ss)
    (λ rs. rs ≡ pair_up p (b ∷ bs) ss)
    (λ t. let z : b.1 ≡ 0 = omega (arith, leb-true b.1 0 t) in
    ap (λ k. row_of p b.0 m k ++ pair_up p bs ((m, 0 - k) ∷ ss)) z ∙ drop_seller p m bs ss ∙ sym (drop_buyer p b.0 bs ss) ∙ ap (λ k. pair_up p ((b.0, k) ∷ bs) ss) (sym z))
    (λ t. ap (λ k. served p b.0 k (pair_up p bs) ss) {x = b.1 - 0} {y = b.1} (omega arith))

module _ (p n x m y : ℕ) (bs ss : List (ℕ × ℕ)) where
  pair_buyer : x ≤ y → pair_up p ((n, x) ∷ bs) ((m, y) ∷ ss) ≡ row_of p n m x ++ pair_up p bs ((m, y - x) ∷ ss)
  pair_buyer l = cond-true (leb x y) (row_of p n m x ++ pair_up p bs ((m, y - x) ∷ ss)) (row_of p n m y ++ pair_up p ((n, x - y) ∷ bs) ss) (le-leb x y l)

  pair_seller : y < x → pair_up p ((n, x) ∷ bs) ((m, y) ∷ ss) ≡ row_of p n m y ++ pair_up p ((n, x - y) ∷ bs) ss
  pair_seller l = cond-false (leb x y) (row_of p n m x ++ pair_up p bs ((m, y - x) ∷ ss)) (row_of p n m y ++ pair_up p ((n, x - y) ∷ bs) ss) (lt-leb x y l)

  -- the smaller of the two is taken from both
  pub pair_step : pair_up p ((n, x) ∷ bs) ((m, y) ∷ ss) ≡ row_of p n m (min x y) ++ pair_up p ((n, x - min x y) ∷ bs) ((m, y - min x y) ∷ ss)
  pair_step = ⊎_elim
      (λ (l : y < x).
      let e : y ≡ min x y = omega arith in
      let f : 0 ≡ y - min x y = omega arith in
      pair_seller l ∙ ap (λ rs. row_of p n m y ++ rs) (sym (drop_seller p m ((n, x - y) ∷ bs) ss)) ∙
      (λ i. row_of p n m (e i) ++ pair_up p ((n, x - e i) ∷ bs) ((m, f i) ∷ ss)))
      (λ (l : x ≤ y).
      let e : x ≡ min x y = omega arith in
      let f : 0 ≡ x - min x y = omega arith in
      pair_buyer l ∙ ap (λ rs. row_of p n m x ++ rs) (sym (drop_buyer p n bs ((m, y - x) ∷ ss))) ∙
      (λ i. row_of p n m (e i) ++ pair_up p ((n, f i) ∷ bs) ((m, y - e i) ∷ ss)))
      (cases_lt y x)
