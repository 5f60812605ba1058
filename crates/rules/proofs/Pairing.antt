-- The opening's rows: what they name and hold.
use Rattle.std.proofs.Common.{◌≡◌, ℕ, ◌+◌, ◌-◌, ◌<◌, ◌≤◌, min, max, Bool, true, false, cond, ◌&&◌, ◌||◌, eqb, ltb, List, [], ◌∷◌, None, sum_by, filter, sym, refl, ap, ◌∙◌, ⊎_elim, arith}
use Rattle.std.specs.List.{flat_map, ContainsAt as Has, AllByRecursion}
use Rattle.std.proofs.lemmas.List.Sums.{sum_by-cons}
use Rattle.std.proofs.ByRecursion.{sum_by_le, All-weaker, all_has_itself, All-map, all-has}
use Rattle.std.proofs.lemmas.Bool.{ltb-false, eqb-true, both_ways, cases_lt, and_parts}
use Rattle.market.specs.declared.order.Order.{Order}
use Rattle.market.specs.declared.order.Side.{Side}
use Rattle.market.specs.declared.order.Side.TheVariants.{Buy, Sell}
use Rattle.market.specs.declared.row.Row.{Row}
use Rattle.rules.specs.Allocation.{by_priority}
use Rattle.rules.specs.Law.{Rising}
use Rattle.rules.specs.Ledger.{contracts_in, named, names}
use Rattle.rules.specs.Opening.{filled, intervals, opening_fill, opening_rows, opening_trade, overlap, paired}
use Rattle.rules.specs.Volume.{matched_volume, of_order, volume, willing_at}
use Rattle.market.specs.Words.{limit_of, same_side, standing, trade}
use Rattle.sharing.specs.Sharing.{Lawful, Sharing}
use Rattle.rules.proofs.Tally.{sum_kept, sum_map, sum_same, sum_two, sum_none, all_both, all_of}
use Rattle.rules.proofs.Matching.{lot_of, rising_above, has_from_kept}
use Rattle.rules.proofs.Sound.{Lot, Opens, wills}
use Rattle.rules.proofs.Takes.{sum_by_priority, all_by_priority, sum_joined, all_joined}
use Rattle.rules.proofs.Fills.{fill_whole}

abbrev Interval : Type 0
Interval = ℕ × ℕ × ℕ

sum_swap : {X Y : Type 0} (g : X → Y → ℕ) (xs : List X) (ys : List Y) → sum_by (λ x. sum_by (λ y. g x y) ys) xs ≡ sum_by (λ y. sum_by (λ x. g x y) xs) ys
sum_swap g [] ys = sym (sum_none (λ y. 0) ys (all_of _ ys (λ y. refl)))
sum_swap g (x ∷ xs) ys =
    omega (
      arith,
      sum_by-cons (λ x. sum_by (λ y. g x y) ys) x xs,
      sum_swap g xs ys,
      sum_two (λ y. g x y) (λ y. sum_by (λ x. g x y) xs) (λ y. sum_by (λ x. g x y) (x ∷ xs)) ys (all_of _ ys (λ y. sym (sum_by-cons (λ x. g x y) x xs))),
    )

-- ---- intervals

intervals_sum : (φ : ℕ → ℕ → ℕ) (at : ℕ) (xs : List (ℕ × ℕ)) → sum_by (λ (b : Interval). φ b.0 (b.2 - b.1)) (intervals at xs) ≡ sum_by (λ (x : ℕ × ℕ). φ x.0 x.1) xs
intervals_sum φ at [] = refl
intervals_sum φ at (x ∷ xs) =
    let e : at + x.1 - at ≡ x.1 = omega arith in
    omega (arith, sum_by-cons (λ (b : Interval). φ b.0 (b.2 - b.1)) (x.0, at, at + x.1) (intervals (at + x.1) xs), sum_by-cons (λ (x : ℕ × ℕ). φ x.0 x.1) x xs, ap (φ x.0) e, intervals_sum φ (at + x.1) xs)

intervals_end : (at : ℕ) (xs : List (ℕ × ℕ)) → AllByRecursion (λ (b : Interval). (b.1 ≤ b.2) × (b.2 ≤ at + sum_by (λ (x : ℕ × ℕ). x.1) xs)) (intervals at xs)
intervals_end at [] = tt
intervals_end at (x ∷ xs) =
    let e = sum_by-cons (λ (x : ℕ × ℕ). x.1) x xs in
    ((omega arith, omega arith), All-weaker (λ (b : Interval). (b.1 ≤ b.2) × (b.2 ≤ at + x.1 + sum_by (λ (x : ℕ × ℕ). x.1) xs)) (λ (b : Interval). (b.1 ≤ b.2) × (b.2 ≤ at + sum_by (λ (x : ℕ × ℕ). x.1) (x ∷ xs))) (λ b l. (l.0, omega (arith, l.1))) (intervals (at + x.1) xs) (intervals_end (at + x.1) xs))

intervals_all : (Q : ℕ → Type 0) (at : ℕ) (xs : List (ℕ × ℕ)) → AllByRecursion (λ (x : ℕ × ℕ). Q x.0) xs → AllByRecursion (λ (b : Interval). Q b.0) (intervals at xs)
intervals_all Q at [] h = tt
intervals_all Q at (x ∷ xs) h = (h.0, intervals_all Q (at + x.1) xs h.1)

-- two intervals that touch are one
joint : (u v a b c : ℕ) → a ≤ b → b ≤ c → (min v b - max u a) + (min v c - max u b) ≡ min v c - max u a
joint u v a b c l m = ⊎_elim (λ (k : v < b). low (min v b) (min v c) (max u b) (max u a) (omega arith) (omega arith)) (λ (k : b ≤ v). ⊎_elim (λ (j : b < u). high (min v b) (min v c) (max u b) (max u a) (omega arith) (omega arith) (omega arith)) (λ (j : u ≤ b). mid (min v b) (min v c) (max u b) (max u a) (omega arith) (omega arith) (omega arith)) (cases_lt b u)) (cases_lt v b)
  where
    low : (x y w z : ℕ) → x ≡ y → y ≤ w → (x - z) + (y - w) ≡ y - z
    low x y w z e k = omega arith

    high : (x y w z : ℕ) → x ≤ w → w ≡ z → x ≤ y → (x - z) + (y - w) ≡ y - z
    high x y w z k e j = omega arith

    mid : (x y w z : ℕ) → x ≡ w → z ≤ x → x ≤ y → (x - z) + (y - w) ≡ y - z
    mid x y w z e k j = omega arith

-- what an interval from u to v has in common with all of them
cover : (u v at : ℕ) (xs : List (ℕ × ℕ)) → sum_by (λ (s : Interval). min v s.2 - max u s.1) (intervals at xs) ≡ min v (at + sum_by (λ (x : ℕ × ℕ). x.1) xs) - max u at
cover u v at [] = omega arith
cover u v at (x ∷ xs) =
    sum_by-cons (λ (s : Interval). min v s.2 - max u s.1) (x.0, at, at + x.1) (intervals (at + x.1) xs) ∙
    ap (λ n. (min v (at + x.1) - max u at) + n) (cover u v (at + x.1) xs) ∙
    step u v at x.1 (sum_by (λ (x : ℕ × ℕ). x.1) xs) ∙
    ap (λ n. min v (at + n) - max u at) (sym (sum_by-cons (λ (x : ℕ × ℕ). x.1) x xs))
  where
    step : (u v at x t : ℕ) → (min v (at + x) - max u at) + (min v (at + x + t) - max u (at + x)) ≡ min v (at + (x + t)) - max u at
    step u v at x t =
        let e : at + (x + t) ≡ at + x + t = omega arith in
        joint u v at (at + x) (at + x + t) (omega arith) (omega arith) ∙ ap (λ n. min v n - max u at) (sym e)

cover_all : (b : Interval) (xs : List (ℕ × ℕ)) (t : ℕ) → sum_by (λ (x : ℕ × ℕ). x.1) xs ≡ t → b.1 ≤ b.2 → b.2 ≤ t → sum_by (λ (s : Interval). overlap b s) (intervals 0 xs) ≡ b.2 - b.1
cover_all b xs t e l m = omega (arith, cover b.1 b.2 0 xs)

cover_back : (s : Interval) (xs : List (ℕ × ℕ)) (t : ℕ) → sum_by (λ (x : ℕ × ℕ). x.1) xs ≡ t → s.1 ≤ s.2 → s.2 ≤ t → sum_by (λ (b : Interval). overlap b s) (intervals 0 xs) ≡ s.2 - s.1
cover_back s xs t e l m =
    sum_same (λ (b : Interval). overlap b s) (λ (b : Interval). min s.2 b.2 - max s.1 b.1) (intervals 0 xs) (all_of _ (intervals 0 xs) (λ b. turn b.1 b.2 s.1 s.2)) ∙
    omega (arith, cover s.1 s.2 0 xs)
  where
    turn : (a b c d : ℕ) → min b d - max a c ≡ min d b - max c a
    turn a b c d = omega arith

-- ---- rows of two lists of intervals

module _ (p : ℕ) where
  abbrev meet : Interval → Interval → Row
  meet b s = trade Buy b.0 s.0 p (overlap b s)

  paired_sum : (ψ : Row → ℕ) (v : Interval → Interval → ℕ) (bs ss : List Interval) → ((b s : Interval) → ψ (meet b s) ≡ v b s) → ((b s : Interval) → overlap b s ≡ 0 → v b s ≡ 0) →
      sum_by ψ (paired p bs ss) ≡ sum_by (λ b. sum_by (λ s. v b s) ss) bs
  paired_sum ψ v bs ss e z =
      sum_joined ψ (λ b. flat_map (λ s. cond (ltb 0 (overlap b s)) (meet b s ∷ []) []) ss) bs ∙
      sum_same (λ b. sum_by ψ (flat_map (λ s. cond (ltb 0 (overlap b s)) (meet b s ∷ []) []) ss)) (λ b. sum_by (λ s. v b s) ss) bs (all_of _ bs (λ b.
      sum_joined ψ (λ s. cond (ltb 0 (overlap b s)) (meet b s ∷ []) []) ss ∙ sum_same (λ s. sum_by ψ (cond (ltb 0 (overlap b s)) (meet b s ∷ []) [])) (λ s. v b s) ss (all_of _ ss (λ s. go b s (ltb 0 (overlap b s)) refl))))
    where
      go : (b s : Interval) (t : Bool) → ltb 0 (overlap b s) ≡ t → sum_by ψ (cond t (meet b s ∷ []) []) ≡ v b s
      go b s true k = omega (arith, sum_by-cons ψ (meet b s) [], e b s)
      go b s false k = omega (arith, z b s (omega (arith, ltb-false 0 (overlap b s) k)))

  paired_all : (P : Row → Type 0) (bs ss : List Interval) → AllByRecursion (λ b. AllByRecursion (λ s. P (meet b s)) ss) bs → AllByRecursion P (paired p bs ss)
  paired_all P bs ss h =
      all_joined P (λ b. flat_map (λ s. cond (ltb 0 (overlap b s)) (meet b s ∷ []) []) ss) bs
      (All-weaker (λ b. AllByRecursion (λ s. P (meet b s)) ss) _ (λ b k. all_joined P (λ s. cond (ltb 0 (overlap b s)) (meet b s ∷ []) []) ss (All-weaker (λ s. P (meet b s)) _ (λ s x. go b s (ltb 0 (overlap b s)) x) ss k)) bs h)
    where
      go : (b s : Interval) (t : Bool) → P (meet b s) → AllByRecursion P (cond t (meet b s ∷ []) [])
      go b s true x = (x, tt)
      go b s false x = tt

-- orders with one number have one side
one_side : (low : ℕ) (os : List Order) → Rising (λ (o : Order). o.number) low os → AllByRecursion (λ (o : Order). AllByRecursion (λ (q : Order). o.number ≡ q.number → o.side ≡ q.side) os) os
one_side low [] r = tt
one_side low (o ∷ os) r =
    let up = rising_above (λ (q : Order). q.number) o.number o.number os (omega arith) r.1 in (
      ((λ e. refl), All-weaker (λ (q : Order). o.number < q.number) (λ (q : Order). o.number ≡ q.number → o.side ≡ q.side) (λ q l e. absurd (apart o.number q.number l e)) os up),
      all_both (λ (q : Order). o.number < q.number) (λ (q : Order). AllByRecursion (λ (x : Order). q.number ≡ x.number → q.side ≡ x.side) os) (λ (q : Order). AllByRecursion (λ (x : Order). q.number ≡ x.number → q.side ≡ x.side) (o ∷ os)) os
          (λ q l h. ((λ e. absurd (apart o.number q.number l (sym e))), h)) up (one_side o.number os r.1),
    )
  where
    apart : (m n : ℕ) → m < n → m ≡ n → ⊥
    apart m n l e = omega arith

module _ (rule : Sharing) (os : List Order) (p : ℕ) where
  -- an order that a piece stands for
  abbrev From : Side → ℕ → Type 0
  From d n = (o : Order) × Has os o × (o.number ≡ n) × (wills d p o ≡ true)

  pieces_from : (d : Side) → AllByRecursion (λ (b : Interval). From d b.0) (intervals 0 (filled rule os p d))
  pieces_from d = intervals_all (From d) 0 (filled rule os p d)
      (All-map (λ (x : ℕ × ℕ). From d x.0) (λ o. (o.number, opening_fill rule os p d o)) (by_priority (filter (wills d p) os))
      (all_by_priority (λ o. From d o.number) (filter (wills d p) os) (All-weaker (Has (filter (wills d p) os)) (λ o. From d o.number) (λ o h. let k = has_from_kept (wills d p) os o h in (o, k.0, refl, k.1)) (filter (wills d p) os) (all_has_itself (filter (wills d p) os)))))

  pub opening_rows_of : AllByRecursion (Opens os p) (opening_rows rule os p)
  opening_rows_of = paired_all p (Opens os p) (intervals 0 (filled rule os p Buy)) (intervals 0 (filled rule os p Sell))
      (All-weaker (λ (b : Interval). From Buy b.0) _ (λ b x. All-weaker (λ (s : Interval). From Sell s.0) _ (λ s y. (refl, refl, x, y)) (intervals 0 (filled rule os p Sell)) (pieces_from Sell)) (intervals 0 (filled rule os p Buy)) (pieces_from Buy))

  module _ (lawful : Lawful rule) (lot : Lot os) where
    matched_few : matched_volume of_order os p ≤ 1599840
    matched_few = let l = lot_of (wills Buy p) os lot in omega (arith, sum_by_le standing 9999 (filter (wills Buy p) os) l.small, l.short)

    side_whole : (d : Side) → matched_volume of_order os p ≤ volume of_order d os p → sum_by (λ (x : ℕ × ℕ). x.1) (filled rule os p d) ≡ matched_volume of_order os p
    side_whole d l =
        let a = sum_map (λ (x : ℕ × ℕ). x.1) (λ o. (o.number, opening_fill rule os p d o)) (by_priority (filter (wills d p) os)) in
        let b = sum_by_priority (opening_fill rule os p d) (filter (wills d p) os) in
        let c = fill_whole rule lawful (filter (wills d p) os) (matched_volume of_order os p) None 0 (lot_of (wills d p) os lot) matched_few (omega arith) in
        omega arith

    buys : sum_by (λ (x : ℕ × ℕ). x.1) (filled rule os p Buy) ≡ matched_volume of_order os p
    buys = side_whole Buy (omega arith)

    sells : sum_by (λ (x : ℕ × ℕ). x.1) (filled rule os p Sell) ≡ matched_volume of_order os p
    sells = side_whole Sell (omega arith)

    abbrev bs : List Interval
    bs = intervals 0 (filled rule os p Buy)

    abbrev ss : List Interval
    ss = intervals 0 (filled rule os p Sell)

    each_buyer : AllByRecursion (λ (b : Interval). sum_by (λ (s : Interval). overlap b s) ss ≡ b.2 - b.1) bs
    each_buyer = All-weaker (λ (b : Interval). (b.1 ≤ b.2) × (b.2 ≤ 0 + sum_by (λ (x : ℕ × ℕ). x.1) (filled rule os p Buy))) _ (λ b l. cover_all b (filled rule os p Sell) (matched_volume of_order os p) sells l.0 (omega (arith, l.1, buys))) bs (intervals_end 0 (filled rule os p Buy))

    each_seller : AllByRecursion (λ (s : Interval). sum_by (λ (b : Interval). overlap b s) bs ≡ s.2 - s.1) ss
    each_seller = All-weaker (λ (s : Interval). (s.1 ≤ s.2) × (s.2 ≤ 0 + sum_by (λ (x : ℕ × ℕ). x.1) (filled rule os p Sell))) _ (λ s l. cover_back s (filled rule os p Buy) (matched_volume of_order os p) buys l.0 (omega (arith, l.1, sells))) ss (intervals_end 0 (filled rule os p Sell))

    pub opening_contracts : contracts_in (opening_rows rule os p) ≡ matched_volume of_order os p
    opening_contracts =
        paired_sum p (λ r. r.contracts.count) overlap bs ss (λ b s. refl) (λ b s e. e) ∙
        sum_same (λ (b : Interval). sum_by (λ (s : Interval). overlap b s) ss) (λ (b : Interval). b.2 - b.1) bs each_buyer ∙
        intervals_sum (λ n q. q) 0 (filled rule os p Buy) ∙ buys

    -- contracts of the pieces with number n
    pieces_named : (d : Side) (n : ℕ) → sum_by (λ (b : Interval). cond (eqb b.0 n) (b.2 - b.1) 0) (intervals 0 (filled rule os p d)) ≡ sum_by (λ o. cond (wills d p o) (cond (eqb o.number n) (opening_fill rule os p d o) 0) 0) os
    pieces_named d n =
        intervals_sum (λ m q. cond (eqb m n) q 0) 0 (filled rule os p d) ∙
        sum_map (λ (x : ℕ × ℕ). cond (eqb x.0 n) x.1 0) (λ o. (o.number, opening_fill rule os p d o)) (by_priority (filter (wills d p) os)) ∙
        sum_by_priority (λ o. cond (eqb o.number n) (opening_fill rule os p d o) 0) (filter (wills d p) os) ∙
        sum_kept (λ o. cond (eqb o.number n) (opening_fill rule os p d o) 0) (wills d p) os

    never_both : AllByRecursion (λ (b : Interval). AllByRecursion (λ (s : Interval). b.0 ≡ s.0 → ⊥) ss) bs
    never_both = All-weaker (λ (b : Interval). From Buy b.0) _ (λ b x. All-weaker (λ (s : Interval). From Sell s.0) _ (λ s y e. clash b s x y e) ss (pieces_from Sell)) bs (pieces_from Buy)
      where
        bought : (d : Side) (o : Order) → wills d p o ≡ true → same_side o.side d ≡ true
        bought d o w = (and_parts (same_side o.side d) (willing_at d p (limit_of o.kind)) w).0

        split : (x y : Side) → x ≡ y → same_side x Buy ≡ true → same_side y Sell ≡ true → ⊥
        split Buy Buy e a b = both_ways false refl b
        split Buy Sell e a b = both_ways false refl (ap (λ z. same_side z Sell) e ∙ b)
        split Sell y e a b = both_ways false refl a

        clash : (b s : Interval) → From Buy b.0 → From Sell s.0 → b.0 ≡ s.0 → ⊥
        clash b s x y e =
            let u = all-has (λ (o : Order). AllByRecursion (λ (q : Order). o.number ≡ q.number → o.side ≡ q.side) os) os x.0 (one_side 0 os lot.rising) x.1 in
            let v = all-has (λ (q : Order). x.0.number ≡ q.number → x.0.side ≡ q.side) os y.0 u y.1 in
            split x.0.side y.0.side (v (x.2 ∙ e ∙ sym y.2)) (bought Buy x.0 x.3) (bought Sell y.0 y.3)

    pub opening_named : (n : ℕ) → named n (opening_rows rule os p) ≡ sum_by (opening_trade rule os p) (filter (λ o. eqb o.number n) os)
    opening_named n =
        let e₁ = sum_kept (λ r. r.contracts.count) (names n) (opening_rows rule os p) in
        let e₂ = paired_sum p (λ r. cond (names n r) r.contracts.count 0) (λ b s. cond (eqb b.0 n || eqb s.0 n) (overlap b s) 0) bs ss (λ b s. refl) (λ b s e. ap (λ m. cond (eqb b.0 n || eqb s.0 n) m 0) e ∙ nil (eqb b.0 n || eqb s.0 n)) in
        let e₃ = sum_two (λ (b : Interval). sum_by (λ (s : Interval). cond (eqb b.0 n) (overlap b s) 0) ss) (λ (b : Interval). sum_by (λ (s : Interval). cond (eqb s.0 n) (overlap b s) 0) ss) (λ (b : Interval). sum_by (λ (s : Interval). cond (eqb b.0 n || eqb s.0 n) (overlap b s) 0) ss) bs
        (All-weaker (λ (b : Interval). AllByRecursion (λ (s : Interval). b.0 ≡ s.0 → ⊥) ss) _ (λ b h. sum_two (λ (s : Interval). cond (eqb b.0 n) (overlap b s) 0) (λ (s : Interval). cond (eqb s.0 n) (overlap b s) 0) (λ (s : Interval). cond (eqb b.0 n || eqb s.0 n) (overlap b s) 0) ss
        (All-weaker (λ (s : Interval). b.0 ≡ s.0 → ⊥) _ (λ s k. either (eqb b.0 n) (eqb s.0 n) (overlap b s) (λ x y. k (eqb-true b.0 n x ∙ sym (eqb-true s.0 n y)))) ss h)) bs never_both) in
        let e₄ = sum_same (λ (b : Interval). sum_by (λ (s : Interval). cond (eqb b.0 n) (overlap b s) 0) ss) (λ (b : Interval). cond (eqb b.0 n) (b.2 - b.1) 0) bs
        (All-weaker (λ (b : Interval). sum_by (λ (s : Interval). overlap b s) ss ≡ b.2 - b.1) _ (λ b k. pull (eqb b.0 n) (λ (s : Interval). overlap b s) ss (b.2 - b.1) k) bs each_buyer) in
        let e₅ = sum_swap (λ (b s : Interval). cond (eqb s.0 n) (overlap b s) 0) bs ss in
        let e₆ = sum_same (λ (s : Interval). sum_by (λ (b : Interval). cond (eqb s.0 n) (overlap b s) 0) bs) (λ (s : Interval). cond (eqb s.0 n) (s.2 - s.1) 0) ss
        (All-weaker (λ (s : Interval). sum_by (λ (b : Interval). overlap b s) bs ≡ s.2 - s.1) _ (λ s k. pull (eqb s.0 n) (λ (b : Interval). overlap b s) bs (s.2 - s.1) k) ss each_seller) in
        let e₇ = pieces_named Buy n in
        let e₈ = pieces_named Sell n in
        let e₉ = sum_kept (opening_trade rule os p) (λ o. eqb o.number n) os in
        let e₁₀ = sum_two (λ o. cond (wills Buy p o) (cond (eqb o.number n) (opening_fill rule os p Buy o) 0) 0) (λ o. cond (wills Sell p o) (cond (eqb o.number n) (opening_fill rule os p Sell o) 0) 0) (λ o. cond (eqb o.number n) (opening_trade rule os p o) 0) os
        (all_of _ os (λ o. point o o.side refl)) in
        omega arith
      where
        nil : (b : Bool) → ◌≡◌ {A = ℕ} (cond b 0 0) 0
        nil true = refl
        nil false = refl

        either : (x y : Bool) (m : ℕ) → (x ≡ true → y ≡ true → ⊥) → cond x m 0 + cond y m 0 ≡ cond (x || y) m 0
        either true true m k = absurd (k refl refl)
        either true false m k = omega arith
        either false y m k = omega arith

        pull : {X : Type 0} (t : Bool) (φ : X → ℕ) (xs : List X) (m : ℕ) → sum_by φ xs ≡ m → sum_by (λ x. cond t (φ x) 0) xs ≡ cond t m 0
        pull true φ xs m e = e
        pull false φ xs m e = sum_none (λ x. 0) xs (all_of _ xs (λ x. refl))

        turn : (w e : Bool) (m : ℕ) → cond w (cond e m 0) 0 ≡ cond e (cond w m 0) 0
        turn true true m = refl
        turn true false m = refl
        turn false true m = refl
        turn false false m = refl

        point : (o : Order) (d : Side) → o.side ≡ d →
            cond (wills Buy p o) (cond (eqb o.number n) (opening_fill rule os p Buy o) 0) 0 + cond (wills Sell p o) (cond (eqb o.number n) (opening_fill rule os p Sell o) 0) 0 ≡ cond (eqb o.number n) (opening_trade rule os p o) 0
        point o Buy e =
            let a : wills Sell p o ≡ false = ap (λ x. same_side x Sell && willing_at Sell p (limit_of o.kind)) e in
            let b : cond (wills Sell p o) (cond (eqb o.number n) (opening_fill rule os p Sell o) 0) 0 ≡ 0 = ap (λ t. cond t (cond (eqb o.number n) (opening_fill rule os p Sell o) 0) 0) a in
            let c : cond (eqb o.number n) (opening_trade rule os p o) 0 ≡ cond (eqb o.number n) (cond (wills Buy p o) (opening_fill rule os p Buy o) 0) 0 = ap (λ x. cond (eqb o.number n) (cond (wills x p o) (opening_fill rule os p x o) 0) 0) e in
            omega (arith, turn (wills Buy p o) (eqb o.number n) (opening_fill rule os p Buy o))
        point o Sell e =
            let a : wills Buy p o ≡ false = ap (λ x. same_side x Buy && willing_at Buy p (limit_of o.kind)) e in
            let b : cond (wills Buy p o) (cond (eqb o.number n) (opening_fill rule os p Buy o) 0) 0 ≡ 0 = ap (λ t. cond t (cond (eqb o.number n) (opening_fill rule os p Buy o) 0) 0) a in
            let c : cond (eqb o.number n) (opening_trade rule os p o) 0 ≡ cond (eqb o.number n) (cond (wills Sell p o) (opening_fill rule os p Sell o) 0) 0 = ap (λ x. cond (eqb o.number n) (cond (wills x p o) (opening_fill rule os p x o) 0) 0) e in
            omega (arith, turn (wills Sell p o) (eqb o.number n) (opening_fill rule os p Sell o))
