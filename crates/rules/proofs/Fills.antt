-- What a lawful rule makes of the fills: none past what stands, as much as there is, and no better total for as many contracts.
use Rattle.std.proofs.Common.{◌≡◌, ℕ, zero, suc, ◌+◌, ◌-◌, ◌*◌, ◌<◌, ◌≤◌, min, Bool, true, false, cond, eqb, ltb, List, [], ◌∷◌, map, length, get_or, Some, None, sum_by, sum, filter, Option, sym, refl, ap, ◌∙◌, subst, ⊎_elim, suc-mul, add-mul, mul-add, add-one, arith}
use Rattle.std.specs.List.{ContainsAt as Has, AllByRecursion}
use Rattle.std.proofs.lemmas.List.{length-map}
use Rattle.std.proofs.lemmas.List.Sums.{sum_by-cons}
use Rattle.std.proofs.ByRecursion.{All-weaker, all_has_itself, all_kept_by, All-map, all-has, kept_by_passes}
use Rattle.std.proofs.lemmas.Bool.{ltb-true, ltb-false, leb-true, lt-ltb, le-ltb, le-leb, ne_eqb, eq-eqb, eqb-true, eqb-false, both_ways, cond-true, cond-false, cases_lt}
use Rattle.sharing.proofs.Bounds.{in_bounds_from}
use Rattle.market.specs.declared.order.Order.{Order}
use Rattle.market.specs.declared.order.OrderKind.{OrderKind}
use Rattle.market.specs.declared.order.OrderKind.TheVariants.{Limit, MarketOnOpening}
use Rattle.market.specs.declared.order.Side.{Side}
use Rattle.market.specs.declared.order.Side.TheVariants.{Buy, Sell}
use Rattle.rules.specs.Allocation.{fill, level, mark_among, next_place, place_of, priority, priority_at, share_at, volume_ahead}
use Rattle.rules.specs.Law.{Rising, AtLeastAsGood}
use Rattle.market.specs.Words.{other, price_of, standing}
use Rattle.sharing.specs.Sharing.{Lawful, Shares, Sharing}
use Rattle.rules.proofs.Tally.{sum_kept, sum_map, sum_same, sum_two, sum_none, sum_under, all_both, all_of}
use Rattle.rules.proofs.Matching.{lot_of, has_to_kept, kept_all, rising_above, all_to_kept}
use Rattle.rules.proofs.Sound.{Lot, Against, Fine, reached}

-- ---- shares by place

later : (y : ℕ) (ys : List ℕ) (q : Option ℕ) → share_at (y ∷ ys) (next_place q) ≡ share_at ys q
later y ys (Some k) = ap (λ m. get_or (y ∷ ys) m 0) (add-one k)
later y ys None = refl

place_here : (o : Order) (os : List Order) → place_of o.number (o ∷ os) ≡ Some 0
place_here o os = cond-true (eqb o.number o.number) (Some 0) (next_place (place_of o.number os)) (eq-eqb o.number o.number refl)

place_past : (o p : Order) (os : List Order) → o.number < p.number → place_of p.number (o ∷ os) ≡ next_place (place_of p.number os)
place_past o p os l = cond-false (eqb o.number p.number) (Some 0) (next_place (place_of p.number os)) (ne_eqb o.number p.number (λ e. omega arith))

past_share : (o p : Order) (os : List Order) (y : ℕ) (ys : List ℕ) → o.number < p.number → share_at (y ∷ ys) (place_of p.number (o ∷ os)) ≡ share_at ys (place_of p.number os)
past_share o p os y ys l = ap (share_at (y ∷ ys)) (place_past o p os l) ∙ later y ys (place_of p.number os)

shares_sum : (low : ℕ) (os : List Order) (ys : List ℕ) → Rising (λ (o : Order). o.number) low os → length ys ≡ length os → sum_by (λ o. share_at ys (place_of o.number os)) os ≡ sum ys
shares_sum low [] [] r e = refl
shares_sum low [] (y ∷ ys) r e = absurd (go (length ys) e)
  where
    go : (n : ℕ) → suc n ≡ 0 → ⊥
    go n e = omega arith
shares_sum low (o ∷ os) [] r e = absurd (go (length os) e)
  where
    go : (n : ℕ) → 0 ≡ suc n → ⊥
    go n e = omega arith
shares_sum low (o ∷ os) (y ∷ ys) r e =
    let up = rising_above (λ (p : Order). p.number) o.number o.number os (omega arith) r.1 in
    let a = sum_by-cons (λ p. share_at (y ∷ ys) (place_of p.number (o ∷ os))) o os in
    let b : share_at (y ∷ ys) (place_of o.number (o ∷ os)) ≡ y = ap (share_at (y ∷ ys)) (place_here o os) in
    let c = sum_same (λ p. share_at (y ∷ ys) (place_of p.number (o ∷ os))) (λ p. share_at ys (place_of p.number os)) os (All-weaker (λ (p : Order). o.number < p.number) _ (λ p l. past_share o p os y ys l) os up) in
    let d = shares_sum o.number os ys r.1 (omega arith) in
    omega (arith, sum_by-cons (λ x. x) y ys)

shares_within : (low : ℕ) (os : List Order) (ys : List ℕ) → Rising (λ (o : Order). o.number) low os → ((k : ℕ) → get_or ys k 0 ≤ get_or (map standing os) k 0) → AllByRecursion (λ o. share_at ys (place_of o.number os) ≤ standing o) os
shares_within low [] ys r h = tt
shares_within low (o ∷ os) [] r h = (subst (λ q. share_at [] q ≤ standing o) (sym (place_here o os)) (omega arith), all_of _ os (λ p. none (place_of p.number (o ∷ os)) (standing p)))
  where
    none : (q : Option ℕ) (n : ℕ) → share_at [] q ≤ n
    none (Some k) n = omega arith
    none None n = omega arith
shares_within low (o ∷ os) (y ∷ ys) r h =
    let up = rising_above (λ (p : Order). p.number) o.number o.number os (omega arith) r.1 in (
      subst (λ q. share_at (y ∷ ys) q ≤ standing o) (sym (place_here o os)) (h 0),
      all_both (λ (p : Order). o.number < p.number) (λ p. share_at ys (place_of p.number os) ≤ standing p) _ os (λ p l k. subst (λ n. n ≤ standing p) (sym (past_share o p os y ys l)) k) up
          (shares_within o.number os ys r.1 (λ k. h (suc k))),
    )

-- ---- sums below a priority

abbrev under : {X : Type 0} → (X → ℕ) → (X → ℕ) → ℕ → List X → ℕ
under φ key r xs = sum_by φ (filter (λ x. ltb (key x) r) xs)

split_at : (x r m : ℕ) → cond (ltb x r) m 0 + cond (eqb x r) m 0 ≡ cond (ltb x (suc r)) m 0
split_at x r m = go (ltb x r) (eqb x r) (ltb x (suc r)) refl refl refl
  where
    go : (a b c : Bool) → ltb x r ≡ a → eqb x r ≡ b → ltb x (suc r) ≡ c → cond a m 0 + cond b m 0 ≡ cond c m 0
    go true true c p q w = absurd (both (ltb-true x r p) (eqb-true x r q))
      where
        both : x < r → x ≡ r → ⊥
        both l e = omega arith
    go true false true p q w = omega arith
    go true false false p q w = absurd (both (ltb-true x r p) (ltb-false x (suc r) w))
      where
        both : x < r → suc r ≤ x → ⊥
        both l e = omega arith
    go false true true p q w = omega arith
    go false true false p q w = absurd (both (eqb-true x r q) (ltb-false x (suc r) w))
      where
        both : x ≡ r → suc r ≤ x → ⊥
        both l e = omega arith
    go false false true p q w = absurd (eqb-false x r q (both (ltb-false x r p) (ltb-true x (suc r) w)))
      where
        both : r ≤ x → x < suc r → x ≡ r
        both l e = omega arith
    go false false false p q w = refl

module _ {X : Type 0} where
  under_zero : (φ key : X → ℕ) (xs : List X) → under φ key 0 xs ≡ 0
  under_zero φ key xs = sum_kept φ (λ x. ltb (key x) 0) xs ∙ sum_none (λ x. cond (ltb (key x) 0) (φ x) 0) xs (all_of _ xs (λ x. cond-false (ltb (key x) 0) (φ x) 0 (le-ltb (key x) 0 (omega arith))))

  under_suc : (φ key : X → ℕ) (r : ℕ) (xs : List X) → under φ key r xs + sum_by φ (filter (λ x. eqb (key x) r) xs) ≡ under φ key (suc r) xs
  under_suc φ key r xs =
      omega (
        arith,
        sum_kept φ (λ x. ltb (key x) r) xs,
        sum_kept φ (λ x. eqb (key x) r) xs,
        sum_kept φ (λ x. ltb (key x) (suc r)) xs,
        sum_two (λ x. cond (ltb (key x) r) (φ x) 0) (λ x. cond (eqb (key x) r) (φ x) 0) (λ x. cond (ltb (key x) (suc r)) (φ x) 0) xs (all_of _ xs (λ x. split_at (key x) r (φ x))),
      )

  all_under_sum : (f : X → ℕ) (xs : List X) → AllByRecursion (λ x. f x ≤ sum_by f xs) xs
  all_under_sum f [] = tt
  all_under_sum f (x ∷ xs) = let e = sum_by-cons f x xs in (omega arith, All-weaker (λ y. f y ≤ sum_by f xs) (λ y. f y ≤ sum_by f (x ∷ xs)) (λ y l. omega arith) xs (all_under_sum f xs))

  under_all : (φ key : X → ℕ) (r : ℕ) (xs : List X) → AllByRecursion (λ x. key x < r) xs → under φ key r xs ≡ sum_by φ xs
  under_all φ key r xs h = ap (sum_by φ) (kept_all (λ x. ltb (key x) r) xs (All-weaker (λ x. key x < r) _ (λ x l. lt-ltb (key x) r l) xs h))

  -- ---- weighted sums, by how much lies below each priority

  weight : (key φ : X → ℕ) → ℕ → List X → ℕ
  weight key φ r xs = sum_by (λ x. min (key x) r * φ x) xs

  weight_suc : (φ key : X → ℕ) (r : ℕ) (xs : List X) → weight key φ (suc r) xs + under φ key (suc r) xs ≡ weight key φ r xs + sum_by φ xs
  unfolding weight
  weight_suc φ key r xs =
      omega (
        arith,
        sum_kept φ (λ x. ltb (key x) (suc r)) xs,
        sum_two (λ x. min (key x) (suc r) * φ x) (λ x. cond (ltb (key x) (suc r)) (φ x) 0) (λ x. min (key x) r * φ x + φ x) xs (all_of _ xs (λ x. point (key x) (φ x))),
        sum_two (λ x. min (key x) r * φ x) φ (λ x. min (key x) r * φ x + φ x) xs (all_of _ xs (λ x. refl)),
      )
    where
      go : (b : Bool) (x m : ℕ) → ltb x (suc r) ≡ b → min x (suc r) * m + cond b m 0 ≡ min x r * m + m
      go true x m e =
          let l = ltb-true x (suc r) e in
          let a : min x (suc r) ≡ min x r = omega arith in
          ap (λ k. k * m + m) a
      go false x m e =
          let l = ltb-false x (suc r) e in
          let a : min x (suc r) ≡ suc r = omega arith in
          let b : min x r ≡ r = omega arith in
          let c : min x (suc r) * m ≡ suc r * m = ap (λ k. k * m) a in
          let d : min x r * m ≡ r * m = ap (λ k. k * m) b in
          omega (arith, suc-mul r m)

      point : (x m : ℕ) → min x (suc r) * m + cond (ltb x (suc r)) m 0 ≡ min x r * m + m
      point x m = go (ltb x (suc r)) x m refl

  weight_zero : (φ key : X → ℕ) (xs : List X) → weight key φ 0 xs ≡ 0
  unfolding weight
  weight_zero φ key xs = sum_none (λ x. min (key x) 0 * φ x) xs (all_of _ xs (λ x. go (key x) (φ x)))
    where
      go : (x m : ℕ) → min x 0 * m ≡ 0
      go x m = let a : min x 0 ≡ 0 = omega arith in ap (λ k. k * m) a ∙ omega arith

  weight_all : (φ key : X → ℕ) (r : ℕ) (xs : List X) → AllByRecursion (λ x. key x ≤ r) xs → weight key φ r xs ≡ sum_by (λ x. key x * φ x) xs
  unfolding weight
  weight_all φ key r xs h = sum_same (λ x. min (key x) r * φ x) (λ x. key x * φ x) xs (All-weaker (λ x. key x ≤ r) _ (λ x l. go (key x) (φ x) l) xs h)
    where
      go : (x m : ℕ) → x ≤ r → min x r * m ≡ x * m
      go x m l = let a : min x r ≡ x = omega arith in ap (λ k. k * m) a

-- as many in all, and at least as many below each priority: no heavier
lighter : {X Y : Type 0} (φ key : X → ℕ) (xs : List X) (ψ lock : Y → ℕ) (ys : List Y) → sum_by φ xs ≡ sum_by ψ ys → ((r : ℕ) → under ψ lock r ys ≤ under φ key r xs) → (r : ℕ) → weight key φ r xs ≤ weight lock ψ r ys
lighter φ key xs ψ lock ys e h zero = omega (arith, weight_zero φ key xs)
lighter φ key xs ψ lock ys e h (suc r) = omega (arith, weight_suc φ key r xs, weight_suc ψ lock r ys, h (suc r), lighter φ key xs ψ lock ys e h r)

small_places : (cs : List ℕ) → AllByRecursion (λ c. c ≤ 9999) cs → (k : ℕ) → get_or cs k 0 ≤ 9999
small_places [] h k = omega arith
small_places (c ∷ cs) h zero = h.0
small_places (c ∷ cs) h (suc k) = small_places cs h.1 k

module _ (rule : Sharing) (lawful : Lawful rule) (os : List Order) (amount : ℕ) (mark : Option ℕ) (g : ℕ) (lot : Lot os) (amount-few : amount ≤ 1599840) (g-few : g ≤ 9999) where
  abbrev shares_at : ℕ → List ℕ
  shares_at r = rule (map standing (level r os)) (amount - volume_ahead r os) (mark_among mark (level r os)) g

  law : (r : ℕ) → Shares (map standing (level r os)) (amount - volume_ahead r os) (shares_at r)
  law r =
      let l = lot_of (λ o. eqb (priority o) r) os lot in
      lawful (map standing (level r os)) (amount - volume_ahead r os) (mark_among mark (level r os)) g
      (in_bounds_from (map standing (level r os)) (amount - volume_ahead r os) g (record {
        few = omega (arith, length-map (level r os) standing, l.short);
        small = small_places (map standing (level r os)) (All-map (λ c. c ≤ 9999) standing (level r os) l.small);
        amounts = omega arith;
        guarantees = g-few;
      }))

  in_level : (r : ℕ) → AllByRecursion (λ o. fill rule os amount mark g o ≡ share_at (shares_at r) (place_of o.number (level r os))) (level r os)
  in_level r = All-weaker (λ o. eqb (priority o) r ≡ true) _ (λ o e. ap (λ k. share_at (shares_at k) (place_of o.number (level k os))) (eqb-true (priority o) r e)) (level r os) (kept_by_passes (λ o. eqb (priority o) r) os)

  level_sum : (r : ℕ) → sum_by (fill rule os amount mark g) (level r os) ≡ min (amount - volume_ahead r os) (sum_by standing (level r os))
  level_sum r =
      let l = lot_of (λ o. eqb (priority o) r) os lot in
      let k = law r in
      let a = sum_same (fill rule os amount mark g) (λ o. share_at (shares_at r) (place_of o.number (level r os))) (level r os) (in_level r) in
      let b = shares_sum 0 (level r os) (shares_at r) l.rising (k.each ∙ length-map (level r os) standing) in
      let c = sum_map (λ x. x) standing (level r os) in
      a ∙ b ∙ k.all ∙ ap (min (amount - volume_ahead r os)) c

  pub filled_under : (r : ℕ) → under (fill rule os amount mark g) priority r os ≡ min amount (volume_ahead r os)
  filled_under zero = omega (arith, under_zero (fill rule os amount mark g) priority os, under_zero standing priority os)
  filled_under (suc r) = omega (arith, under_suc (fill rule os amount mark g) priority r os, under_suc standing priority r os, level_sum r, filled_under r)

  pub fill_whole : sum_by (fill rule os amount mark g) os ≡ min amount (sum_by standing os)
  fill_whole =
      let top : ℕ = suc (sum_by priority os) in
      let up : AllByRecursion (λ o. priority o < top) os = All-weaker (λ o. priority o ≤ sum_by priority os) (λ o. priority o < top) (λ o l. omega arith) os (all_under_sum priority os) in
      omega (arith, filled_under top, under_all (fill rule os amount mark g) priority top os up, under_all standing priority top os up)

  pub fill_within : AllByRecursion (λ o. fill rule os amount mark g o ≤ standing o) os
  fill_within = All-weaker (Has os) _ (λ o h. one o h) os (all_has_itself os)
    where
      one : (o : Order) → Has os o → fill rule os amount mark g o ≤ standing o
      one o h =
          let r : ℕ = priority o in
          let l = lot_of (λ o. eqb (priority o) r) os lot in
          all-has (λ p. share_at (shares_at r) (place_of p.number (level r os)) ≤ standing p) (level r os) o (shares_within 0 (level r os) (shares_at r) l.rising (law r).within) (has_to_kept (λ p. eqb (priority p) r) os o h (eq-eqb r r refl))

-- ---- the best total

sum_scale : {X : Type 0} (c : ℕ) (φ : X → ℕ) (xs : List X) → sum_by (λ x. c * φ x) xs ≡ c * sum_by φ xs
sum_scale c φ [] = omega arith
sum_scale c φ (x ∷ xs) = sum_by-cons (λ x. c * φ x) x xs ∙ ap (λ n. c * φ x + n) (sum_scale c φ xs) ∙ sym (mul-add c (φ x) (sum_by φ xs)) ∙ ap (λ n. c * n) (sym (sum_by-cons φ x xs))

sum_four : {X : Type 0} (a b c d : X → ℕ) (xs : List X) → AllByRecursion (λ x. a x + b x ≡ c x + d x) xs → sum_by a xs + sum_by b xs ≡ sum_by c xs + sum_by d xs
sum_four a b c d xs h = omega (arith, sum_two a b (λ x. c x + d x) xs h, sum_two c d (λ x. c x + d x) xs (all_of _ xs (λ x. refl)))

priority_selling : (d : Side) (k : OrderKind) → d ≡ Sell → Fine true k → priority_at d k ≡ price_of k
priority_selling d (Limit p) e f = ap (λ x. priority_at x (Limit p)) e
priority_selling d MarketOnOpening e f = absurd f

priority_buying : (d : Side) (k : OrderKind) → d ≡ Buy → Fine true k → priority_at d k + price_of k ≡ 100000
priority_buying d (Limit p) e f = let a : priority_at d (Limit p) ≡ 100000 - p.value = ap (λ x. priority_at x (Limit p)) e in omega arith
priority_buying d MarketOnOpening e f = absurd f

-- within a bound means up to a priority
edge : Side → ℕ → ℕ
edge Buy b = b
edge Sell b = 100000 - b

module _ (s : Side) (b : ℕ) where
  inside : (o : Order) → Against s o → priority o ≤ edge s b → reached s b o ≡ true
  unfolding edge
  inside = go s
    where
      go : (s : Side) (o : Order) → Against s o → priority o ≤ edge s b → reached s b o ≡ true
      go Buy o a l = le-leb (price_of o.kind) b (omega (arith, priority_selling o.side o.kind a.0 a.1))
      go Sell o a l = le-leb b (price_of o.kind) (omega (arith, priority_buying o.side o.kind a.0 a.1, priced o.kind a.1))
        where
          priced : (k : OrderKind) → Fine true k → price_of k ≤ 99999
          priced (Limit l) f = f
          priced MarketOnOpening f = omega arith

  outside : (o : Order) → Against s o → reached s b o ≡ true → priority o ≤ edge s b
  unfolding edge
  outside = go s
    where
      go : (s : Side) (o : Order) → Against s o → reached s b o ≡ true → priority o ≤ edge s b
      go Buy o a e = omega (arith, priority_selling o.side o.kind a.0 a.1, leb-true (price_of o.kind) b e)
      go Sell o a e = omega (arith, priority_buying o.side o.kind a.0 a.1, leb-true b (price_of o.kind) e)

module _ (rule : Sharing) (lawful : Lawful rule) (s : Side) (b : ℕ) (os : List Order) (amount : ℕ) (mark : Option ℕ) (g : ℕ) (lot : Lot os) (sides : AllByRecursion (Against s) os)
    (amount-few : amount ≤ 1599840) (g-few : g ≤ 9999) (take : ℕ → ℕ) (small : AllByRecursion (λ o. take o.number ≤ standing o) os) where
  abbrev inner : List Order
  inner = filter (reached s b) os

  abbrev f : Order → ℕ
  f = fill rule inner amount mark g

  abbrev t : Order → ℕ
  t o = take o.number

  lot_inner : Lot inner
  lot_inner = lot_of (reached s b) os lot

  module _ (sums : sum_by t os ≡ sum_by f inner) where
    total_few : sum_by t os ≤ amount
    total_few = omega (arith, fill_whole rule lawful inner amount mark g lot_inner amount-few g-few)

    dominated : (r : ℕ) → under t priority r os ≤ under f priority r inner
    dominated r = ⊎_elim near far (cases_lt r (suc (suc (edge s b))))
      where
        all_of_t : under t priority r os ≤ sum_by t os
        all_of_t = omega (arith, sum_kept t (λ o. ltb (priority o) r) os, sum_under (λ o. cond (ltb (priority o) r) (t o) 0) t os (all_of _ os (λ o. less (ltb (priority o) r) (t o))))
          where
            less : (b : Bool) (n : ℕ) → cond b n 0 ≤ n
            less true n = omega arith
            less false n = omega arith

        near : r < suc (suc (edge s b)) → under t priority r os ≤ under f priority r inner
        near l =
            omega (
              arith,
              all_of_t,
              total_few,
              filled_under rule lawful inner amount mark g lot_inner amount-few g-few r,
              sum_kept t (λ o. ltb (priority o) r) os,
              sum_kept standing (λ o. ltb (priority o) r) inner,
              sum_kept (λ o. cond (ltb (priority o) r) (standing o) 0) (reached s b) os,
              sum_under (λ o. cond (ltb (priority o) r) (t o) 0) (λ o. cond (reached s b o) (cond (ltb (priority o) r) (standing o) 0) 0) os
                  (all_both (Against s) (λ o. t o ≤ standing o) _ os (λ o a k. by (ltb (priority o) r) (reached s b o) (t o) (standing o) k (λ e. inside s b o a (below o e))) sides small),
            )
          where
            below : (o : Order) → ltb (priority o) r ≡ true → priority o ≤ edge s b
            below o e = omega (arith, ltb-true (priority o) r e)

            by : (x y : Bool) (m n : ℕ) → m ≤ n → (x ≡ true → y ≡ true) → cond x m 0 ≤ cond y (cond x n 0) 0
            by true true m n l k = l
            by true false m n l k = absurd (both_ways false refl (k refl))
            by false y m n l k = omega arith

        far : suc (suc (edge s b)) ≤ r → under t priority r os ≤ under f priority r inner
        far l =
            let all : AllByRecursion (λ o. priority o < r) inner = all_to_kept (reached s b) (λ o. priority o < r) os (All-weaker (Against s) _ (λ o a e. past o (outside s b o a e)) os sides) in
            omega (arith, all_of_t, sums, under_all f priority r inner all)
          where
            past : (o : Order) → priority o ≤ edge s b → priority o < r
            past o k = omega arith

    prioritised : sum_by (λ o. priority o * f o) inner ≤ sum_by (λ o. priority o * t o) os
    prioritised =
        let up = all_under_sum priority os in
        omega (
          arith,
          lighter f priority inner t priority os (sym sums) dominated (sum_by priority os),
          weight_all f priority (sum_by priority os) inner (all_kept_by (reached s b) (λ o. priority o ≤ sum_by priority os) os up),
          weight_all t priority (sum_by priority os) os up,
        )

    priced_buying : s ≡ Buy → (xs : List Order) (φ : Order → ℕ) → AllByRecursion (Against s) xs → sum_by (λ o. priority o * φ o) xs ≡ sum_by (λ o. price_of o.kind * φ o) xs
    priced_buying e xs φ h = sum_same (λ o. priority o * φ o) (λ o. price_of o.kind * φ o) xs (All-weaker (Against s) _ (λ o a. ap (λ n. n * φ o) (priority_selling o.side o.kind (a.0 ∙ ap other e) a.1)) xs h)

    priced_selling : s ≡ Sell → (xs : List Order) (φ : Order → ℕ) → AllByRecursion (Against s) xs → sum_by (λ o. priority o * φ o) xs + sum_by (λ o. price_of o.kind * φ o) xs ≡ 100000 * sum_by φ xs
    priced_selling e xs φ h =
        sum_two (λ o. priority o * φ o) (λ o. price_of o.kind * φ o) (λ o. 100000 * φ o) xs
        (All-weaker (Against s) _ (λ o a. sym (add-mul (priority o) (price_of o.kind) (φ o)) ∙ ap (λ n. n * φ o) (priority_buying o.side o.kind (a.0 ∙ ap other e) a.1)) xs h) ∙
        sum_scale 100000 φ xs

    pub fill_best : AtLeastAsGood s (sum_by (λ o. price_of o.kind * f o) inner) (sum_by (λ o. price_of o.kind * t o) os)
    fill_best = go s refl
      where
        in_sides : AllByRecursion (Against s) inner
        in_sides = all_kept_by (reached s b) (Against s) os sides

        go : (d : Side) → s ≡ d → AtLeastAsGood d (sum_by (λ o. price_of o.kind * f o) inner) (sum_by (λ o. price_of o.kind * t o) os)
        go Buy e = omega (arith, prioritised, priced_buying e inner f in_sides, priced_buying e os t sides)
        go Sell e = omega (arith, prioritised, sums, priced_selling e inner f in_sides, priced_selling e os t sides)
