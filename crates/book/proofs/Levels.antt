-- One level of a sorted list of orders, and the shares of each level in turn.
use Rattle.std.proofs.Common.{◌≡◌, ℕ, suc, ◌+◌, ◌-◌, ◌<◌, ◌≤◌, true, false, eqb, ltb, List, [], ◌∷◌, ◌++◌, map, length, get_or, take, drop, Some, None, sum_by, filter, Option, sym, refl, ap, ◌∙◌, subst, ⊎_elim, add-one, arith}
use Rattle.std.specs.List.{AllByRecursion}
use Rattle.std.proofs.lemmas.List.Elements.{filter-append}
use Rattle.std.proofs.ByRecursion.{All-weaker, All-get_or, All-from_get_or}
use Rattle.std.proofs.lemmas.List.{append-nil, length-append, map-append, drop-drop, get_or-take, get_or-drop, length-drop, length-take-le, take-append-drop, take-take}
use Rattle.std.proofs.lemmas.Slice.{between_is, take-put_mid}
use Rattle.std.proofs.lemmas.List.Sums.{sum_by-append}
use borrow.Rule.Slice.PartMut.{put_mid}
use Rattle.market.specs.declared.units.Contracts.{Contracts}
use Rattle.sharing.specs.Asked.{counts}
use Rattle.sharing.proofs.Counts.{length_counts}
use Rattle.std.proofs.lemmas.Bool.{cases_lt, eq-eqb, ne_eqb, lt-ltb, le-ltb, cond-true, cond-false}
use Rattle.market.specs.Words.{standing}
use Rattle.market.specs.declared.order.Order.{Order}
use Rattle.rules.specs.Allocation.{priority, level, volume_ahead, place_of, next_place, share_at, mark_among, fill}
use Rattle.rules.specs.Law.{Rising}
use Rattle.rules.proofs.Matching.{kept_all, kept_none, rising_above}
use Rattle.sharing.specs.Sharing.{Sharing}
use Rattle.book.specs.Places.{no_order, Sorted}

-- what a level is: it begins at `from`, and all before it come earlier; it ends at `to`
pub record Level (ys : List Order) (from to : ℕ) : Type 0 where
  pub some : from < to
  pub inside : to ≤ length ys
  pub before : AllByRecursion (λ o. priority o < priority (get_or ys from no_order)) (take from ys)
  pub same : (k : ℕ) → from ≤ k → k < to → priority (get_or ys k no_order) ≡ priority (get_or ys from no_order)
  pub apart : to < length ys → priority (get_or ys to no_order) ≡ priority (get_or ys from no_order) → ⊥

module _ (ys : List Order) (from to : ℕ) (s : Sorted ys) (l : Level ys from to) where
  abbrev pub r : ℕ
  r = priority (get_or ys from no_order)

  abbrev pub part : List Order
  part = take (to - from) (drop from ys)

  pub part_length : length part ≡ to - from
  part_length = length-take-le (to - from) (drop from ys) (omega (arith, length-drop from ys, l.inside))

  pieces : ys ≡ take from ys ++ (part ++ drop to ys)
  pieces =
      let e : from + (to - from) ≡ to = omega (arith, l.some) in
      sym (take-append-drop from ys)
      ∙ ap (λ zs. take from ys ++ zs) (sym (take-append-drop (to - from) (drop from ys)) ∙ ap (λ zs. part ++ zs) (drop-drop (to - from) from ys ∙ ap (λ k. drop k ys) e))

  pub part_same : AllByRecursion (λ o. priority o ≡ r) part
  part_same = All-from_get_or (λ o. priority o ≡ r) part no_order
      (λ i lt. ap priority (get_or-take (to - from) (drop from ys) i no_order (omega (arith, part_length)) ∙ get_or-drop from ys i no_order) ∙ l.same (from + i) (omega arith) (omega (arith, part_length)))

  after : AllByRecursion (λ o. r < priority o) (drop to ys)
  after = All-from_get_or (λ o. r < priority o) (drop to ys) no_order
      (λ i lt. subst (λ o. r < priority o) (sym (get_or-drop to ys i no_order))
      (later i (omega (arith, length-drop to ys))))
    where
      later : (i : ℕ) → to + i < length ys → r < priority (get_or ys (to + i) no_order)
      later i lt =
          let a = s from to no_order (omega (arith, l.some)) (omega arith) in
          let b = s to (to + i) no_order (omega arith) lt in
          omega (arith, a, b, l.apart (omega arith))

  pub level_is : level r ys ≡ part
  level_is =
      ap (level r) pieces
      ∙ filter-append (λ o. eqb (priority o) r) (take from ys) (part ++ drop to ys)
      ∙ (λ i. kept_none (λ o. eqb (priority o) r) (take from ys) (All-weaker (λ o. priority o < r) (λ o. eqb (priority o) r ≡ false) (λ o k. ne_eqb (priority o) r (λ e. omega arith)) (take from ys) l.before) i
      ++ filter-append (λ o. eqb (priority o) r) part (drop to ys) i)
      ∙ (λ i. kept_all (λ o. eqb (priority o) r) part (All-weaker (λ o. priority o ≡ r) (λ o. eqb (priority o) r ≡ true) (λ o k. eq-eqb (priority o) r k) part part_same) i
      ++ kept_none (λ o. eqb (priority o) r) (drop to ys) (All-weaker (λ o. r < priority o) (λ o. eqb (priority o) r ≡ false) (λ o k. ne_eqb (priority o) r (λ e. omega arith)) (drop to ys) after) i)
      ∙ append-nil part

  pub ahead_is : volume_ahead r ys ≡ sum_by standing (take from ys)
  ahead_is =
      ap (sum_by standing) (
      ap (filter (λ o. ltb (priority o) r)) pieces
      ∙ filter-append (λ o. ltb (priority o) r) (take from ys) (part ++ drop to ys)
      ∙ (λ i. kept_all (λ o. ltb (priority o) r) (take from ys) (All-weaker (λ o. priority o < r) (λ o. ltb (priority o) r ≡ true) (λ o k. lt-ltb (priority o) r k) (take from ys) l.before) i
      ++ filter-append (λ o. ltb (priority o) r) part (drop to ys) i)
      ∙ (λ i. take from ys ++ (kept_none (λ o. ltb (priority o) r) part (All-weaker (λ o. priority o ≡ r) (λ o. ltb (priority o) r ≡ false) (λ o k. le-ltb (priority o) r (omega arith)) part part_same) i
      ++ kept_none (λ o. ltb (priority o) r) (drop to ys) (All-weaker (λ o. r < priority o) (λ o. ltb (priority o) r ≡ false) (λ o k. le-ltb (priority o) r (omega arith)) (drop to ys) after) i))
      ∙ append-nil (take from ys))

  pub before_next : to < length ys → AllByRecursion (λ o. priority o < priority (get_or ys to no_order)) (take to ys)
  before_next lt = All-from_get_or (λ o. priority o < priority (get_or ys to no_order)) (take to ys) no_order
      (λ i k. subst (λ o. priority o < priority (get_or ys to no_order)) (sym (get_or-take to ys i no_order (omega (arith, length-take-le to ys l.inside))))
      (earlier i (omega (arith, length-take-le to ys l.inside))))
    where
      earlier : (i : ℕ) → i < to → priority (get_or ys i no_order) < priority (get_or ys to no_order)
      earlier i k =
          let a = s from to no_order (omega (arith, l.some)) lt in
          let b = l.apart lt in
          ⊎_elim
          (λ (m : i < from). (let c = All-get_or (λ o. priority o < r) (take from ys) i no_order (omega (arith, length-take-le from ys (omega (arith, l.some, l.inside)))) l.before in
          let d = ap priority (get_or-take from ys i no_order m) in omega arith))
          (λ (m : from ≤ i). omega (arith, l.same i m k))
          (cases_lt i from)

  pub taken_both : take to ys ≡ take from ys ++ part
  taken_both =
      sym (take-append-drop from (take to ys))
      ∙ (λ i. take-take from to ys (omega (arith, l.some)) i ++ sym (between_is ys from to) i)

-- ---- shares by number are shares by place

pub map_same : {X Y : Type 0} (f g : X → Y) (xs : List X) → AllByRecursion (λ x. f x ≡ g x) xs → map f xs ≡ map g xs
map_same f g [] h = refl
map_same f g (x ∷ xs) h = (λ i. h.0 i ∷ map_same f g xs h.1 i)

share_next : (x : ℕ) (xs : List ℕ) (k : Option ℕ) → share_at (x ∷ xs) (next_place k) ≡ share_at xs k
share_next x xs (Some k) = ap (λ n. get_or (x ∷ xs) n 0) (add-one k)
share_next x xs None = refl

pub shares_placed : (low : ℕ) (os : List Order) (ss : List ℕ) → Rising (λ (o : Order). o.number) low os → length ss ≡ length os → map (λ o. share_at ss (place_of o.number os)) os ≡ ss
shares_placed low [] [] h e = refl
shares_placed low [] (x ∷ ss) h e = absurd (none (length ss) e)
  where
    none : (n : ℕ) → suc n ≡ 0 → ⊥
    none n e = omega arith
shares_placed low (o ∷ os) [] h e = absurd (none (length os) e)
  where
    none : (n : ℕ) → 0 ≡ suc n → ⊥
    none n e = omega arith
shares_placed low (o ∷ os) (x ∷ ss) h e =
    let above = rising_above (λ (p : Order). p.number) o.number o.number os (omega arith) h.1 in
    (λ i. first i ∷ (map_same (λ p. share_at (x ∷ ss) (place_of p.number (o ∷ os))) (λ p. share_at ss (place_of p.number os)) os (All-weaker (λ p. o.number < p.number) _ (λ p k. other p k) os above)
    ∙ shares_placed o.number os ss h.1 (omega (arith, e))) i)
  where
    first : share_at (x ∷ ss) (place_of o.number (o ∷ os)) ≡ x
    first = ap (share_at (x ∷ ss)) (cond-true (eqb o.number o.number) (Some 0) (next_place (place_of o.number os)) (eq-eqb o.number o.number refl))

    other : (p : Order) → o.number < p.number → share_at (x ∷ ss) (place_of p.number (o ∷ os)) ≡ share_at ss (place_of p.number os)
    other p k = ap (share_at (x ∷ ss)) (cond-false (eqb o.number p.number) (Some 0) (next_place (place_of p.number os)) (ne_eqb o.number p.number (λ q. omega arith))) ∙ share_next x ss (place_of p.number os)

-- ---- the shares of the levels so far

module _ (rule : Sharing) (ys : List Order) (amount : ℕ) (marked : Option ℕ) (g : ℕ) where
  -- the fills of the first orders are written, what they hold is counted, and a level begins there
  pub record Allocating (shares : List Contracts) (from ahead : ℕ) : Type 0 where
    pub done : counts (take from shares) ≡ map (fill rule ys amount marked g) (take from ys)
    pub sum : ahead ≡ sum_by standing (take from ys)
    pub first : from < length ys → AllByRecursion (λ o. priority o < priority (get_or ys from no_order)) (take from ys)
    pub inside : from ≤ length ys
    pub long : length shares ≡ length ys

  module _ (s : Sorted ys) (rising : (r : ℕ) → Rising (λ (o : Order). o.number) 0 (level r ys)) (from to : ℕ) (l : Level ys from to) where
    -- the shares of one level are its orders' fills
    level_fills : (ss : List ℕ) → length ss ≡ to - from →
        ss ≡ rule (map standing (part ys from to s l)) (amount - sum_by standing (take from ys)) (mark_among marked (part ys from to s l)) g →
        map (fill rule ys amount marked g) (part ys from to s l) ≡ ss
    level_fills ss long is =
        let p = part ys from to s l in
        let q = priority (get_or ys from no_order) in
        let lev : level q ys ≡ p = level_is ys from to s l in
        let num : ℕ → ℕ = λ n. share_at ss (place_of n p) in
        let shares_are : rule (map standing (level q ys)) (amount - volume_ahead q ys) (mark_among marked (level q ys)) g ≡ ss =
        (λ i. rule (map standing (lev i)) (amount - ahead_is ys from to s l i) (mark_among marked (lev i)) g) ∙ sym is in
        map_same (fill rule ys amount marked g) (λ o. num o.number) p
        (All-weaker (λ o. priority o ≡ q) _ (λ o e.
        ap (λ k. share_at (rule (map standing (level k ys)) (amount - volume_ahead k ys) (mark_among marked (level k ys)) g) (place_of o.number (level k ys))) e
        ∙ (λ i. share_at (shares_are i) (place_of o.number (lev i)))) p (part_same ys from to s l))
        ∙ shares_placed 0 p ss (subst (Rising (λ (o : Order). o.number) 0) lev (rising q)) (long ∙ sym (part_length ys from to s l))

    pub allocating_more : (shares new : List Contracts) (ahead more : ℕ) → Allocating shares from ahead → length new ≡ to - from →
        counts new ≡ rule (map standing (part ys from to s l)) (amount - ahead) (mark_among marked (part ys from to s l)) g → more ≡ sum_by standing (part ys from to s l) →
        Allocating (put_mid from (to - from) shares new) to (ahead + more)
    allocating_more shares new ahead more a long is held =
        let p = part ys from to s l in
        let fills = level_fills (counts new) (length_counts new ∙ long) (is ∙ ap (λ n. rule (map standing p) (amount - n) (mark_among marked p) g) a.sum) in
        let inside = l.inside in
        let some = l.some in
        record {
          done =
              ap counts (take-put_mid from (to - from) shares new to (omega arith) (omega (arith, a.long)))
              ∙ map-append (λ (c : Contracts). c.count) (take from shares) new
              ∙ (λ i. a.done i ++ sym fills i)
              ∙ sym (map-append (fill rule ys amount marked g) (take from ys) p)
              ∙ ap (map (fill rule ys amount marked g)) (sym (taken_both ys from to s l));
          sum = (λ i. a.sum i + held i) ∙ sym (sum_by-append standing (take from ys) p) ∙ ap (sum_by standing) (sym (taken_both ys from to s l));
          first = before_next ys from to s l;
          inside = l.inside;
          long = long_putMid shares new from (to - from) (omega (arith, a.long)) long ∙ a.long;
        }
      where
        long_putMid : (xs zs : List Contracts) (a k : ℕ) → a + k ≤ length xs → length zs ≡ k → length (put_mid a k xs zs) ≡ length xs
        long_putMid xs zs a k le e =
            length-append (take a xs) (zs ++ drop k (drop a xs))
            ∙ omega (arith, length-take-le a xs (omega arith), length-append zs (drop k (drop a xs)), length-drop k (drop a xs), length-drop a xs)
