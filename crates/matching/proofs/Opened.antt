-- What an opening leaves of the orders, from what each step of the code leaves.
use Rattle.std.proofs.Common.{◌≡◌, ℕ, suc, ◌+◌, ◌-◌, ◌<◌, ◌≤◌, Bool, true, false, cond, ◌&&◌, ltb, List, [], ◌∷◌, map, length, get_or, take, drop, filter, sym, refl, ap, ◌∙◌, subst, arith}
use mathlib.Core.List.{map-map}
use Rattle.std.specs.List.{AllByRecursion}
use Rattle.std.proofs.ByRecursion.{All-get_or, sum_by_le}
use Rattle.std.proofs.lemmas.List.{length-map, length-take}
use Rattle.std.proofs.lemmas.List.Sums.{count_by-le-length, length-filter}
use Rattle.market.specs.Words.{standing, same_side}
use Rattle.market.specs.declared.order.Order.{Order}
use Rattle.market.specs.declared.order.Side.{Side}
use Rattle.market.specs.declared.order.Side.TheVariants.{Buy, Sell}
use Rattle.rules.specs.Allocation.{after_trade, by_priority, live}
use Rattle.rules.specs.Opening.{filled, opened_orders, opening_fill}
use Rattle.rules.specs.Opening.{limited_at}
use Rattle.rules.specs.Volume.{matched_volume, of_order}
use Rattle.rules.proofs.Matching.{all_from_kept}
use Rattle.sharing.specs.Sharing.{Sharing}
use Rattle.matching.specs.Matching.{wills, both_filled}
use Rattle.book.specs.Pairing.{filled_pair}
use Rattle.book.specs.Places.{no_order}
use Rattle.book.specs.Settling.{filled_places}
use Rattle.book.specs.Records.{Live}
use Rattle.book.specs.Settling.{Covered, settled_up_to}
use Rattle.book.specs.declared.pairing.Filled.{Filled}
use Rattle.book.proofs.Scattering.{fill_passed, fill_other, places_fit}
use Rattle.book.proofs.Settling.{settled_is, settled_exact}
use Rattle.book.proofs.Stable.{length_by_priority}
use Rattle.book.proofs.Takings.{lot_passing}

-- an order that trades nothing is as it was
pub nothing_traded : (o : Order) → o ≡ after_trade 0 o
nothing_traded o =
    let a : o.left.count ≡ o.left.count - 0 = omega arith in
    let b : o.traded.count ≡ o.traded.count + 0 = omega arith in
    λ i. record {
      number = o.number;
      member = o.member;
      side = o.side;
      account = o.account;
      kind = o.kind;
      size = o.size;
      left = record { count = a i };
      traded = record { count = b i };
      gone = o.gone;
      exposed = o.exposed;
      role = o.role;
    }

-- a limit leaves every order standing as it was
limits_live : (p : ℕ) (os : List Order) → map (limited_at p) (live os) ≡ live (map (limited_at p) os)
limits_live p [] = refl
limits_live p (o ∷ os) = go (ltb 0 (standing o)) (limits_live p os)
  where
    go : (b : Bool) → map (limited_at p) (live os) ≡ live (map (limited_at p) os) → map (limited_at p) (cond b (o ∷ live os) (live os)) ≡ cond b (limited_at p o ∷ live (map (limited_at p) os)) (live (map (limited_at p) os))
    go true h = ap (λ xs. limited_at p o ∷ xs) h
    go false h = h

-- no order is willing on both sides
pub one_side : (s : Side) (b c : Bool) → (same_side s Buy && b) ≡ true → (same_side s Sell && c) ≡ false
one_side Buy b c e = refl
one_side Sell b c e = cc

-- ---- how many trade, and how much

pub each_few : (q : Order → Bool) (os : List Order) → length (filter q os) ≤ length os
each_few q os = omega (arith, length-filter q os, count_by-le-length q os)

pub both_few : (p : ℕ) (os : List Order) → length (filter (wills Buy p) os) + length (filter (wills Sell p) os) ≤ length os
both_few p [] = omega arith
both_few p (o ∷ os) = go (wills Buy p o) (wills Sell p o) (one_side o.side _ _) (both_few p os)
  where
    ks : List Order
    ks = filter (wills Buy p) os

    ls : List Order
    ls = filter (wills Sell p) os

    go : (b c : Bool) → (b ≡ true → c ≡ false) → length ks + length ls ≤ length os → length (cond b (o ∷ ks) ks) + length (cond c (o ∷ ls) ls) ≤ suc (length os)
    go true true h few = let both = h refl in cc
    go true false h few = omega arith
    go false true h few = omega arith
    go false false h few = omega arith

filled_few : (rule : Sharing) (os : List Order) (p : ℕ) (s : Side) → length (filled rule os p s) ≡ length (filter (wills s p) os)
filled_few rule os p s = length-map (by_priority (filter (wills s p) os)) (λ o. (o.number, opening_fill rule os p s o)) ∙ length_by_priority (filter (wills s p) os)

-- as many as are willing on their side are listed
pub listed_few : (rule : Sharing) (os : List Order) (p : ℕ) (s : Side) (listed : List Filled) (start n : ℕ) → map filled_pair (drop start listed) ≡ filled rule os p s → length (take (n - start) (drop start listed)) ≤ length (filter (wills s p) os)
listed_few rule os p s listed start n is =
    let e : length (drop start listed) ≡ length (filter (wills s p) os) = sym (length-map (drop start listed) filled_pair) ∙ ap length is ∙ filled_few rule os p s in
    omega (arith, e, length-take (n - start) (drop start listed))

pub matched_small : (os : List Order) (p : ℕ) → Live os 65536 → length os ≤ 160 → matched_volume of_order os p ≤ 1599840
matched_small os p l few =
    let lot = lot_passing (wills Buy p) os l (omega (arith, each_few (wills Buy p) os)) in
    omega (arith, sum_by_le standing 9999 (filter (wills Buy p) os) lot.small, lot.short)

module _ (rule : Sharing) (os : List Order) (p : ℕ) where
  -- what each order that is willing on its own side trades
  abbrev pub own_fill : Order → ℕ
  own_fill o = opening_fill rule os p o.side o

  abbrev pub own_wills : Order → Bool
  own_wills o = wills o.side p o

  pub opened_are : map (limited_at p) (live (map (λ o. cond (own_wills o) (after_trade (own_fill o) o) o) os)) ≡ opened_orders rule os p
  opened_are =
      limits_live p (map (λ o. cond (own_wills o) (after_trade (own_fill o) o) o) os)
      ∙ ap live (map-map (limited_at p) (λ o. cond (own_wills o) (after_trade (own_fill o) o) o) os)
      ∙ (λ i. live (map (λ o. limited_at p (same o (own_wills o) i)) os))
    where
      same : (o : Order) (b : Bool) → cond b (after_trade (own_fill o) o) o ≡ after_trade (cond b (own_fill o) 0) o
      same o true = refl
      same o false = nothing_traded o

  -- ---- the fills once both sides are written to their places

  module _ (before : List ℕ) (fit : length os ≡ length before) where
    abbrev bought : List ℕ
    bought = filled_places (wills Buy p) (opening_fill rule os p Buy) os before

    bought_fit : length os ≡ length bought
    bought_fit = places_fit (wills Buy p) (opening_fill rule os p Buy) os before fit

    own_filled : (k : ℕ) → k < length os → own_wills (get_or os k no_order) ≡ true → get_or (both_filled rule os p before) k 0 ≡ own_fill (get_or os k no_order)
    own_filled k lt = go (get_or os k no_order).side refl
      where
        o : Order
        o = get_or os k no_order

        go : (s : Side) → o.side ≡ s → own_wills o ≡ true → get_or (both_filled rule os p before) k 0 ≡ own_fill o
        go Buy e t =
            let willing-buyer : wills Buy p o ≡ true = subst (λ s. wills s p o ≡ true) e t in
            fill_other (wills Sell p) (opening_fill rule os p Sell) os bought bought_fit k lt (one_side o.side _ _ willing-buyer)
            ∙ fill_passed (wills Buy p) (opening_fill rule os p Buy) os before fit k lt willing-buyer
            ∙ ap (λ s. opening_fill rule os p s o) (sym e)
        go Sell e t =
            fill_passed (wills Sell p) (opening_fill rule os p Sell) os bought bought_fit k lt (subst (λ s. wills s p o ≡ true) e t)
            ∙ ap (λ s. opening_fill rule os p s o) (sym e)

    filled_fit : length os ≡ length (both_filled rule os p before)
    filled_fit = places_fit (wills Sell p) (opening_fill rule os p Sell) os bought bought_fit

    -- what is left is what the rules say, if no order trades more than stands of it
    pub left_opened : ((s : Side) → AllByRecursion (λ o. opening_fill rule os p s o ≤ standing o) (filter (wills s p) os)) → map (limited_at p) (settled_up_to own_wills os (both_filled rule os p before)) ≡ opened_orders rule os p
    left_opened within =
        ap (map (limited_at p)) (settled_exact own_wills os (both_filled rule os p before) filled_fit covered ∙ settled_is own_wills own_fill os (both_filled rule os p before) filled_fit own_filled)
        ∙ opened_are
      where
        covered : Covered own_wills os (both_filled rule os p before)
        covered k lt t =
            let o = get_or os k no_order in
            subst (λ (n : ℕ). n ≤ standing o) (sym (own_filled k lt t))
            (All-get_or (λ x. wills o.side p x ≡ true → opening_fill rule os p o.side x ≤ standing x) os k no_order lt
            (all_from_kept (wills o.side p) (λ x. opening_fill rule os p o.side x ≤ standing x) os (within o.side)) t)
