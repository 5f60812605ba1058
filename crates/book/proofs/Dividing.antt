-- The levels of ranked orders, as the code finds them.
use Rattle.std.proofs.Common.{◌≡◌, ℕ, zero, suc, ◌+◌, ◌-◌, ◌*◌, ◌<◌, ◌≤◌, Bool, false, eqb, List, [], ◌∷◌, map, length, get_or, take, drop, sum_by, sum, sym, ap, ◌∙◌, subst, arith}
use Rattle.std.specs.List.{All, AllByRecursion, prefix_len}
use Rattle.std.proofs.ByRecursion.{sum_by_le}
use Rattle.std.proofs.lemmas.Bool.{both_ways, eqb-true, eq-eqb}
use Rattle.std.proofs.lemmas.List.{get_or-drop, get_or-map, length-drop, length-map, length-take, take-map, drop-map}
use Rattle.std.proofs.lemmas.List.Elements.{All-drop, All-take, All-get_or, recursion_from_All}
use Rattle.std.proofs.lemmas.List.Sums.{prefix_len_passes, prefix_len_stops, sum-map}
use Rattle.market.specs.Words.{standing}
use Rattle.market.specs.declared.order.Order.{Order}
use Rattle.market.specs.declared.units.Contracts.{Contracts}
use Rattle.rules.specs.Allocation.{priority}
use Rattle.sharing.specs.Asked.{counts}
use Rattle.book.specs.Places.{no_order, at, orders_at, TrueRank}
use Rattle.book.specs.Ranking.{priority_at_place}
use Rattle.book.specs.declared.priority.Ranked.{Ranked}
use Rattle.book.proofs.Levels.{Level}
use Rattle.book.proofs.Sorting.{no_rank}

pub map_part : {X Y : Type 0} (f : X → Y) (from n : ℕ) (xs : List X) → map f (take n (drop from xs)) ≡ take n (drop from (map f xs))
map_part f from n xs = sym (take-map f n (drop from xs)) ∙ ap (take n) (sym (drop-map f from xs))

pub all_part : {X : Type 0} (P : X → Type 0) (from n : ℕ) (xs : List X) → All P xs → All P (take n (drop from xs))
all_part P from n xs h = All-take P n (drop from xs) (All-drop P from xs h)

-- the level that begins at a place
module _ (os : List Order) (rs : List Ranked) (ranks : All (TrueRank os) rs) (from : ℕ) (inside : from < length rs) where
  abbrev rest : List Ranked
  rest = drop from rs

  rank_priority : (k : ℕ) → from + k < length rs → (get_or rest k no_rank).priority ≡ priority (get_or (orders_at os rs) (from + k) no_order)
  rank_priority k lt =
      ap (λ (r : Ranked). r.priority) (get_or-drop from rs k no_rank)
      ∙ (All-get_or (TrueRank os) rs (from + k) no_rank lt ranks).same
      ∙ ap priority (sym (get_or-map (at os) rs (from + k) no_rank no_order lt))

  first_priority : priority_at_place rest 0 ≡ priority (get_or (orders_at os rs) from no_order)
  first_priority = (let e : from + 0 ≡ from = omega arith in rank_priority 0 (omega arith) ∙ ap (λ j. priority (get_or (orders_at os rs) j no_order)) e)

  pub level_found : (n : ℕ) → n ≡ prefix_len (λ r. eqb r.priority (priority_at_place rest 0)) rest → 0 < n → n ≤ length rest →
      AllByRecursion (λ o. priority o < priority (get_or (orders_at os rs) from no_order)) (take from (orders_at os rs)) →
      Level (orders_at os rs) from (from + n)
  level_found n is some within before =
      let long = length-map rs (at os) in
      let left = length-drop from rs in
      record {
        some = omega arith;
        inside = omega arith;
        before = before;
        same = λ k a b. same k a (omega arith);
        apart = λ lt e. apart (omega arith) e;
      }
    where
      passing : Ranked → Bool
      passing r = eqb r.priority (priority_at_place rest 0)

      same : (k : ℕ) → from ≤ k → k - from < n → priority (get_or (orders_at os rs) k no_order) ≡ priority (get_or (orders_at os rs) from no_order)
      same k a b =
          let e : from + (k - from) ≡ k = omega arith in
          let left = length-drop from rs in
          ap (λ j. priority (get_or (orders_at os rs) j no_order)) (sym e)
          ∙ sym (rank_priority (k - from) (omega arith))
          ∙ eqb-true _ _ (prefix_len_passes passing rest (k - from) no_rank (omega arith))
          ∙ first_priority

      apart : n < length rest → priority (get_or (orders_at os rs) (from + n) no_order) ≡ priority (get_or (orders_at os rs) from no_order) → ⊥
      apart lt e =
          let left = length-drop from rs in
          let stops : passing (get_or rest n no_rank) ≡ false = subst (λ m. passing (get_or rest m no_rank) ≡ false) (sym is) (prefix_len_stops passing rest no_rank (omega arith)) in
          both_ways (passing (get_or rest n no_rank)) stops (eq-eqb _ _ (rank_priority n (omega arith) ∙ e ∙ sym first_priority))

-- ---- claims

pub claims_long : (os : List Order) (rs : List Ranked) (claims : List Contracts) → counts claims ≡ map standing (orders_at os rs) → length claims ≡ length rs
claims_long os rs claims e = sym (length-map claims (λ (c : Contracts). c.count)) ∙ ap length e ∙ length-map (orders_at os rs) standing ∙ length-map rs (at os)

pub claims_small : (claims : List Contracts) → All (λ c. c.count ≤ 9999) claims → (k : ℕ) → get_or (counts claims) k 0 ≤ 9999
claims_small claims h = go claims (recursion_from_All (λ c. c.count ≤ 9999) claims h)
  where
    go : (cs : List Contracts) → AllByRecursion (λ c. c.count ≤ 9999) cs → (k : ℕ) → get_or (counts cs) k 0 ≤ 9999
    go [] h k = omega arith
    go (c ∷ cs) h zero = h.0
    go (c ∷ cs) h (suc k) = go cs h.1 k

pub claims_sum : (claims : List Contracts) → length claims ≤ 160 → All (λ c. c.count ≤ 9999) claims → sum (counts claims) ≤ 1599840
claims_sum claims few small =
    let e = sum-map (λ (c : Contracts). c.count) claims in
    bounded (length claims) (sum (counts claims)) few (omega (arith, e, sum_by_le (λ (c : Contracts). c.count) 9999 claims (recursion_from_All (λ c. c.count ≤ 9999) claims small)))
  where
    bounded : (m s : ℕ) → m ≤ 160 → s ≤ m * 9999 → s ≤ 1599840
    bounded m s le h = omega arith

-- of which the first orders have a part, and each level its own
module _ (os : List Order) (rs : List Ranked) (claims : List Contracts) (claimed : counts claims ≡ map standing (orders_at os rs)) where
  pub few_contracts : (n : ℕ) → length rs ≤ 160 → All (λ c. c.count ≤ 9999) claims → sum_by standing (take n (orders_at os rs)) ≤ 1599840
  few_contracts n few small =
      let e : sum (counts (take n claims)) ≡ sum_by standing (take n (orders_at os rs)) =
      ap sum (sym (take-map (λ (c : Contracts). c.count) n claims) ∙ ap (take n) claimed ∙ take-map standing n (orders_at os rs)) ∙ sum-map standing (take n (orders_at os rs)) in
      omega (arith, claims_sum (take n claims) (omega (arith, length-take n claims, claims_long os rs claims claimed)) (All-take (λ c. c.count ≤ 9999) n claims small))

  module _ (from n : ℕ) where
    pub part_orders : orders_at os (take n (drop from rs)) ≡ take n (drop from (orders_at os rs))
    part_orders = map_part (at os) from n rs

    pub part_claimed : counts (take n (drop from claims)) ≡ map standing (orders_at os (take n (drop from rs)))
    part_claimed =
        map_part (λ (c : Contracts). c.count) from n claims
        ∙ ap (λ xs. take n (drop from xs)) claimed
        ∙ sym (map_part standing from n (orders_at os rs))
        ∙ ap (map standing) (sym part_orders)

    pub part_held : sum (counts (take n (drop from claims))) ≡ sum_by standing (take n (drop from (orders_at os rs)))
    part_held = ap sum (part_claimed ∙ ap (map standing) part_orders) ∙ sum-map standing (take n (drop from (orders_at os rs)))
