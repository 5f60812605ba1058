-- What a taker takes, from what each step of the code leaves.
use Rattle.std.proofs.Common.{◌≡◌, ℕ, ◌-◌, ◌<◌, ◌≤◌, min, Bool, List, map, length, sum_by, take, drop, filter, sym, ap, ◌∙◌, subst, arith}
use Rattle.std.specs.List.{AllByRecursion}
use Rattle.std.proofs.ByRecursion.{all_kept_by}
use Rattle.std.proofs.lemmas.List.{length-drop, take_all}
use Rattle.market.specs.Words.{standing}
use Rattle.market.specs.declared.order.Order.{Order}
use Rattle.market.specs.declared.order.Side.{Side}
use Rattle.market.specs.declared.units.Contracts.{Contracts}
use Rattle.rules.specs.Allocation.{by_priority, taker_rows}
use Rattle.rules.proofs.Fills.{fill_whole, fill_within}
use Rattle.rules.proofs.Matching.{rising_kept}
use Rattle.rules.proofs.Sound.{Lot}
use Rattle.sharing.specs.Asked.{counts}
use Rattle.sharing.specs.Sharing.{Lawful, Sharing}
use Rattle.book.specs.Places.{orders_at}
use Rattle.book.specs.Ranking.{by_rank, ranked_from}
use Rattle.book.specs.Records.{Live}
use Rattle.book.specs.Rows.{trade_rows}
use Rattle.book.specs.Settling.{filled_places, settled_up_to}
use Rattle.book.specs.Taking.{left_of, taker_fill}
use Rattle.book.specs.declared.priority.Ranked.{Ranked}
use Rattle.book.specs.declared.take.Taker.{Taker}
use Rattle.book.proofs.Ranks.{long_as_kept}
use Rattle.book.proofs.Records.{live_small, rising_from}
use Rattle.book.proofs.Scattering.{left_up_to, places_inside}
use Rattle.book.proofs.Trades.{rows_ranked}

-- what a rule may be asked about
pub lot_passing : (p : Order → Bool) (os : List Order) → Live os 65536 → length (filter p os) ≤ 160 → Lot (filter p os)
lot_passing p os l few = record {
  rising = rising_kept (λ (o : Order). o.number) p 0 os (rising_from 0 os 65536 l.rising);
  short = few;
  small = all_kept_by p (λ o. standing o ≤ 9999) os (live_small os 65536 l);
}

-- the part of a list from a place to its end
pub rest_is : {X : Type 0} (xs : List X) (start n : ℕ) → n ≡ length xs → take (n - start) (drop start xs) ≡ drop start xs
rest_is xs start n e = take_all (n - start) (drop start xs) (omega (arith, length-drop start xs))

-- the ranked orders from a place to the end
module _ (p : Order → Bool) (os : List Order) (rs : List Ranked) (start n : ℕ) (long : n ≡ length rs) (ranked : drop start rs ≡ by_rank (ranked_from p 0 os)) where
  pub rest_ranked : take (n - start) (drop start rs) ≡ by_rank (ranked_from p 0 os)
  rest_ranked = rest_is rs start n long ∙ ranked

  pub rest_inside : (k : ℕ) → length os ≤ k → AllByRecursion (λ r. r.place < k) (take (n - start) (drop start rs))
  rest_inside k le = subst (AllByRecursion (λ r. r.place < k)) (sym rest_ranked) (places_inside p os k le)

  pub rest_long : length (take (n - start) (drop start rs)) ≡ length (filter p os)
  rest_long = long_as_kept p os (take (n - start) (drop start rs)) rest_ranked

  -- and what each of them trades
  module _ (f : Order → ℕ) (shares : List Contracts) (even : n ≡ length shares) (shared : counts (drop start shares) ≡ map f (by_priority (filter p os))) where
    pub rest_shared : counts (take (n - start) (drop start shares)) ≡ map f (by_priority (filter p os))
    rest_shared = ap counts (rest_is shares start n even) ∙ shared

    pub rest_rows : (s : Side) (t : ℕ) → trade_rows s t (orders_at os (take (n - start) (drop start rs))) (counts (take (n - start) (drop start shares))) ≡ taker_rows s t f (filter p os)
    rest_rows s t = (λ i. trade_rows s t (orders_at os (rest_ranked i)) (rest_shared i)) ∙ rows_ranked s t p f os

-- what is left once each order that passes has traded its fill, and the contracts that trade
module _ (rule : Sharing) (lawful : Lawful rule) (os : List Order) (p : Order → Bool) (t : Taker) (l : Live os 65536) (few : length (filter p os) ≤ 160) (amounts : t.taking.amount.count ≤ 1599840) (guarantees : t.taking.guarantee.count ≤ 9999) where
  pub taker_left : (before : List ℕ) → length os ≡ length before → settled_up_to p os (filled_places p (taker_fill rule os p t) os before) ≡ left_of rule os p t
  taker_left before fit = left_up_to p (taker_fill rule os p t) os before fit (fill_within rule lawful (filter p os) t.taking.amount.count t.taking.marked t.taking.guarantee.count (lot_passing p os l few) amounts guarantees)

  pub taker_traded : min t.taking.amount.count (sum_by standing (filter p os)) ≡ sum_by (taker_fill rule os p t) (filter p os)
  taker_traded = sym (fill_whole rule lawful (filter p os) t.taking.amount.count t.taking.marked t.taking.guarantee.count (lot_passing p os l few) amounts guarantees)
