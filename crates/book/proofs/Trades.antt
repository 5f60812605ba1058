-- The rows of a taker's trades: the ranked orders that trade, and these rows in the words of the rules.
use Rattle.std.proofs.Common.{◌≡◌, ℕ, Bool, true, false, cond, ltb, List, [], ◌∷◌, ◌++◌, map, filter, refl, ap, ◌∙◌}
use Rattle.std.specs.List.{flat_map, zip}
use Rattle.market.specs.Words.{price_of, trade}
use Rattle.market.specs.declared.order.Order.{Order}
use Rattle.market.specs.declared.order.Side.{Side}
use Rattle.market.specs.declared.row.Row.{Row}
use Rattle.market.specs.declared.units.Contracts.{Contracts}
use Rattle.rules.specs.Allocation.{by_priority, taker_rows}
use Rattle.sharing.specs.Asked.{counts}
use Rattle.book.specs.Places.{at, orders_at}
use Rattle.book.specs.Ranking.{by_rank, ranked_from}
use Rattle.book.specs.Rows.{trade_row, trade_rows}
use Rattle.book.specs.declared.priority.Ranked.{Ranked}
use Rattle.book.proofs.Stable.{ranked_stand}

-- the default at which the code reads a share
abbrev pub no_contracts : Contracts
no_contracts = record { count = 0 }

-- ---- in the words of the rules

rows_joined : (s : Side) (t : ℕ) (f : Order → ℕ) (ys : List Order) → trade_rows s t ys (map f ys) ≡ flat_map (λ o. cond (ltb 0 (f o)) (trade s t o.number (price_of o.kind) (f o) ∷ []) []) ys
rows_joined s t f [] = refl
rows_joined s t f (y ∷ ys) = ap (λ rs. trade_row s t y (f y) ++ rs) (rows_joined s t f ys)

-- the rows of the ranked orders that pass
pub rows_ranked : (s : Side) (t : ℕ) (p : Order → Bool) (f : Order → ℕ) (os : List Order) →
    trade_rows s t (orders_at os (by_rank (ranked_from p 0 os))) (map f (by_priority (filter p os))) ≡ taker_rows s t f (filter p os)
rows_ranked s t p f os = ap (λ ys. trade_rows s t ys (map f (by_priority (filter p os)))) (ranked_stand p os) ∙ rows_joined s t f (by_priority (filter p os))

-- ---- one row for each ranked order that trades

abbrev pub trades : Ranked × Contracts → Bool
trades p = ltb 0 p.1.count

module _ (s : Side) (t : ℕ) (os : List Order) where
  abbrev pub row_of : Ranked × Contracts → Row
  row_of p = trade s t (at os p.0).number (price_of (at os p.0).kind) p.1.count

  pub rows_of : (rs : List Ranked) (ns : List Contracts) → map row_of (filter trades (zip rs ns)) ≡ trade_rows s t (orders_at os rs) (counts ns)
  rows_of [] ns = refl
  rows_of (r ∷ rs) [] = refl
  rows_of (r ∷ rs) (n ∷ ns) = go (trades (r, n)) (rows_of rs ns)
    where
      go : (b : Bool) → map row_of (filter trades (zip rs ns)) ≡ trade_rows s t (orders_at os rs) (counts ns) →
          map row_of (cond b ((r, n) ∷ filter trades (zip rs ns)) (filter trades (zip rs ns))) ≡ cond b (row_of (r, n) ∷ []) [] ++ trade_rows s t (orders_at os rs) (counts ns)
      go true h = ap (λ xs. row_of (r, n) ∷ xs) h
      go false h = h
