-- What a taker takes from the orders that pass.
use Rattle.std.specs.Prelude.{ℕ, Bool, cond, List, map, filter}
use Rattle.market.specs.declared.order.Order.{Order}
use Rattle.market.specs.declared.row.Row.{Row}
use Rattle.rules.specs.Allocation.{fill, taker_rows, after_trade, live}
use Rattle.sharing.specs.Sharing.{Sharing}
use Rattle.book.specs.declared.take.Taker.{Taker}

module _ (rule : Sharing) (os : List Order) (p : Order → Bool) (t : Taker) where
  -- what an order that passes trades
  abbrev pub taker_fill : Order → ℕ
  taker_fill = fill rule (filter p os) t.taking.amount.count t.taking.marked t.taking.guarantee.count

  abbrev pub trades_of : List Row
  trades_of = taker_rows t.side t.number taker_fill (filter p os)

  -- the orders after it
  abbrev pub left_of : List Order
  left_of = live (map (λ o. cond (p o) (after_trade (taker_fill o) o) o) os)
