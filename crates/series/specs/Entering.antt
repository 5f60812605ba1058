-- What an entering order trades and leaves, given the orders, the away best and the end of an exposure.
use Rattle.std.specs.Prelude.{◌≡◌, ℕ, ◌+◌, ◌-◌, ◌<◌, ◌≤◌, Bool, cond, ◌&&◌, List, ◌++◌, map, length, drop, None, sum_by, count_by, filter, Option}
use Rattle.market.specs.Words.{same_side, other, in_book, price_of, or_else}
use Rattle.market.specs.declared.order.Order.{Order}
use Rattle.market.specs.declared.order.Role.TheVariants.{Book}
use Rattle.market.specs.declared.row.Row.{Row}
use Rattle.rules.specs.Allocation.{fill, taker_rows, after_trade, live}
use Rattle.rules.specs.Calls.{remainder}
use Rattle.rules.specs.Prices.{bound, reaches, within}
use Rattle.sharing.specs.Sharing.{Sharing}
use Rattle.order_table.specs.Orders.{orders, next_number}
use Rattle.book.specs.Records.{booked}
use Rattle.order_table.specs.declared.table.Table.{Table}

module _ (rule : Sharing) (os : List Order) (o : Order) (best : Option ℕ) (end : ℕ) where
  -- an order that it may trade with
  abbrev pub reachable : Order → Bool
  reachable x = same_side x.side (other o.side) && in_book x.role && within o.side (bound o.side (price_of o.kind) best) (price_of x.kind)

  abbrev pub entry_fill : Order → ℕ
  entry_fill = fill rule (filter reachable os) o.size.count None 0

  abbrev pub entry_remainder : List Order × List Row
  entry_remainder = remainder o (o.size.count - sum_by entry_fill (filter reachable os)) o.account (reaches o.side (price_of o.kind) best) (or_else best 0) end

  abbrev pub entry_rows : List Row
  entry_rows = taker_rows o.side o.number entry_fill (filter reachable os) ++ entry_remainder.1

  abbrev pub entry_orders : List Order
  entry_orders = live (map (λ x. cond (reachable x) (after_trade (entry_fill x) x) x) os) ++ entry_remainder.0

-- an order for the book that has not traded, under the next number, for which there is room
pub record Enterable (o : Order) (t : Table) : Type 0 where
  pub number : o.number ≡ next_number t
  pub numbers : next_number t ≤ 65535
  pub size : o.size.count ≤ 9999
  pub gone : o.gone.count ≡ 0
  pub role : o.role ≡ Book
  pub price : price_of o.kind ≤ 99999
  pub room : count_by booked (orders t) < 128

-- the rows, the orders left and the numbers used up when an order has entered
pub record Admitted (rule : Sharing) (o : Order) (best : Option ℕ) (end : ℕ) (before after : Table) (old new : List Row) (count : ℕ) : Type 0 where
  pub counted : count ≡ length (entry_rows rule (orders before) o best end)
  pub written : new ≡ entry_rows rule (orders before) o best end ++ drop count old
  pub left : orders after ≡ entry_orders rule (orders before) o best end
  pub numbers : next_number after ≡ next_number before + 1
