-- What the finish of an auction trades and leaves, given the orders.
use Rattle.std.specs.Prelude.{◌≡◌, ℕ, ◌*◌, ◌/◌, cond, not, List, ◌++◌, map, length, drop, Some, filter}
use Rattle.market.specs.Words.{in_book}
use Rattle.market.specs.declared.auction.Auction.{Auction}
use Rattle.market.specs.declared.order.Order.{Order}
use Rattle.market.specs.declared.row.Row.{Row}
use Rattle.rules.specs.Allocation.{fill, taker_rows, after_trade, live}
use Rattle.rules.specs.Calls.{against_customer, without, withdrawn_row}
use Rattle.sharing.specs.Sharing.{Sharing}
use Rattle.order_table.specs.Orders.{orders, next_number}
use Rattle.order_table.specs.declared.table.Table.{Table}
use Rattle.matching.specs.declared.take.Taker.{Taker}

-- the customer takes its size, and the starter's order has a guarantee of two fifths of it
abbrev pub customer_taker : Auction → Taker
customer_taker a = record {
  side = a.side;
  number = a.customer;
  taking = record { amount = a.size; marked = Some a.starter; guarantee = record { count = 2 * a.size.count / 5 } };
}

module _ (rule : Sharing) (os : List Order) (a : Auction) where
  abbrev pub finish_fill : Order → ℕ
  finish_fill = fill rule (filter (against_customer a) os) a.size.count (Some a.starter) (2 * a.size.count / 5)

  -- what the trades leave of the orders but the customer's
  abbrev pub finish_left : List Order
  finish_left = live (map (λ o. cond (against_customer a o) (after_trade (finish_fill o) o) o) (without a.customer os))

  abbrev pub finish_rows : List Row
  finish_rows = taker_rows a.side a.customer finish_fill (filter (against_customer a) os) ++ map withdrawn_row (filter (λ o. not (in_book o.role)) finish_left)

  abbrev pub finish_orders : List Order
  finish_orders = filter (λ o. in_book o.role) finish_left

-- the rows and the orders left when an auction has finished
pub record Finished (rule : Sharing) (a : Auction) (before after : Table) (old new : List Row) (count : ℕ) : Type 0 where
  pub counted : count ≡ length (finish_rows rule (orders before) a)
  pub written : new ≡ finish_rows rule (orders before) a ++ drop count old
  pub left : orders after ≡ finish_orders rule (orders before) a
  pub numbers : next_number after ≡ next_number before
