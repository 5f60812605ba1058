-- What an opening at a price, or at none, does to the orders.
use Rattle.std.specs.Prelude.{◌≡◌, ℕ, ◌≤◌, List, [], ◌++◌, length, drop, Some, None, Option}
use Rattle.market.specs.declared.order.Order.{Order}
use Rattle.market.specs.declared.row.Row.{Row}
use Rattle.rules.specs.Opening.{opening_rows, opened_orders}
use Rattle.sharing.specs.Sharing.{Sharing}
use Rattle.order_table.specs.Orders.{orders, next_number}
use Rattle.order_table.specs.declared.table.Table.{Table}

-- an opening price, if there is one, is no higher than a price can be
abbrev pub Priced : Option (ℕ × ℕ) → Type 0
Priced (Some x) = x.0 ≤ 99999
Priced None = Unit {0}

abbrev pub orders_opened : Sharing → List Order → Option (ℕ × ℕ) → List Order
orders_opened rule os (Some x) = opened_orders rule os x.0
orders_opened rule os None = os

abbrev pub rows_opened : Sharing → List Order → Option (ℕ × ℕ) → List Row
rows_opened rule os (Some x) = opening_rows rule os x.0
rows_opened rule os None = []

-- the orders left and the rows written
pub record Matched (rule : Sharing) (opening : Option (ℕ × ℕ)) (before after : Table) (old new : List Row) (count : ℕ) : Type 0 where
  pub counted : count ≡ length (rows_opened rule (orders before) opening)
  pub written : new ≡ rows_opened rule (orders before) opening ++ drop count old
  pub left : orders after ≡ orders_opened rule (orders before) opening
  pub numbers : next_number after ≡ next_number before
