-- What a table holds.
use Rattle.std.specs.Prelude.{ℕ, List}
use Rattle.market.specs.declared.order.Order.{Order}
use Rattle.book.specs.Orders.{orders as records_of}
use Rattle.order_table.specs.declared.table.Table.{Table}

-- the live records, by number
abbrev pub orders : Table → List Order
orders t = records_of t.records

-- the number of the next order
abbrev pub next_number : Table → ℕ
next_number t = t.records.next
