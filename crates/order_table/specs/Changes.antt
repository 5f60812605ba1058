-- What a change of the table does to its live records.
use Rattle.std.specs.Prelude.{◌≡◌, ℕ, ◌+◌, Bool, cond, ◌&&◌, List, [], ◌∷◌, ◌++◌, map, count_by, ◌==◌, nat_le, nat_lt}
use Rattle.market.specs.declared.order.Order.{Order}
use Rattle.market.specs.declared.order.Role.{Role}
use Rattle.market.specs.declared.order.Role.TheVariants.{Book, Auctioned, Starter, Competing}
use Rattle.rules.specs.Opening.{limited_at}
use Rattle.order_table.specs.Orders.{orders, next_number}
use Rattle.book.specs.Records.{booked, customers, auction_contra}
use Rattle.order_table.specs.Records.{sound_record}
use Rattle.order_table.specs.declared.table.Table.{Table}

-- ---- one more order

-- at most 128 orders in the book; in an auction one customer's and 32 others
abbrev pub role_room : Role → List Order → Bool
role_room Book os = nat_lt (count_by booked os) 128
role_room Auctioned os = nat_lt (count_by customers os) 1
role_room Starter os = nat_lt (count_by auction_contra os) 32
role_room Competing os = nat_lt (count_by auction_contra os) 32

-- an order that can be added: under the next number, sound, and with room for its role
abbrev pub admissible : Order → List Order → ℕ → Bool
admissible o os next = o.number == next && sound_record o && role_room o.role os

pub record Appended (o : Order) (before after : Table) (added : Bool) : Type 0 where
  pub answer : added ≡ admissible o (orders before) (next_number before)
  pub records : orders after ≡ cond added (orders before ++ (o ∷ [])) (orders before)
  pub numbers : next_number after ≡ cond added (next_number before + 1) (next_number before)

-- a number used up without an order that stands
pub record Skipped (before after : Table) (used : Bool) : Type 0 where
  pub answer : used ≡ nat_le (next_number before) 65535
  pub records : orders after ≡ orders before
  pub numbers : next_number after ≡ cond used (next_number before + 1) (next_number before)

-- ---- limits

-- what is left of Market-on-Opening orders stands at p, if that is no higher than a price can be
abbrev pub limited : ℕ → List Order → List Order
limited p os = cond (nat_le p 99999) (map (limited_at p) os) os
