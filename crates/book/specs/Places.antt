-- Orders by their place in a list.
use Rattle.std.specs.Prelude.{◌≡◌, ◌<◌, List, map, length, None, slice_index_or}
use Rattle.std.specs.List.Sorted.{IsNonDecreasingBy}
use Rattle.rules.specs.Allocation.{priority}
use Rattle.market.specs.declared.order.Account.TheVariants.{Customer}
use Rattle.market.specs.declared.order.Order.{Order}
use Rattle.market.specs.declared.order.OrderKind.TheVariants.{Limit}
use Rattle.market.specs.declared.order.Role.TheVariants.{Book}
use Rattle.market.specs.declared.order.Side.TheVariants.{Buy}
use Rattle.book.specs.declared.priority.Ranked.{Ranked}

-- what stands past the end of a list
abbrev pub no_order : Order
no_order = record {
  number = 0;
  member = 0;
  side = Buy;
  account = Customer;
  kind = Limit (record { value = 0 });
  size = record { count = 0 };
  left = record { count = 0 };
  traded = record { count = 0 };
  gone = record { count = 0 };
  exposed = None;
  role = Book;
}

-- the order that a rank stands for, and those of a list of ranks
abbrev pub at : List Order → Ranked → Order
at os r = slice_index_or os r.place no_order

abbrev pub orders_at : List Order → List Ranked → List Order
orders_at os rs = map (at os) rs

-- a rank bears the priority of its order, and its place lies in the list
pub record TrueRank (os : List Order) (r : Ranked) : Type 0 where
  pub same : r.priority ≡ priority (at os r)
  pub inside : r.place < length os

-- no later order comes before an earlier one
abbrev pub Sorted : List Order → Type 0
Sorted os = IsNonDecreasingBy priority os
