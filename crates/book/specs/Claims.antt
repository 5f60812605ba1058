-- The orders that claim what is taken.
use Rattle.std.specs.Prelude.{ℕ, List}
use Rattle.market.specs.declared.order.Order.{Order}
use Rattle.rules.specs.Allocation.{fill}
use Rattle.sharing.specs.Sharing.{Sharing}
use Rattle.book.specs.Places.{orders_at}
use Rattle.book.specs.declared.allocation.claimed.Claimed.{Claimed}

abbrev pub claimants : Claimed → List Order
claimants c = orders_at c.orders.now c.ranked.now

-- what an order among them trades
abbrev pub fill_of : Sharing → Claimed → Order → ℕ
fill_of rule c = fill rule (claimants c) c.taking.amount.count c.taking.marked c.taking.guarantee.count
