use Rattle.std.proofs.Common.{◌≡◌, ◌++◌, map, take, drop}
use Rattle.rules.specs.Opening.{limited_at}
use Rattle.order_table.proofs.limits.limit_orders.Given as goal

-- the orders passed stand at a limit, the others are as they were
abbrev pub invariant-loop-order : goal.invariant-loop-order
invariant-loop-order l = l.orders ≡ map (limited_at l.price.value) (take l.order-index l.initial.orders) ++ drop l.order-index l.initial.orders
