use Rattle.std.proofs.Common.{◌≡◌, drop}
use Rattle.rules.specs.Prices.{cents, better_price}
use Rattle.rules.specs.Series.{book_best}
use Rattle.order_table.proofs.prices.book_best.Given as goal

-- the better of the best so far and of the orders that are left
abbrev pub invariant-loop-order : goal.invariant-loop-order
invariant-loop-order l = better_price l.side (cents l.best) (book_best l.side (drop l.order-index l.orders)) ≡ book_best l.side l.orders
