use Rattle.std.proofs.Common.{◌≡◌, ◌≤◌, take, count_by}
use Rattle.book.specs.Filters.{passes}
use Rattle.book.proofs.select.count.Given as goal

abbrev pub invariant-loop-order : goal.invariant-loop-order
invariant-loop-order l = (l.total ≡ count_by (passes l.filter) (take l.order-index l.orders)) × (l.total ≤ l.order-index)
