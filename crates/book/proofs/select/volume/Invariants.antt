use Rattle.std.proofs.Common.{◌≡◌, take, sum_by, filter}
use Rattle.market.specs.Words.{standing}
use Rattle.book.specs.Filters.{passes}
use Rattle.book.proofs.select.volume.Given as goal

abbrev pub invariant-loop-order : goal.invariant-loop-order
invariant-loop-order l = l.sum ≡ sum_by standing (filter (passes l.filter) (take l.order-index l.orders))
