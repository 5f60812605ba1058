use Rattle.std.proofs.Common.{get_or}
use Rattle.sharing.specs.Asked.{counts}
use Rattle.book.specs.Filters.{passes}
use Rattle.book.specs.Settling.{traded_up_to}
use Rattle.book.proofs.Settling.{Settles}
use Rattle.book.proofs.settle.settle.Given as goal

abbrev pub invariant-loop-i : goal.invariant-loop-i
invariant-loop-i l = Settles (λ k. traded_up_to (passes l.filter) (get_or (counts l.fills) k 0)) l.orders l.out l.count l.i
