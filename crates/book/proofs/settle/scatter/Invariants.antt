use Rattle.std.proofs.Common.{◌≡◌, length, drop}
use Rattle.sharing.specs.Asked.{counts}
use Rattle.book.specs.Settling.{scattered}
use Rattle.book.proofs.settle.scatter.Given as goal

abbrev pub invariant-loop-r : goal.invariant-loop-r
invariant-loop-r l = scattered (drop (length l.yielded) l.ranked) (counts (drop (length l.yielded) l.shares)) (counts l.fills) ≡ scattered l.ranked (counts l.shares) (counts l.initial.fills)
