use Rattle.std.proofs.Common.{◌≡◌, ◌-◌, ◌^◌, min, take, sum}
use Rattle.sharing.specs.Asked.{counts}
use Rattle.sharing.proofs.sums.sum_of.Given as goal

abbrev pub invariant-loop-c : goal.invariant-loop-c
invariant-loop-c l = l.sum ≡ min (sum (take l.c-index (counts l.contracts))) (2 ^ 32 - 1)
