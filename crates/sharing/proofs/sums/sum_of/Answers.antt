use Rattle.std.proofs.Common.{arith}
use Rattle.std.proofs.lemmas.List.Sums.{sum_by_more}
use Rattle.sharing.specs.Asked.{counts}
use Rattle.sharing.proofs.Counts.{counts_at, length_counts}
use Rattle.sharing.proofs.sums.sum_of.Goals as goal

pub loop-c-preserved : goal.loop-c-preserved
loop-c-preserved c =
    let cs = c.args.contracts.now in
    let i = c.loop-c.c-index in
    let long = length_counts cs in
    omega (arith, sum_by_more (λ x. x) (counts cs) i 0 (omega (arith, c.loop-c-test.true)), counts_at cs i, c.loop-c.invariant, c.saturating_add-sum.ensures)
