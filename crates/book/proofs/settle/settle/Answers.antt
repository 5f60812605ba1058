use Rattle.std.proofs.Common.{get_or, sym, ◌∙◌}
use Rattle.sharing.specs.Asked.{counts}
use Rattle.sharing.proofs.Counts.{length_counts}
use Rattle.book.specs.Filters.{passes}
use Rattle.book.specs.Settling.{traded_up_to}
use Rattle.book.proofs.Settling.{settled_exact, settles_all}
use Rattle.book.proofs.settle.settle.Goals as goal

pub returns-clause-exact : goal.returns-clause-exact
returns-clause-exact c =
    let a = c.args in
    let l = c.loop-i in
    let p = passes a.filter in
    let ns = counts a.fills.now in
    λ even covered. settles_all (λ k. traded_up_to p (get_or ns k 0)) a.orders.now l.out l.count l.i l.invariant c.loop-i-test.false ∙ settled_exact p a.orders.now ns (even ∙ sym (length_counts a.fills.now)) covered
