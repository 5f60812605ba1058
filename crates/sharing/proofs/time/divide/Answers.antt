use Rattle.std.proofs.Common.{◌-◌, set, sum, ap, ◌∙◌, arith}
use Rattle.sharing.specs.Asked.{counts}
use Rattle.sharing.specs.Time.{in_order}
use Rattle.sharing.proofs.Counts.{counts_at, counts_set}
use Rattle.sharing.specs.InOrder.{marked_written}
use Rattle.sharing.proofs.time.divide.Goals as goal

pub returns-in-Some : goal.returns-in-Some
returns-in-Some c =
    let cs = counts c.args.claims.now in
    let m = c.in-Some.m in
    let a = c.args.amount.count in
    let first = c.min-first.result.count in
    let left = c.cut_in_order-left.result.count in
    let last = c.min-in-Some.result.count in
    let claim = counts_at c.args.claims.now m in
    let none = ap (λ ss. counts (set ss m (record { count = 0 }))) c.copy_from_slice.ensures.after ∙ counts_set c.args.claims.now m (record { count = 0 }) in
    rw c.in-Some.is (
    counts_set c.cut_in_order-left.new.shares m c.add.result
    ∙ ap (λ xs. set xs m c.add.result.count) (c.cut_in_order-left.ensures.filled ∙ ap (λ xs. in_order xs c.sub.result.count) none)
    ∙ ap (λ x. set (in_order (set cs m 0) x) m c.add.result.count) c.sub.ensures
    ∙ ap (λ x. set (in_order (set cs m 0) (a - first)) m x) c.add.ensures
    ∙ marked_written cs a m c.args.guarantee.count first left last (omega arith) (omega (arith, c.cut_in_order-left.ensures.rest, ap sum none)) (omega arith))
