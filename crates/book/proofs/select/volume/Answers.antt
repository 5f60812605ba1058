use Rattle.std.proofs.Common.{◌+◌, sum_by, filter, sym, ap, ◌∙◌, arith}
use Rattle.std.proofs.lemmas.List.{take_all}
use Rattle.market.specs.Words.{standing}
use Rattle.book.specs.Filters.{passes}
use Rattle.book.proofs.Walks.{kept_sum_yes, kept_sum_no, kept_sum_small}
use Rattle.book.proofs.select.volume.Goals as goal
use Rattle.book.proofs.select.volume.Goals.{then-passes, else-passes}

pub overflow_add-sum : goal.overflow_add-sum
overflow_add-sum c =
    let l = c.loop-order in
    let os = c.args.orders.now in
    let p = passes c.args.filter in
    let a = l.invariant in
    omega (arith, kept_sum_yes p standing os l.order-index c.loop-order-test.true (sym c.if-passes.ensures), kept_sum_small p os (l.order-index + 1) c.requires.few c.requires.small)

pub loop-order-preserved : goal.loop-order-preserved
loop-order-preserved c =
    let l = c.loop-order in
    let os = c.args.orders.now in
    let p = passes c.args.filter in
    let a = l.invariant in
    elim c.if-passes.branch [
      | then-passes w ↦ omega (arith, w.sum-is, kept_sum_yes p standing os l.order-index c.loop-order-test.true (sym w.if-passes.ensures))
      | else-passes w ↦ omega (arith, w.sum-is, kept_sum_no p standing os l.order-index c.loop-order-test.true (sym w.if-passes.ensures))
    ]

pub returns : goal.returns
returns c = c.loop-order.invariant ∙ ap (λ os. sum_by standing (filter (passes c.args.filter) os)) (take_all c.loop-order.order-index c.args.orders.now c.loop-order-test.false)
