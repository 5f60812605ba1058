use Rattle.std.proofs.Common.{count_by, sym, ap, ◌∙◌, arith}
use Rattle.std.proofs.lemmas.List.{take_all}
use Rattle.std.proofs.lemmas.List.Sums.{count_by_more_yes, count_by_more_no}
use Rattle.book.specs.Filters.{passes}
use Rattle.book.specs.Places.{no_order}
use Rattle.book.proofs.select.count.Goals as goal
use Rattle.book.proofs.select.count.Goals.{then-passes, else-passes}

pub loop-order-preserved : goal.loop-order-preserved
loop-order-preserved c =
    let l = c.loop-order in
    let os = c.args.orders.now in
    let p = passes c.args.filter in
    let a = l.invariant.0 in
    let b = l.invariant.1 in
    elim c.if-passes.branch [
      | then-passes w ↦ let m = count_by_more_yes p os l.order-index no_order c.loop-order-test.true (sym w.if-passes.ensures) in (omega (arith, w.total-is), omega (arith, w.total-is))
      | else-passes w ↦ let m = count_by_more_no p os l.order-index no_order c.loop-order-test.true (sym w.if-passes.ensures) in (omega (arith, w.total-is), omega (arith, w.total-is))
    ]

pub returns : goal.returns
returns c = c.loop-order.invariant.0 ∙ ap (count_by (passes c.args.filter)) (take_all c.loop-order.order-index c.args.orders.now c.loop-order-test.false)
