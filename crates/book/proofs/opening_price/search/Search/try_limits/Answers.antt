use Rattle.std.proofs.Common.{◌-◌, sym, ◌∙◌}
use borrow.Rule.Slice.PartMut.{mid_of}
use Rattle.book.proofs.Searching.{trying_next, trying_same}
use Rattle.book.proofs.opening_price.search.Search.try_limits.Goals as goal
use Rattle.book.proofs.opening_price.search.Search.try_limits.Goals.{then-ne, else-ne}

pub loop-step-preserved : goal.loop-step-preserved
loop-step-preserved c =
    let l = c.args.ladder.now in
    let xs = mid_of l.first (161 - l.first) l.steps in
    let t = c.loop-step in
    let lt = c.loop-step-test.true in
    elim c.if-ne.branch [
      | then-ne w ↦ rw (w.best-is, w.last-is) (trying_next c.args.side xs c.args.self t.best t.last t.step-index t.invariant lt (sym c.ne.ensures ∙ w.if-ne.true) w.try_beside-best.result w.try_beside-best.ensures)
      | else-ne w ↦ rw (w.best-is, w.last-is) (trying_same c.args.side xs c.args.self t.best t.last t.step-index t.invariant lt (sym c.ne.ensures ∙ w.if-ne.false))
    ]
