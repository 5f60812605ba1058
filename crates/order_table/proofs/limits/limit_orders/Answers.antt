use Rattle.std.proofs.Common.{get_or, set, ap, ◌∙◌, arith}
use Rattle.std.proofs.lemmas.List.Edits.{map_over_more}
use Rattle.std.proofs.lemmas.List.{get_or_default}
use Rattle.rules.specs.Opening.{limited_at}
use Rattle.order_table.proofs.limits.limit_orders.Goals as goal

pub loop-order-preserved : goal.loop-order-preserved
loop-order-preserved c =
    let l = c.loop-order in
    let f = limited_at c.args.price.value in
    ap (set l.orders l.order-index) c.with_limit.ensures
    ∙ map_over_more f c.args.orders.now l.orders l.order-index (get_or l.orders l.order-index _) c.loop-order-test.true l.invariant
    (get_or_default l.orders l.order-index _ _ (omega (arith, c.loop-order-test.true, l.auto.orders)))
