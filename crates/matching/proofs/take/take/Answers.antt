use Rattle.std.proofs.Common.{◌≤◌, min, length, filter, sym, ap, ◌∙◌, arith, rules}
use Rattle.std.proofs.lemmas.List.Sums.{length-filter}
use Rattle.sharing.proofs.Counts.{length_counts}
use Rattle.book.specs.Filters.{passes}
use Rattle.book.specs.Settling.{settled_up_to}
use Rattle.book.proofs.Records.{live_upto}
use Rattle.book.proofs.Takings.{taker_left, taker_traded}
use Rattle.order_table.specs.Orders.{next_number}
use Rattle.matching.proofs.Bounds.{taking_bounds}
use Rattle.matching.proofs.take.take.Goals as goal

pub take_fills-count-requires-clause-live : goal.take_fills-count-requires-clause-live
take_fills-count-requires-clause-live g c = live_upto c.live-orders.result.now (next_number c.args.table.now) c.live-orders.ensures.kept

pub take_fills-count-requires-clause-few : goal.take_fills-count-requires-clause-few
take_fills-count-requires-clause-few g c =
    let os = c.live-orders.result.now in
    let p = passes c.args.filter in
    let b = taking_bounds os p c.args.taker.taking (length c.args.rows.now) c.in_ok-check_taking.ensures in
    omega (arith, length-filter p os, b.claims)

pub take_fills-count-requires-clause-rows_fit : goal.take_fills-count-requires-clause-rows_fit
take_fills-count-requires-clause-rows_fit g c =
    let os = c.live-orders.result.now in
    let p = passes c.args.filter in
    let b = taking_bounds os p c.args.taker.taking (length c.args.rows.now) c.in_ok-check_taking.ensures in
    omega (arith, length-filter p os, b.rows_fit)

pub returns : goal.returns
returns g c =
    let a = c.args in
    let p = passes a.filter in
    let t = a.taker in
    let os = c.live-orders.result.now in
    let is = c.live-orders.ensures.is in
    let back = sym is in
    let rule = g.R.SharingRule.shared a.rule.now in
    let lawful = g.met.R.SharingRule.lawful a.rule.now in
    let w = c.take_fills-count in
    let n = length a.rows.now in
    let b = taking_bounds os p t.taking n c.in_ok-check_taking.ensures in
    let live = live_upto os (next_number a.table.now) c.live-orders.ensures.kept in
    let few : length (filter p os) ≤ 160 = omega (arith, length-filter p os, b.claims) in
    record {
      answer_is = rw (← is) c.in_ok-check_taking.ensures;
      done = record {
        counted = rw (← is) w.ensures.counted;
        written = rw (← is) w.ensures.written;
        few = rw (← is) (omega (arith, w.ensures.few, length-filter p os));
        left = rw (← is)
            (c.settle.ensures.records ∙ (λ i. settled_up_to p (back i) (w.ensures.filled i)) ∙ taker_left rule lawful os p t live few b.amounts b.guarantees _ (search (rules, length_counts)));
        numbers = c.settle.ensures.numbers;
        traded = rw (← is) (c.min-traded.ensures ∙ ap (min t.taking.amount.count) c.volume.ensures ∙ taker_traded rule lawful os p t live few b.amounts b.guarantees);
      };
    }
