use Rattle.std.proofs.Common.{◌-◌, leb, map, length, take, None, filter, sym, ap, ◌∙◌, arith, rules}
use Rattle.std.proofs.lemmas.Bool.{cond-true, le-leb}
use Rattle.rules.specs.Opening.{limited_at}
use Rattle.rules.specs.Volume.{matched_volume, of_order}
use Rattle.rules.proofs.Fills.{fill_within}
use Rattle.sharing.specs.Asked.{counts}
use Rattle.sharing.proofs.Counts.{length_counts}
use Rattle.book.specs.Settling.{settled_up_to}
use Rattle.book.proofs.Records.{live_upto}
use Rattle.book.proofs.Takings.{lot_passing}
use Rattle.order_table.specs.Changes.{limited}
use Rattle.order_table.specs.Orders.{next_number}
use Rattle.matching.specs.Matching.{both_filled, wills}
use Rattle.matching.proofs.Bounds.{opening_bounds}
use Rattle.matching.proofs.Opened.{each_few, left_opened, matched_small, own_wills}
use Rattle.matching.proofs.opening.open_at.Goals as goal

pub invariant_of-opening : goal.invariant_of-opening
invariant_of-opening g c =
    let os = c.live-orders.result.now in
    let b = opening_bounds (length os) c.args.price.value (length c.args.rows.now) c.in_ok-check_opening.ensures in
    record {
      live = live_upto os (next_number c.args.table.now) c.live-orders.ensures.kept;
      few = b.claims;
      opens = rw c.live-orders.ensures.is c.matched_volume.ensures;
    }

pub returns : goal.returns
returns g c =
    let a = c.args in
    let p = a.price.value in
    let os = c.live-orders.result.now in
    let is = c.live-orders.ensures.is in
    let back = sym is in
    let rule = g.R.SharingRule.shared a.rule.now in
    let w = c.write-count in
    let n = length os in
    let b = opening_bounds n p (length a.rows.now) c.in_ok-check_opening.ensures in
    let live = live_upto os (next_number a.table.now) c.live-orders.ensures.kept in
    let before = counts (take (n - 0) c.contract_room-room.result) in
    let left = settled_up_to (own_wills rule os p) os (both_filled rule os p before) in
    record {
      answer_is = rw (← is) c.in_ok-check_opening.ensures;
      done = record {
        counted = rw (← is) w.ensures.counted;
        written = rw (← is) w.ensures.written;
        left = rw (← is)
            (c.limit.ensures.records
            ∙ ap (limited p) (c.settle.ensures.records ∙ (λ i. settled_up_to (own_wills rule os p) (back i) (w.ensures.filled i)))
            ∙ cond-true (leb p 99999) (map (limited_at p) left) left (le-leb p 99999 b.price)
            ∙ left_opened rule os p before (search (rules, length_counts))
            (λ s. fill_within rule (g.met.R.SharingRule.lawful a.rule.now) (filter (wills s p) os) (matched_volume of_order os p) None 0 (lot_passing (wills s p) os live (omega (arith, each_few (wills s p) os))) (matched_small os p live b.claims) (omega arith)));
        numbers = c.limit.ensures.numbers ∙ c.settle.ensures.numbers;
      };
    }
