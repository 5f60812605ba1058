use Rattle.std.proofs.Common.{min, ap, ◌∙◌, rules}
use Rattle.sharing.proofs.Counts.{length_counts}
use Rattle.book.specs.Filters.{passes}
use Rattle.book.specs.Settling.{settled_up_to}
use Rattle.book.proofs.Takings.{taker_left, taker_traded}
use Rattle.book.proofs.take.take.Goals as goal

pub returns-clause-left : goal.returns-clause-left
returns-clause-left g c =
    let p = passes c.args.filter in
    let os = c.args.orders.now in
    let h = c.requires in
    c.settle.ensures.front
    ∙ ap (settled_up_to p os) c.take_fills-count.ensures.filled
    ∙ taker_left (g.R.SharingRule.shared c.args.rule.now) (g.met.R.SharingRule.lawful c.args.rule.now) os p c.args.taker h.live h.few h.amounts h.guarantees _ (search (rules, length_counts))

pub returns-clause-traded : goal.returns-clause-traded
returns-clause-traded g c =
    let h = c.requires in
    c.min.ensures
    ∙ ap (min c.args.taker.taking.amount.count) c.volume.ensures
    ∙ taker_traded (g.R.SharingRule.shared c.args.rule.now) (g.met.R.SharingRule.lawful c.args.rule.now) c.args.orders.now (passes c.args.filter) c.args.taker h.live h.few h.amounts h.guarantees
