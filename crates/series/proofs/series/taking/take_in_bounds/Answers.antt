use Rattle.std.proofs.Common.{filter, arith, rules}
use Rattle.std.proofs.lemmas.List.Sums.{length-filter}
use Rattle.matching.specs.Taking.{Took}
use Rattle.rules.proofs.Fills.{fill_whole}
use Rattle.book.specs.Filters.{passes}
use Rattle.order_table.specs.Orders.{orders}
use Rattle.book.proofs.Records.{live_upto}
use Rattle.order_table.proofs.Records.{table_live}
use Rattle.book.proofs.Takings.{lot_passing}
use Rattle.series.proofs.series.taking.take_in_bounds.Goals as goal

pub returns-clause-within : goal.returns-clause-within
returns-clause-within g c =
    let a = c.args in
    let p = passes a.filter in
    let t = a.table.now in
    let os = orders t in
    let taking = a.taker.taking in
    let rule = g.R.SharingRule.shared a.rule.now in
    let took : Took rule p a.taker t c.take.new.table a.rows.now c.take.new.rows c.unwrap.result = search rules in
    let lot = lot_passing p os (live_upto os t.records.next (table_live t)) (omega (arith, length-filter p os, c.requires.claims)) in
    let whole = fill_whole rule (g.met.R.SharingRule.lawful a.rule.now) (filter p os) taking.amount.count taking.marked taking.guarantee.count lot c.requires.amounts c.requires.guarantees in
    omega (arith, took.traded, whole)
