use Rattle.std.proofs.Common.{◌-◌, ◌≤◌, length, drop, count_by, refl, ap, arith}
use Rattle.std.proofs.lemmas.List.{length-drop, length-take}
use Rattle.book.specs.Filters.{passes}
use Rattle.book.specs.declared.select.Filter.TheVariants.{Outside}
use Rattle.series.proofs.Finishing.{outside_few, finished_so}
use Rattle.series.proofs.series.finish.finish_auction.Goals as goal

pub write_withdrawals-withdrawn-requires : goal.write_withdrawals-withdrawn-requires
write_withdrawals-withdrawn-requires g c =
    let a = c.args in
    let k = c.take_in_bounds-taken in
    let between = k.new.rows in
    let from = k.result.rows in
    let few = outside_few (g.R.SharingRule.shared a.rule.now) a.auction a.table.now k.new.table c.keep.new.self a.rows.now between k.result c.customer_taker.result c.customer_taker.ensures k.ensures.took c.keep.ensures.records in
    omega (arith, few, c.requires.others, ap (count_by (passes Outside)) c.live.ensures.is, k.ensures.took.few, c.requires.claims, c.requires.room, k.auto.rows, length-take (length between - from) (drop from between), length-drop from between)

pub returns : goal.returns
returns g c =
    let a = c.args in
    let k = c.take_in_bounds-taken in
    let w = c.write_withdrawals-withdrawn in
    let inside : k.result.rows ≤ length k.new.rows = omega (arith, k.ensures.took.few, c.requires.claims, c.requires.room, k.auto.rows) in
    finished_so (g.R.SharingRule.shared a.rule.now) a.auction a.table.now k.new.table c.keep.new.self a.rows.now k.new.rows k.result c.customer_taker.result c.customer_taker.ensures k.ensures.took c.keep.ensures.records c.keep-2.new.self c.live.result.now w.new.rows _ w.result
    c.keep.ensures.numbers c.live.ensures.is inside w.ensures.counted w.ensures.written refl c.keep-2.ensures.records c.keep-2.ensures.numbers
