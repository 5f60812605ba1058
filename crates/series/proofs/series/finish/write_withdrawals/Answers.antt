use Rattle.std.proofs.Common.{map, filter, arith}
use Rattle.std.proofs.lemmas.List.{length-map}
use Rattle.std.proofs.lemmas.List.Sums.{length-filter}
use Rattle.rules.specs.Calls.{withdrawn_row}
use Rattle.book.specs.Filters.{passes}
use Rattle.book.specs.declared.select.Filter.TheVariants.{Outside}
use Rattle.series.proofs.Leaving.{fits}
use Rattle.series.proofs.series.finish.write_withdrawals.Goals as goal

pub unwrap-requires : goal.unwrap-requires
unwrap-requires c =
    let os = c.args.orders.now in
    let gone = filter (passes Outside) os in
    fits (map withdrawn_row gone) c.args.rows.now c.write_departures.new.rows c.write_departures.result (omega (arith, length-map gone withdrawn_row, length-filter (passes Outside) os, c.requires)) c.write_departures.ensures
