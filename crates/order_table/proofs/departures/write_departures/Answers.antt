use Rattle.std.proofs.Common.{◌<◌, ltb, map, length, Some, None, filter, sym, refl, arith}
use lib.ListN.{length-map}
use Rattle.std.proofs.lemmas.List.Sums.{length-filter}
use Rattle.std.proofs.lemmas.Bool.{cond-true, lt-ltb}
use Rattle.book.specs.Filters.{passes}
use Rattle.order_table.specs.Departures.{departure_row}
use Rattle.order_table.proofs.departures.write_departures.Goals as goal

pub returns-then-rows-count : goal.returns-then-rows-count
returns-then-rows-count c =
    let a = c.args in
    let p = passes a.filter in
    let rs = map (departure_row a.departure) (filter p a.orders.now) in
    let few : length a.rows.now < length rs = omega (arith, length-map (filter p a.orders.now) (departure_row a.departure), length-filter p a.orders.now, c.count-count.ensures, c.if-rows-count.true) in
    record {
      answer_is = sym (cond-true (ltb (length a.rows.now) (length rs)) (Some 7) None (lt-ltb (length a.rows.now) (length rs) few));
      rows_are = refl;
    }
