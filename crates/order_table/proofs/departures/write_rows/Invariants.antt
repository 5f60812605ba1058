use Rattle.std.proofs.Common.{map, length, drop, filter}
use Rattle.order_table.specs.Departures.{departure_row}
use Rattle.book.specs.Filters.{passes}
use Rattle.order_table.proofs.Writing.{Writing}
use Rattle.order_table.proofs.departures.write_rows.Given as goal

abbrev pub invariant-loop-i : goal.invariant-loop-i
invariant-loop-i l =
    Writing (map (departure_row l.departure) (filter (passes l.fn.filter) l.orders)) l.initial.rows
    (map (departure_row l.departure) (drop (length l.yielded) (filter (passes l.fn.filter) l.orders))) l.rows (length l.yielded)
