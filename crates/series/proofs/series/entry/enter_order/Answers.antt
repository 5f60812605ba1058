use Rattle.std.proofs.Common.{◌≤◌, count_by, ap, arith}
use Rattle.market.specs.Words.{or_else, price_of}
use Rattle.rules.specs.Prices.{cents, reaches}
use Rattle.order_table.specs.Orders.{orders}
use Rattle.book.specs.Records.{booked}
use Rattle.series.specs.Entering.{reachable, entry_fill}
use Rattle.series.specs.Remainders.{standing_orders, returning_rows}
use Rattle.series.proofs.Entering.{reachable_few, booked_left, remainder_fits, took_within, admitted}
use Rattle.series.proofs.series.entry.enter_order.Goals as goal

pub take_in_bounds-taken-requires : goal.take_in_bounds-taken-requires
take_in_bounds-taken-requires g c =
    let few = reachable_few c.args.order.side c.bound-reach.result (orders c.args.table.now) in
    let room = c.requires.order.room in
    record { claims = omega arith; rows_fit = omega (arith, c.requires.room); amounts = omega (arith, c.requires.order.size); guarantees = omega arith }

pub place_remainder-requires : goal.place_remainder-requires
place_remainder-requires g c =
    let a = c.args in
    let o = a.order in
    let best = cents a.best in
    let end = a.end.count in
    let t = a.table.now in
    let os = orders t in
    let k = c.take_in_bounds-taken in
    let middle = k.new.table in
    let rule = g.R.SharingRule.shared a.rule.now in
    let took = took_within rule o best end t middle a.rows.now k.new.rows k.result c.bound-reach.result c.price.result c.price.ensures c.bound-reach.ensures k.ensures.took in
    let fewer : count_by booked (orders middle) ≤ count_by booked os = omega (arith, ap (count_by booked) took.left, booked_left (reachable rule os o best end) (entry_fill rule os o best end) os) in
    let few : k.result.rows ≤ count_by booked os = omega (arith, k.ensures.took.few, reachable_few o.side c.bound-reach.result os) in
    let left : c.sub-left.result.count ≤ o.size.count = omega (arith, c.sub-left.ensures) in
    record {
      room = omega (arith, few, k.auto.rows, c.requires.room, c.requires.order.room);
      numbers = omega (arith, took.numbers, c.requires.order.numbers);
      admissible =
          remainder_fits o t c.requires.order (orders middle) middle.records.next took.numbers fewer (standing_orders c.remainder_of-remainder.result) c.sub-left.result.count o.account (reaches o.side (price_of o.kind) best) (or_else best 0) end
          c.remainder_of-remainder.ensures.orders left c.requires.best;
    }

pub returns : goal.returns
returns g c =
    let a = c.args in
    let o = a.order in
    let best = cents a.best in
    let end = a.end.count in
    let t = a.table.now in
    let k = c.take_in_bounds-taken in
    let w = c.place_remainder in
    let r = c.remainder_of-remainder in
    let rule = g.R.SharingRule.shared a.rule.now in
    let took = took_within rule o best end t k.new.table a.rows.now k.new.rows k.result c.bound-reach.result c.price.result c.price.ensures c.bound-reach.ensures k.ensures.took in
    admitted rule o best end t k.new.table a.rows.now k.new.rows k.result took w.new.table w.new.rows (standing_orders r.result) (returning_rows r.result) w.result c.sub-left.result.count
    c.sub-left.ensures r.ensures.orders r.ensures.rows w.ensures.records w.ensures.numbers w.ensures.counted w.ensures.written
