use Rattle.std.proofs.Common.{◌+◌, arith}
use Rattle.book.specs.Rungs.{rungs}
use Rattle.book.proofs.Walking.{lower_le}
use Rattle.book.proofs.opening_price.search.Opening.rate.Goals as goal

pub overflow_sub-demand : goal.overflow_sub-demand
overflow_sub-demand c =
    let l = c.args.self.now.buys in
    omega (arith, lower_le (rungs l) c.args.price, l.summed, c.requires.buys)

pub overflow_add-supply : goal.overflow_add-supply
overflow_add-supply c =
    let l = c.args.self.now.sells in
    omega (arith, lower_le (rungs l) (c.args.price + 1), l.summed, l.light, c.requires.sells)
