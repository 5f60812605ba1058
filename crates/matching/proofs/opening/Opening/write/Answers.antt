use Rattle.std.proofs.Common.{length, arith}
use Rattle.market.specs.declared.order.Side.TheVariants.{Buy, Sell}
use Rattle.matching.proofs.Opened.{both_few, listed_few}
use Rattle.matching.proofs.opening.Opening.write.Goals as goal

pub pair-requires : goal.pair-requires
pair-requires g c =
    let self = c.args.self.now in
    let os = self.orders.now in
    let p = self.price.value in
    let rule = g.R.SharingRule.shared c.args.rule.now in
    let buyers = c.fill_side-buyer in
    let sellers = c.fill_side-seller in
    let bs = listed_few rule os p Buy buyers.new.traders buyers.result (length os) buyers.ensures.listed in
    let ss = listed_few rule os p Sell sellers.new.traders sellers.result (length os) sellers.ensures.listed in
    omega (arith, bs, ss, both_few p os, c.requires.rows_fit)
