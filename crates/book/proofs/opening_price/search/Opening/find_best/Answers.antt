use Rattle.std.proofs.Common.{fold, None, ◌++◌, ◌∙◌}
use Rattle.market.specs.declared.order.Side.TheVariants.{Buy, Sell}
use Rattle.book.specs.Candidates.{around}
use Rattle.book.specs.Rating.{better_on}
use Rattle.book.specs.Rungs.{rungs}
use Rattle.book.specs.Search.{beside_steps}
use Rattle.book.proofs.Searching.{tried_then}
use Rattle.book.proofs.opening_price.search.Opening.find_best.Goals as goal

pub returns-clause-price : goal.returns-clause-price
returns-clause-price c =
    let i = c.args.self.now in
    let start = c.begin.result in
    let e = c.begin.ensures in
    let two = tried_then start c.try_close-around_close.result c.try_limits-beside_buys.result _ _ c.try_close-around_close.ensures c.try_limits-beside_buys.ensures in
    let all = tried_then start c.try_limits-beside_buys.result c.try_limits-beside_sells.result _ _ two c.try_limits-beside_sells.ensures in
    all.best ∙ (λ t. fold (better_on (e.opening t)) (e.price t) (around (e.opening t).close.value ++ beside_steps Buy None (rungs i.buys) ++ beside_steps Sell None (rungs i.sells)))
