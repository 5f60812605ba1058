use Rattle.std.proofs.Common.{map, length, None, filter, ap, ◌∙◌, arith, rules}
use Rattle.rules.specs.Allocation.{by_priority, fill}
use Rattle.rules.specs.Opening.{opening_fill}
use Rattle.book.specs.Pairing.{filled_pair}
use Rattle.book.proofs.Records.{live_small, rising_from}
use Rattle.book.proofs.Takings.{rest_inside}
use Rattle.matching.specs.Matching.{wills}
use Rattle.matching.proofs.Bounds.{rest_written}
use Rattle.matching.proofs.Listing.{rest_listed}
use Rattle.matching.proofs.Opened.{each_few, matched_small}
use Rattle.matching.proofs.opening.Opening.fill_side.Goals as goal

pub allocate-start-requires-clause-rising : goal.allocate-start-requires-clause-rising
allocate-start-requires-clause-rising g c =
    let self = c.args.self.now in
    rising_from 0 self.orders.now 65536 self.live.rising

pub allocate-start-requires-clause-small : goal.allocate-start-requires-clause-small
allocate-start-requires-clause-small g c =
    let self = c.args.self.now in
    live_small self.orders.now 65536 self.live

pub allocate-start-requires-clause-few : goal.allocate-start-requires-clause-few
allocate-start-requires-clause-few g c =
    let self = c.args.self.now in
    omega (arith, each_few (wills c.args.side self.price.value) self.orders.now, self.few)

pub allocate-start-requires-clause-amounts : goal.allocate-start-requires-clause-amounts
allocate-start-requires-clause-amounts g c =
    let self = c.args.self.now in
    omega (arith, self.opens, matched_small self.orders.now self.price.value self.live self.few)

pub list_fills-requires-clause-places : goal.list_fills-requires-clause-places
list_fills-requires-clause-places g c =
    let self = c.args.self.now in
    let os = self.orders.now in
    let a = c.allocate-start in
    rest_inside (wills c.args.side self.price.value) os a.new.ranked a.result (length os) (search rules) a.ensures.ranked (length os) (omega arith)

pub scatter-requires-clause-places : goal.scatter-requires-clause-places
scatter-requires-clause-places g c =
    let self = c.args.self.now in
    let os = self.orders.now in
    let a = c.allocate-start in
    rest_inside (wills c.args.side self.price.value) os a.new.ranked a.result (length os) (search rules) a.ensures.ranked (length c.args.fills.now) (omega arith)

pub returns-clause-listed : goal.returns-clause-listed
returns-clause-listed g c =
    let self = c.args.self.now in
    let os = self.orders.now in
    let rule = g.R.SharingRule.shared c.args.rule.now in
    let p = wills c.args.side self.price.value in
    let kept = filter p os in
    let a = c.allocate-start in
    let shared = a.ensures.shares ∙ ap (λ q. map (fill rule kept q None 0) (by_priority kept)) self.opens in
    ap (map filled_pair) (rest_written c.args.traders.now c.list_fills.new.filled a.result (length os) a.ensures.within c.requires.traders_fit)
    ∙ c.list_fills.ensures
    ∙ rest_listed p os a.new.ranked a.result (length os) (search rules) a.ensures.ranked (opening_fill rule os self.price.value c.args.side) a.new.shares (search rules) shared
