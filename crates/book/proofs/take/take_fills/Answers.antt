use Rattle.std.proofs.Common.{◌++◌, length, drop, ap, ◌∙◌, arith, rules}
use Rattle.book.specs.Filters.{passes}
use Rattle.book.specs.Taking.{taker_fill}
use Rattle.book.proofs.Records.{live_small, rising_from}
use Rattle.book.proofs.Takings.{rest_inside, rest_long, rest_rows}
use Rattle.book.proofs.take.take_fills.Goals as goal

pub allocate-start-requires-clause-rising : goal.allocate-start-requires-clause-rising
allocate-start-requires-clause-rising g c = rising_from 0 c.args.orders.now 65536 c.requires.live.rising

pub allocate-start-requires-clause-small : goal.allocate-start-requires-clause-small
allocate-start-requires-clause-small g c = live_small c.args.orders.now 65536 c.requires.live

pub scatter-requires-clause-places : goal.scatter-requires-clause-places
scatter-requires-clause-places g c =
    let os = c.args.orders.now in
    let a = c.allocate-start in
    rest_inside (passes c.args.filter) os a.new.ranked a.result (length os) (search rules) a.ensures.ranked (length c.args.fills.now) (omega arith)

pub write_trades-requires-clause-places : goal.write_trades-requires-clause-places
write_trades-requires-clause-places g c =
    let os = c.args.orders.now in
    let a = c.allocate-start in
    rest_inside (passes c.args.filter) os a.new.ranked a.result (length os) (search rules) a.ensures.ranked (length os) (omega arith)

pub write_trades-requires-clause-room : goal.write_trades-requires-clause-room
write_trades-requires-clause-room g c =
    let os = c.args.orders.now in
    let a = c.allocate-start in
    omega (arith, rest_long (passes c.args.filter) os a.new.ranked a.result (length os) (search rules) a.ensures.ranked, c.requires.rows_fit)

pub returns-clause-counted : goal.returns-clause-counted
returns-clause-counted g c =
    let os = c.args.orders.now in
    let p = passes c.args.filter in
    let t = c.args.taker in
    let a = c.allocate-start in
    let f = taker_fill (g.R.SharingRule.shared c.args.rule.now) os p t in
    c.write_trades.ensures.counted
    ∙ ap length (rest_rows p os a.new.ranked a.result (length os) (search rules) a.ensures.ranked f a.new.shares (search rules) a.ensures.shares t.side t.number)

pub returns-clause-written : goal.returns-clause-written
returns-clause-written g c =
    let os = c.args.orders.now in
    let p = passes c.args.filter in
    let t = c.args.taker in
    let a = c.allocate-start in
    let f = taker_fill (g.R.SharingRule.shared c.args.rule.now) os p t in
    c.write_trades.ensures.written
    ∙ ap (λ rs. rs ++ drop c.write_trades.result c.args.rows.now) (rest_rows p os a.new.ranked a.result (length os) (search rules) a.ensures.ranked f a.new.shares (search rules) a.ensures.shares t.side t.number)

pub returns-clause-few : goal.returns-clause-few
returns-clause-few g c =
    let os = c.args.orders.now in
    let a = c.allocate-start in
    omega (arith, c.write_trades.ensures.few, rest_long (passes c.args.filter) os a.new.ranked a.result (length os) (search rules) a.ensures.ranked)
