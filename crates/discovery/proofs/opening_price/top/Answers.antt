use Rattle.std.proofs.Common.{◌≡◌, rules}
use Rattle.order_table.specs.Orders.{orders}
use Rattle.rules.specs.Opening as openings
use Rattle.discovery.proofs.opening_price.top.Goals as goal

pub returns-in_err-price : goal.returns-in_err-price
returns-in_err-price c =
    let e : c.top.result ≡ openings.top (orders c.args.table.now) c.args.close.price.value = cc (c.top.ensures, c.live.ensures.is, c.price.ensures) in
    search rules

pub returns : goal.returns
returns c =
    let e : c.top.result ≡ openings.top (orders c.args.table.now) c.args.close.price.value = cc (c.top.ensures, c.live.ensures.is, c.price.ensures) in
    search rules
