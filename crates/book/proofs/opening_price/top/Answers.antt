use Rattle.std.proofs.Common.{arith}
use Rattle.book.proofs.BestFound.{top_none, top_some}
use Rattle.book.proofs.opening_price.top.Goals as goal

pub returns-then-best-gt0 : goal.returns-then-best-gt0
returns-then-best-gt0 c = top_some c.args.orders.now _ c.build.ensures c.build-2.ensures c.find_best-best.result c.find_best-best.ensures.rated c.find_best-best.ensures.price (omega arith)

pub returns-else-best-gt0 : goal.returns-else-best-gt0
returns-else-best-gt0 c = top_none c.args.orders.now _ c.build.ensures c.build-2.ensures c.find_best-best.result c.find_best-best.ensures.rated c.find_best-best.ensures.price (omega arith)
