use Rattle.std.proofs.Common.{length, arith, rules}
use Rattle.std.proofs.lemmas.List.{take_all}
use Rattle.order_table.specs.Orders.{orders}
use Rattle.order_table.proofs.Records.{table_live, table_priced}
use Rattle.order_table.proofs.table.Table.live.Goals as goal

-- The whole of a list as a slice of it is the list, so that a shorter slice is refused for its length.
pub returns-clause-is : goal.returns-clause-is
returns-clause-is c = let whole = take_all (length (orders c.args.self.now)) (orders c.args.self.now) (omega arith) in search rules

pub returns-clause-kept : goal.returns-clause-kept
returns-clause-kept c = let whole = take_all (length (orders c.args.self.now)) (orders c.args.self.now) (omega arith) in let l = table_live c.args.self.now in search rules

pub returns-clause-priced : goal.returns-clause-priced
returns-clause-priced c = let whole = take_all (length (orders c.args.self.now)) (orders c.args.self.now) (omega arith) in let p = table_priced c.args.self.now in search rules
