use Rattle.std.proofs.Common.{◌≡◌, true, sym, subst}
use Rattle.std.specs.List.{AllByRecursion}
use Rattle.market.specs.declared.order.Order.{Order}
use Rattle.order_table.specs.Records.{priced}
use Rattle.order_table.proofs.Records.{all_priced, table_priced}
use Rattle.order_table.proofs.table.Table.skip_number.Goals as goal

pub invariant_of-self : goal.invariant_of-self
invariant_of-self c = record { prices = all_priced c.skip_number.new.self (subst (AllByRecursion (λ (o : Order). priced o ≡ true)) (sym c.skip_number.ensures.records) (table_priced c.args.self.now)) }
