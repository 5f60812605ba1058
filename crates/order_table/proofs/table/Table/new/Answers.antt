use Rattle.std.proofs.Common.{◌≡◌, true, sym, subst}
use Rattle.std.specs.List.{AllByRecursion}
use Rattle.market.specs.declared.order.Order.{Order}
use Rattle.order_table.specs.Records.{priced}
use Rattle.order_table.proofs.Records.{all_priced}
use Rattle.order_table.proofs.table.Table.new.Goals as goal

pub invariant_of-result : goal.invariant_of-result
invariant_of-result c = record { prices = all_priced c.new.result (subst (AllByRecursion (λ (o : Order). priced o ≡ true)) (sym c.new.ensures.empty) tt) }
