use Rattle.std.proofs.Common.{◌≡◌, true, filter, sym, subst}
use Rattle.std.specs.List.{AllByRecursion}
use Rattle.std.proofs.ByRecursion.{all_kept_by}
use Rattle.market.specs.declared.order.Order.{Order}
use Rattle.book.specs.Filters.{passes}
use Rattle.order_table.specs.Orders.{orders}
use Rattle.order_table.specs.Records.{priced}
use Rattle.order_table.proofs.Records.{all_priced, table_priced}
use Rattle.order_table.proofs.table.Table.keep.Goals as goal

pub invariant_of-self : goal.invariant_of-self
invariant_of-self c =
    let t = c.args.self.now in
    let p = passes c.args.filter in
    record { prices = all_priced c.keep.new.self (subst (AllByRecursion (λ (o : Order). priced o ≡ true)) (sym c.keep.ensures.records) (all_kept_by p (λ (o : Order). priced o ≡ true) (orders t) (table_priced t))) }
