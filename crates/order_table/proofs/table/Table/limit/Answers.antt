use Rattle.std.proofs.Common.{◌≡◌, true, ◌≤◌, map, sym, ap, ◌∙◌, subst, subst₂, arith}
use Rattle.std.specs.List.{AllByRecursion}
use Rattle.market.specs.declared.order.Order.{Order}
use Rattle.book.specs.Records.{Live}
use Rattle.rules.specs.Opening.{limited_at}
use Rattle.order_table.specs.Orders.{orders, next_number}
use Rattle.order_table.specs.Records.{priced}
use Rattle.order_table.proofs.Records.{all_priced, live_limited, priced_limited, table_live, table_priced}
use Rattle.order_table.proofs.table.Table.limit.Goals as goal

pub replace-requires : goal.replace-requires
replace-requires c =
    let t = c.args.self.now in
    let p = c.args.price.value in
    let e : c.limit_orders.new.orders ≡ map (limited_at p) (orders t) = c.limit_orders.ensures ∙ ap (map (limited_at p)) (c.copy_from_slice.ensures.after ∙ c.live-2.ensures.is) in
    record { live = subst₂ Live (sym e) (sym c.next-next.ensures) (live_limited p (orders t) (next_number t) (table_live t)) }

pub invariant_of-self : goal.invariant_of-self
invariant_of-self c =
    let t = c.args.self.now in
    let p = c.args.price.value in
    let le : p ≤ 99999 = omega arith in
    let e : c.limit_orders.new.orders ≡ map (limited_at p) (orders t) = c.limit_orders.ensures ∙ ap (map (limited_at p)) (c.copy_from_slice.ensures.after ∙ c.live-2.ensures.is) in
    record { prices = all_priced c.replace.new.self (subst (AllByRecursion (λ (o : Order). priced o ≡ true)) (sym (c.replace.ensures.records ∙ e)) (priced_limited p le (orders t) (table_priced t))) }
