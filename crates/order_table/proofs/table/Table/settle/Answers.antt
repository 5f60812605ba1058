use Rattle.std.proofs.Common.{◌≡◌, true, ℕ, ◌-◌, List, take, sym, ap, ◌∙◌, subst, subst₂}
use native.Mathlib.Nat.{sub-zero}
use Rattle.std.specs.List.{AllByRecursion}
use Rattle.market.specs.declared.order.Order.{Order}
use Rattle.sharing.specs.Asked.{counts}
use Rattle.book.specs.Filters.{passes}
use Rattle.book.specs.Records.{Live}
use Rattle.book.specs.Settling.{settled_up_to}
use Rattle.book.proofs.Records.{live_settled}
use Rattle.order_table.specs.Orders.{orders, next_number}
use Rattle.order_table.specs.Records.{priced}
use Rattle.order_table.proofs.Records.{all_priced, priced_settled, table_live, table_priced}
use Rattle.order_table.proofs.table.Table.settle.Goals as goal

pub replace-requires : goal.replace-requires
replace-requires c =
    let t = c.args.self.now in
    let n = c.settle-n.result in
    let out = c.settle-n.new.out in
    let p = passes c.args.filter in
    let fills = counts c.args.fills.now in
    let e : take (n - 0) out ≡ settled_up_to p (orders t) fills =
    ap (λ (k : ℕ). take k out) (sub-zero n) ∙ c.settle-n.ensures.front ∙ ap (λ (os : List Order). settled_up_to p os fills) c.live.ensures.is in
    record { live = subst₂ Live (sym e) (sym c.next-next.ensures) (live_settled p (orders t) (next_number t) fills (table_live t)) }

pub invariant_of-self : goal.invariant_of-self
invariant_of-self c =
    let t = c.args.self.now in
    let n = c.settle-n.result in
    let out = c.settle-n.new.out in
    let p = passes c.args.filter in
    let fills = counts c.args.fills.now in
    let e : take (n - 0) out ≡ settled_up_to p (orders t) fills =
    ap (λ (k : ℕ). take k out) (sub-zero n) ∙ c.settle-n.ensures.front ∙ ap (λ (os : List Order). settled_up_to p os fills) c.live.ensures.is in
    record { prices = all_priced c.replace.new.self (subst (AllByRecursion (λ (o : Order). priced o ≡ true)) (sym (c.replace.ensures.records ∙ e)) (priced_settled p (orders t) fills (table_priced t))) }
