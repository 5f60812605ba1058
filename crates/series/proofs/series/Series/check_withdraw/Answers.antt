use Rattle.std.proofs.Common.{◌≡◌, IfOk, Some, None, Option, Result, refl, sym, ap, subst, ◌∙◌}
use Rattle.std.specs.Option.{ok_or}
use Rattle.market.specs.declared.order.Order.{Order}
use Rattle.market.specs.declared.refusal.Refusal.{Refusal}
use Rattle.market.specs.declared.refusal.Refusal.TheVariants.{NoSuchOrder}
use Rattle.rules.specs.Series.{found, book_order}
use Rattle.order_table.specs.Orders.{orders}
use Rattle.series.proofs.series.Series.check_withdraw.Goals as goal

value_of : (x : Option Order) (e : Refusal) → IfOk (ok_or x e) (λ o. x ≡ Some o)
value_of (Some o) e = refl
value_of None e = tt

pub returns-clause-order : goal.returns-clause-order
returns-clause-order g c =
    let os = orders c.args.self.now.table in
    let mine = book_order c.args.member c.args.order in
    let is = c.find.ensures ∙ ap (found mine) c.live.ensures.is in
    subst (λ (r : Result Order Refusal). IfOk r (λ o. found mine os ≡ Some o)) (sym (c.ok_or.ensures.value ∙ ap (λ (x : Option Order). ok_or x NoSuchOrder) is)) (value_of (found mine os) NoSuchOrder)
