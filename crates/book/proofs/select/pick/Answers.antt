use Rattle.std.proofs.Common.{◌≡◌, length, map, filter, ◌∙◌, rules, tests}
use Rattle.std.proofs.lemmas.Iterator.{YieldsList-from_slice}
use Rattle.std.proofs.lemmas.Iterator.Consumers.{YieldsList-at, YieldsList-from_filter, YieldsList-end}
use Rattle.book.specs.Filters.{passes}
use Rattle.book.proofs.select.pick.Goals as goal

-- the loop ran through the orders that pass
all_yielded : (c : goal.In-None) → (map (λ o. o.now) c.loop-order.yielded ≡ filter (passes c.args.filter) c.args.orders.now) × (length c.loop-order.yielded ≡ length (filter (passes c.args.filter) c.args.orders.now))
all_yielded c =
    let l = c.loop-order in
    YieldsList-end
    (YieldsList-at c.into_iter-order-iterator.ensures.into_iter_gives
    (YieldsList-from_filter _ (passes c.args.filter) (YieldsList-from_slice c.args.orders.now cc) c.filter-order-items.ensures.closure (λ x r q k. search (rules, tests))))
    l.yielded l.order-iterator l.yielded_by c.next.result c.next.new.self c.in-None.is c.next.ensures.steps

pub returns-clause-front : goal.returns-clause-front
returns-clause-front c = c.loop-order.invariant.0 ∙ (all_yielded c).0

pub returns-clause-count : goal.returns-clause-count
returns-clause-count c = c.loop-order.invariant.1 ∙ (all_yielded c).1
