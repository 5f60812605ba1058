use Rattle.std.proofs.Common.{ℕ, List, [], ◌∷◌, sym, ap, ◌∙◌, subst}
use Rattle.book.specs.Candidates.{below, beside}
use Rattle.book.specs.Search.{Tried}
use Rattle.book.proofs.Searching.{tried_then}
use Rattle.book.proofs.opening_price.search.Search.try_beside.Goals as goal

pub returns-in-Buy : goal.returns-in-Buy
returns-in-Buy c =
    let s = c.args.self in
    let two = tried_then s c.try_price-willing.result c.try_price.result _ _ c.try_price-willing.ensures c.try_price.ensures in
    subst (λ (cs : List ℕ). Tried s c.try_price.result cs) ((λ t. c.floor.ensures t ∷ c.next.ensures t ∷ []) ∙ ap (λ s. beside s c.args.limit.value) (sym c.in-Buy.is)) two

pub returns-in-Sell : goal.returns-in-Sell
returns-in-Sell c =
    let s = c.args.self in
    let e = c.ceiling-first.ensures in
    let two = tried_then s c.try_price-unwilling.result c.try_price-in-Sell.result _ _ c.try_price-unwilling.ensures c.try_price-in-Sell.ensures in
    subst (λ (cs : List ℕ). Tried s c.try_price-in-Sell.result cs) ((λ t. (c.below.ensures ∙ ap below e) t ∷ e t ∷ []) ∙ ap (λ s. beside s c.args.limit.value) (sym c.in-Sell.is)) two
