use Rattle.std.proofs.Common.{ℕ, List, [], ◌∷◌, ap, ◌∙◌, subst}
use Rattle.book.specs.Candidates.{below}
use Rattle.book.specs.Search.{Tried}
use Rattle.book.proofs.Searching.{tried_then}
use Rattle.book.proofs.opening_price.search.Search.try_close.Goals as goal

pub returns : goal.returns
returns c =
    let s = c.args.self in
    let e = c.floor-middle.ensures in
    let two = tried_then s c.try_price-first.result c.try_price-second.result _ _ c.try_price-first.ensures c.try_price-second.ensures in
    let all = tried_then s c.try_price-second.result c.try_price.result _ _ two c.try_price.ensures in
    subst (λ (cs : List ℕ). Tried s c.try_price.result cs) (λ t. (c.below.ensures ∙ ap below e) t ∷ e t ∷ c.next.ensures t ∷ []) all
