use Rattle.std.proofs.Common.{eqb, ◌∙◌, rules, tests}
use Rattle.std.proofs.lemmas.Iterator.{YieldsList-from_slice}
use Rattle.std.proofs.lemmas.Iterator.Search.{position_from_yields_List}
use Rattle.book.specs.Places.{at}
use Rattle.book.proofs.Finding.{place_is}
use Rattle.book.proofs.allocation.place_of.Goals as goal

pub returns : goal.returns
returns c =
    let a = c.args in
    position_from_yields_List (λ r. eqb (at a.orders.now r).number a.number) _ _ c.position.result c.position.ensures.ran (YieldsList-from_slice a.ranked.now cc) (λ x b q k. search (rules, tests))
    ∙ place_is a.number a.orders.now a.ranked.now
