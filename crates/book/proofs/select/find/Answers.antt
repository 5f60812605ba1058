use Rattle.std.proofs.Common.{◌∙◌, rules, tests}
use Rattle.std.proofs.lemmas.Iterator.{YieldsList-from_slice}
use Rattle.std.proofs.lemmas.Iterator.Search.{find_from_yields_List}
use Rattle.book.specs.Filters.{passes}
use Rattle.book.proofs.Walks.{found_is}
use Rattle.book.proofs.select.find.Goals as goal

pub returns : goal.returns
returns c =
    c.copied.ensures
    ∙ find_from_yields_List (passes c.args.filter) _ _ c.find.result c.find.ensures.ran (YieldsList-from_slice c.args.orders.now cc) (λ x b q k. search (rules, tests))
    ∙ found_is (passes c.args.filter) c.args.orders.now
