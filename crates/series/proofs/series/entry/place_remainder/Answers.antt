use Rattle.std.proofs.Common.{◌≡◌, ℕ, ◌+◌, ◌<◌, List, [], ◌∷◌, ◌++◌, length, take, drop, set, sym, ap, ◌∙◌, rules}
use Rattle.std.proofs.lemmas.List.{take-append-drop, take-set, drop-set}
use Rattle.market.specs.declared.row.Row.{Row}
use Rattle.series.specs.Remainders.{returning_rows}
use Rattle.series.proofs.series.entry.place_remainder.Goals as goal

-- a row written behind others
behind : (rows : List Row) (count : ℕ) (x : Row) → count < length rows → set rows count x ≡ take count rows ++ (x ∷ drop (count + 1) rows)
behind rows count x lt = sym (take-append-drop count (set rows count x)) ∙ (λ i. take-set rows count x i ++ drop-set rows count x lt i)

pub returns-in-Some-Returned-clause-written : goal.returns-in-Some-Returned-clause-written
returns-in-Some-Returned-clause-written c =
    let rows = c.args.rows.now in
    let count = c.args.count in
    let x = c.in-Some-Returned.row in
    let returned : returning_rows c.args.remainder ≡ x ∷ [] = search rules in
    behind rows count x c.requires.room ∙ ap (λ (xs : List Row). take count rows ++ (xs ++ drop (count + 1) rows)) (sym returned)
