-- The rows of orders that leave without a trade.
use Rattle.std.specs.Prelude.{◌≡◌, ℕ, List, [], ◌∷◌, ◌++◌, length, drop, Result, MatchResult, nat_lt}
use Rattle.market.specs.Refusals.{refused_by, first_hit}
use Rattle.market.specs.declared.order.Order.{Order}
use Rattle.market.specs.declared.refusal.Refusal.{Refusal}
use Rattle.market.specs.declared.row.Row.{Row}
use Rattle.rules.specs.Calls.{withdrawn_row, exposure_row}
use Rattle.order_table.specs.declared.departures.Departure.{Departure}
use Rattle.order_table.specs.declared.departures.Departure.TheVariants.{Withdrawal, ExposureEnd}

-- the row of an order that leaves so
abbrev pub departure_row : Departure → Order → Row
departure_row Withdrawal o = withdrawn_row o
departure_row ExposureEnd o = exposure_row o

-- rows written to the front of lent memory, further rows untouched; refused by 7, and nothing written, where they do not fit
pub record Wrote (rows before after : List Row) (answer : Result ℕ Refusal) : Type 0 where
  pub answer_is : refused_by answer ≡ first_hit ((7, nat_lt (length before) (length rows)) ∷ [])
  pub rows_are : MatchResult answer (λ n. (n ≡ length rows) × (after ≡ rows ++ drop n before)) (λ _. after ≡ before)
