-- The remainder of an entering order as the code has it.
use Rattle.std.specs.Prelude.{List, [], ◌∷◌, Some, None, Option}
use Rattle.market.specs.declared.order.Order.{Order}
use Rattle.market.specs.declared.row.Row.{Row}
use Rattle.series.specs.declared.remainder.Remainder.{Remainder}
use Rattle.series.specs.declared.remainder.Remainder.TheVariants.{Stands, Returned}

-- the orders that stand of it
abbrev pub standing_orders : Option Remainder → List Order
standing_orders (Some (Stands o)) = o ∷ []
standing_orders (Some (Returned r)) = []
standing_orders None = []

-- the rows that return it
abbrev pub returning_rows : Option Remainder → List Row
returning_rows (Some (Stands o)) = []
returning_rows (Some (Returned r)) = r ∷ []
returning_rows None = []
