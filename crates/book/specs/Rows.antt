-- The rows of a taker's trades.
use Rattle.std.specs.Prelude.{ℕ, cond, List, [], ◌∷◌, ◌++◌, nat_lt}
use Rattle.market.specs.Words.{price_of, trade}
use Rattle.market.specs.declared.order.Order.{Order}
use Rattle.market.specs.declared.order.Side.{Side}
use Rattle.market.specs.declared.row.Row.{Row}

-- the T row of n contracts of one order, none for no contracts
abbrev pub trade_row : Side → ℕ → Order → ℕ → List Row
trade_row s taker o n = cond (nat_lt 0 n) (trade s taker o.number (price_of o.kind) n ∷ []) []

-- the T rows of orders that trade those contracts, each at the price where the order stands
abbrev pub trade_rows : Side → ℕ → List Order → List ℕ → List Row
trade_rows s taker [] ns = []
trade_rows s taker (o ∷ os) [] = []
trade_rows s taker (o ∷ os) (n ∷ ns) = trade_row s taker o n ++ trade_rows s taker os ns
