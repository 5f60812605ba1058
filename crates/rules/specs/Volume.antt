-- Demand, supply, matched volume and surplus at a price: said once of anything that has a side, a limit and contracts.
use Rattle.std.specs.Prelude.{ℕ, min, Bool, true, ◌&&◌, List, Some, None, sum_by, filter, Option, nat_le}
use Rattle.market.specs.declared.order.Order.{Order}
use Rattle.market.specs.declared.order.Side.{Side}
use Rattle.market.specs.declared.order.Side.TheVariants.{Buy, Sell}
use Rattle.market.specs.Words.{same_side, limit_of, standing}
use Rattle.rules.specs.Prices.{distance}

-- what an order would trade at an opening; Market-on-Opening has no limit
pub record Interest : Type 0 where
  pub side : Side
  pub limit : Option ℕ
  pub contracts : ℕ

abbrev pub willing_at : Side → ℕ → Option ℕ → Bool
willing_at Buy p (Some l) = nat_le p l
willing_at Sell p (Some l) = nat_le l p
willing_at Buy p None = true
willing_at Sell p None = true

-- a buyer (or seller) that trades at price p
abbrev pub willing : Side → ℕ → Interest → Bool
willing s p i = same_side i.side s && willing_at s p i.limit

module _ {X : Type 0} (of : X → Interest) where
  abbrev pub volume : Side → List X → ℕ → ℕ
  volume s xs p = sum_by (λ x. (of x).contracts) (filter (λ x. willing s p (of x)) xs)

  -- all Market-on-Opening buys and the buys limited at p or higher
  abbrev pub demand : List X → ℕ → ℕ
  demand xs p = volume Buy xs p

  -- all Market-on-Opening sells and the sells limited at p or lower
  abbrev pub supply : List X → ℕ → ℕ
  supply xs p = volume Sell xs p

  -- the smaller of the two trades, and their difference is the surplus
  abbrev pub matched_volume : List X → ℕ → ℕ
  matched_volume xs p = min (demand xs p) (supply xs p)

  abbrev pub surplus : List X → ℕ → ℕ
  surplus xs p = distance (demand xs p) (supply xs p)

abbrev pub of_order : Order → Interest
of_order o = record { side = o.side; limit = limit_of o.kind; contracts = standing o }
