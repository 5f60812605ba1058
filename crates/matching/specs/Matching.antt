-- The opening match: both sides filled, and what it writes and leaves.
use Rattle.std.specs.Prelude.{◌≡◌, ℕ, Bool, not, ◌&&◌, List, [], ◌∷◌, ◌++◌, length, drop, Result, MatchResult, nat_le}
use Rattle.market.specs.Refusals.{refused_by, first_hit}
use Rattle.market.specs.declared.order.Order.{Order}
use Rattle.market.specs.declared.order.Side.{Side}
use Rattle.market.specs.declared.order.Side.TheVariants.{Buy, Sell}
use Rattle.market.specs.declared.refusal.Refusal.{Refusal}
use Rattle.market.specs.declared.row.Row.{Row}
use Rattle.rules.specs.Opening.{opening_fill, opening_rows, opened_orders}
use Rattle.rules.specs.Volume.{willing, of_order}
use Rattle.sharing.specs.Sharing.{Sharing}
use Rattle.order_table.specs.Orders.{orders, next_number}
use Rattle.order_table.specs.declared.table.Table.{Table}
use Rattle.book.specs.Settling.{filled_places}

-- each order's number with its contracts
abbrev pub numbered_fills : List Order → List ℕ → List (ℕ × ℕ)
numbered_fills [] ns = []
numbered_fills (o ∷ os) [] = []
numbered_fills (o ∷ os) (n ∷ ns) = (o.number, n) ∷ numbered_fills os ns

-- an order of the side that trades at p
abbrev pub wills : Side → ℕ → Order → Bool
wills s p o = willing s p (of_order o)

-- the fills with what each buyer and then each seller trades at p written to its place
abbrev pub both_filled : Sharing → List Order → ℕ → List ℕ → List ℕ
both_filled rule os p fills = filled_places (wills Sell p) (opening_fill rule os p Sell) os (filled_places (wills Buy p) (opening_fill rule os p Buy) os fills)

-- refusal 7: over 160 orders, or more than rows, or a price over 99,999
abbrev pub opening_checks : ℕ → ℕ → ℕ → List (ℕ × Bool)
opening_checks orders p rows = (7, not ((nat_le orders 160 && nat_le orders rows) && nat_le p 99999)) ∷ []

-- rows and the orders left of a table that has opened at p
pub record Opened (rule : Sharing) (p : ℕ) (before after : Table) (old new : List Row) (count : ℕ) : Type 0 where
  pub counted : count ≡ length (opening_rows rule (orders before) p)
  pub written : new ≡ opening_rows rule (orders before) p ++ drop count old
  pub left : orders after ≡ opened_orders rule (orders before) p
  pub numbers : next_number after ≡ next_number before

-- a refused opening changes nothing
pub record Opens (rule : Sharing) (p : ℕ) (before after : Table) (old new : List Row) (answer : Result ℕ Refusal) : Type 0 where
  pub answer_is : refused_by answer ≡ first_hit (opening_checks (length (orders before)) p (length old))
  pub done : MatchResult answer (Opened rule p before after old new) (λ _. (after ≡ before) × (new ≡ old))
