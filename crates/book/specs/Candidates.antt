-- The prices that the search for the opening price tries, and what it keeps of them.
use Rattle.std.specs.Prelude.{ℕ, ◌+◌, ◌-◌, ◌%◌, min, Bool, cond, ◌&&◌, ◌||◌, List, [], ◌∷◌, ◌==◌, nat_lt}
use Rattle.market.specs.Spans.{on_grid}
use Rattle.market.specs.declared.order.Side.{Side}
use Rattle.market.specs.declared.order.Side.TheVariants.{Buy, Sell}
use Rattle.rules.specs.Prices.{distance, far_off}

-- a multiple of the grid's step; of the prices these are on the grid
abbrev pub on_step : ℕ → Bool
on_step p = cond (nat_lt p 300) (p % 5 == 0) (p % 10 == 0)

-- the grid price after and before a grid price, and the last one not above a price; 0 and 100,000 lie beyond the ends
abbrev pub above : ℕ → ℕ
above q = cond (nat_lt q 300) (q + 5) (q + 10)

abbrev pub below : ℕ → ℕ
below q = cond (nat_lt 300 q) (q - 10) (q - 5)

abbrev pub floor : ℕ → ℕ
floor x = cond (nat_lt x 300) (x - x % 5) (x - x % 10)

-- the first grid price that is not below a price
abbrev pub ceiling : ℕ → ℕ
ceiling x = cond (floor x == x) x (above (floor x))

-- a price's grid price with its neighbours
abbrev pub around : ℕ → List ℕ
around x = below (floor x) ∷ floor x ∷ above (floor x) ∷ []

-- the grid prices beside a limit: the last at which it is willing or not, and the next
abbrev pub beside : Side → ℕ → List ℕ
beside Buy l = floor l ∷ above (floor l) ∷ []
beside Sell l = below (ceiling l) ∷ ceiling l ∷ []

-- with what is wanted and what is offered at each price: what trades there, and what is left over
module _ (wanted offered : ℕ → ℕ) where
  abbrev pub traded_at : ℕ → ℕ
  traded_at p = min (wanted p) (offered p)

  abbrev pub over_at : ℕ → ℕ
  over_at p = distance (wanted p) (offered p)

  -- q opens better than p
  abbrev pub opens_by : ℕ → ℕ → ℕ → Bool
  opens_by close q p =
      nat_lt (traded_at p) (traded_at q) ||
      (traded_at p == traded_at q &&
      (nat_lt (over_at q) (over_at p) ||
      (over_at q == over_at p &&
      (nat_lt (far_off close q) (far_off close p) ||
      (far_off close q == far_off close p && nat_lt q p)))))

  -- the better of the best so far and a price, if that is on the grid
  abbrev pub better_by : ℕ → ℕ → ℕ → ℕ
  better_by close best q = cond (on_grid q) (cond (opens_by close q best) q best) best
