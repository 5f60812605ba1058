-- The spans of prices and sizes, the price grid, and the checks of each.
use Rattle.std.specs.Prelude.{ℕ, ◌%◌, Bool, cond, not, ◌&&◌, List, [], ◌∷◌, ◌==◌, nat_le, nat_lt}

-- a price is 1 to 99,999 cents
abbrev pub price_in_span : ℕ → Bool
price_in_span p = nat_le 1 p && nat_le p 99999

-- the grid is every multiple of 5 cents below 300 and every multiple of 10 cents from 300 up
abbrev pub on_grid : ℕ → Bool
on_grid p = price_in_span p && cond (nat_lt p 300) (p % 5 == 0) (p % 10 == 0)

-- a size is 1 to 9,999 contracts
abbrev pub size_in_span : ℕ → Bool
size_in_span n = nat_le 1 n && nat_le n 9999

abbrev pub price_checks : ℕ → List (ℕ × Bool)
price_checks p = (5, not (price_in_span p)) ∷ []

abbrev pub grid_checks : ℕ → List (ℕ × Bool)
grid_checks p = (5, not (on_grid p)) ∷ []

abbrev pub size_checks : ℕ → List (ℕ × Bool)
size_checks n = (6, not (size_in_span n)) ∷ []
