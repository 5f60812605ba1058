-- Prices on offer. The host's calls and the law over runs both lean on these words.
use Rattle.std.specs.Prelude.{ℕ, ◌+◌, ◌-◌, ◌*◌, min, max, Bool, false, ◌||◌, List, [], ◌∷◌, map, Some, None, Option, nat_le, nat_lt}
use Rattle.market.specs.declared.order.Side.{Side}
use Rattle.market.specs.declared.order.Side.TheVariants.{Buy, Sell}
use Rattle.market.specs.declared.quote.Quote.{Quote}
use Rattle.market.specs.declared.units.Cents.{Cents}

abbrev pub distance : ℕ → ℕ → ℕ
distance p q = (p - q) + (q - p)

-- how far a price lies from the close
abbrev pub far_off : ℕ → ℕ → ℕ
far_off close p = distance p close

-- over 50 cents from the close, or five times that distance exceeds the close
abbrev pub out_of_range : ℕ → ℕ → Bool
out_of_range close p = nat_lt 50 (far_off close p) || nat_lt close (5 * far_off close p)

-- price p is better than q for a taker on side s: lower to buy, higher to sell
abbrev pub better_than : Side → ℕ → ℕ → Bool
better_than Buy p q = nat_lt p q
better_than Sell p q = nat_lt q p

-- price p is no worse than the bound b for a taker on side s
abbrev pub within : Side → ℕ → ℕ → Bool
within Buy b p = nat_le p b
within Sell b p = nat_le b p

-- the better of two optional prices
abbrev pub better_price : Side → Option ℕ → Option ℕ → Option ℕ
better_price Buy (Some p) (Some q) = Some (min p q)
better_price Sell (Some p) (Some q) = Some (max p q)
better_price Buy (Some p) None = Some p
better_price Sell (Some p) None = Some p
better_price Buy None (Some q) = Some q
better_price Sell None (Some q) = Some q
better_price Buy None None = None
better_price Sell None None = None

abbrev pub best_among : Side → List (Option ℕ) → Option ℕ
best_among s [] = None
best_among s (p ∷ ps) = better_price s p (best_among s ps)

abbrev pub cents : Option Cents → Option ℕ
cents (Some p) = Some p.value
cents None = None

-- what an away market quotes a taker on side s: its offer to buy from, its bid to sell to
abbrev pub quoted : Side → Quote → Option ℕ
quoted Buy q = cents q.offer
quoted Sell q = cents q.bid

abbrev pub away_best : Side → List Quote → Option ℕ
away_best s qs = best_among s (map (quoted s) qs)

-- the price beyond which an entering order limited at l does not trade, given the away best
abbrev pub bound : Side → ℕ → Option ℕ → ℕ
bound Buy l (Some a) = min l a
bound Sell l (Some a) = max l a
bound Buy l None = l
bound Sell l None = l

-- the limit reaches the away best
abbrev pub reaches : Side → ℕ → Option ℕ → Bool
reaches Buy l (Some a) = nat_le a l
reaches Sell l (Some a) = nat_le l a
reaches Buy l None = false
reaches Sell l None = false
