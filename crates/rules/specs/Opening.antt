-- The opening price and the opening match.
use Rattle.std.specs.Prelude.{◌≡◌, ℕ, zero, suc, ◌+◌, ◌-◌, ◌<◌, min, max, Bool, true, false, cond, ◌&&◌, ◌||◌, List, [], ◌∷◌, map, Some, None, filter, Option, ◌==◌, nat_lt}
use Rattle.std.specs.List.{best_of, flat_map}
use Rattle.market.specs.Spans.{on_grid}
use Rattle.market.specs.declared.order.Order.{Order}
use Rattle.market.specs.declared.order.OrderKind.TheVariants.{Limit, MarketOnOpening}
use Rattle.market.specs.declared.order.Side.{Side}
use Rattle.market.specs.declared.order.Side.TheVariants.{Buy, Sell}
use Rattle.market.specs.declared.row.Row.{Row}
use Rattle.sharing.specs.Sharing.{Sharing}
use Rattle.market.specs.Words.{trade, limit_at}
use Rattle.rules.specs.Prices.{far_off}
use Rattle.rules.specs.Volume.{willing, matched_volume, surplus, of_order}
use Rattle.rules.specs.Allocation.{fill, by_priority, after_trade, live}

-- q opens better than p: it trades more; as much with less surplus; then nearer the close; then lower
abbrev pub opens_better : List Order → ℕ → ℕ → ℕ → Bool
opens_better os close q p =
    nat_lt (matched_volume of_order os p) (matched_volume of_order os q) ||
    (matched_volume of_order os p == matched_volume of_order os q &&
    (nat_lt (surplus of_order os q) (surplus of_order os p) ||
    (surplus of_order os q == surplus of_order os p &&
    (nat_lt (far_off close q) (far_off close p) ||
    (far_off close q == far_off close p && nat_lt q p)))))

-- n numbers from a on
abbrev pub counted : ℕ → ℕ → List ℕ
counted a zero = []
counted a (suc n) = a ∷ counted (1 + a) n

-- the prices of the grid, kept shut: there are ten thousand
unfoldable pub grid : List ℕ
grid = filter on_grid (counted 1 99999)

-- the grid price that opens best, whether it trades or not
abbrev pub best_price : List Order → ℕ → ℕ
best_price os close = best_of (opens_better os close) 5 grid

-- the opening price with its quantity, none where no price trades
abbrev pub top : List Order → ℕ → Option (ℕ × ℕ)
top os close =
    let p = best_price os close in
    cond (nat_lt 0 (matched_volume of_order os p)) (Some (p, matched_volume of_order os p)) None

-- What an answer of top says: the price lies on the grid and trades the quantity, which is not 0, and no other grid
-- price opens better. No answer says that no grid price trades.
abbrev pub IsTop : List Order → ℕ → Option (ℕ × ℕ) → Type 0
IsTop os close (Some x) =
    (on_grid x.0 ≡ true) × (x.1 ≡ matched_volume of_order os x.0) × (0 < x.1) ×
    ((q : ℕ) → on_grid q ≡ true → opens_better os close q x.0 ≡ false)
IsTop os close None = (q : ℕ) → on_grid q ≡ true → matched_volume of_order os q ≡ 0

-- each filled order in turn with the interval of its contracts: its number, the first, and one past the last
abbrev pub intervals : ℕ → List (ℕ × ℕ) → List (ℕ × ℕ × ℕ)
intervals at [] = []
intervals at (x ∷ xs) = (x.0, at, at + x.1) ∷ intervals (at + x.1) xs

-- contracts that a buyer's and a seller's interval have in common
abbrev pub overlap : (ℕ × ℕ × ℕ) → (ℕ × ℕ × ℕ) → ℕ
overlap b s = min b.2 s.2 - max b.1 s.1

-- the k-th contract bought is the k-th contract sold
abbrev pub paired : ℕ → List (ℕ × ℕ × ℕ) → List (ℕ × ℕ × ℕ) → List Row
paired p bs ss = flat_map (λ b. flat_map (λ s. cond (nat_lt 0 (overlap b s)) (trade Buy b.0 s.0 p (overlap b s) ∷ []) []) ss) bs

-- what is left of Market-on-Opening becomes a limit at the opening price
abbrev pub limited_at : ℕ → Order → Order
limited_at p o = record {
  number = o.number;
  member = o.member;
  side = o.side;
  account = o.account;
  kind = elim o.kind [ Limit l ↦ Limit l | MarketOnOpening ↦ limit_at p ];
  size = o.size;
  left = o.left;
  traded = o.traded;
  gone = o.gone;
  exposed = o.exposed;
  role = o.role;
}

module _ (rule : Sharing) (os : List Order) (p : ℕ) where
  -- what an order on side s trades when the series opens at p
  abbrev pub opening_fill : Side → Order → ℕ
  opening_fill s o = fill rule (filter (λ x. willing s p (of_order x)) os) (matched_volume of_order os p) None 0 o

  abbrev pub filled : Side → List (ℕ × ℕ)
  filled s = map (λ o. (o.number, opening_fill s o)) (by_priority (filter (λ x. willing s p (of_order x)) os))

  abbrev pub opening_rows : List Row
  opening_rows = paired p (intervals 0 (filled Buy)) (intervals 0 (filled Sell))

  abbrev pub opening_trade : Order → ℕ
  opening_trade o = cond (willing o.side p (of_order o)) (opening_fill o.side o) 0

  abbrev pub with_limit : Order → Order
  with_limit = limited_at p

  abbrev pub opened_orders : List Order
  opened_orders = live (map (λ o. with_limit (after_trade (opening_trade o) o)) os)

-- top gives that answer, and no other is one
abbrev pub TopIsTheTop : Type 0
TopIsTheTop = (os : List Order) (close : ℕ) → IsTop os close (top os close) × ((x : Option (ℕ × ℕ)) → IsTop os close x → x ≡ top os close)
