-- How contracts are taken from orders: best price first, and among equals as the sharing rule says.
use Rattle.std.specs.Prelude.{ℕ, ◌+◌, ◌-◌, cond, ltb, List, [], ◌∷◌, map, Some, None, sum_by, filter, Option, ◌==◌, nat_eq, nat_le, nat_lt, slice_index}
use Rattle.std.specs.List.{flat_map}
use Rattle.market.specs.declared.order.Order.{Order}
use Rattle.market.specs.declared.order.OrderKind.{OrderKind}
use Rattle.market.specs.declared.order.OrderKind.TheVariants.{Limit, MarketOnOpening}
use Rattle.market.specs.declared.order.Side.{Side}
use Rattle.market.specs.declared.order.Side.TheVariants.{Buy, Sell}
use Rattle.market.specs.declared.row.Row.{Row}
use Rattle.sharing.specs.Sharing.{Sharing}
use Rattle.market.specs.Words.{standing, price_of, trade}

-- The lower priority trades first: Market-on-Opening, then the best price. So both sides have one order.
abbrev pub priority_at : Side → OrderKind → ℕ
priority_at Buy (Limit p) = 100000 - p.value
priority_at Buy MarketOnOpening = 0
priority_at Sell (Limit p) = p.value
priority_at Sell MarketOnOpening = 0

abbrev pub priority : Order → ℕ
priority o = priority_at o.side o.kind

-- the orders of one price level
abbrev pub level : ℕ → List Order → List Order
level r os = filter (λ o. nat_eq (priority o) r) os

-- contracts that trade before a level is reached
abbrev pub volume_ahead : ℕ → List Order → ℕ
volume_ahead r os = sum_by standing (filter (λ o. ltb (priority o) r) os)

abbrev pub next_place : Option ℕ → Option ℕ
next_place (Some k) = Some (k + 1)
next_place None = None

-- the place of an order number among orders
abbrev pub place_of : ℕ → List Order → Option ℕ
place_of n [] = None
place_of n (o ∷ os) = cond (o.number == n) (Some 0) (next_place (place_of n os))

abbrev pub share_at : List ℕ → Option ℕ → ℕ
share_at shares (Some k) = slice_index shares k
share_at shares None = 0

abbrev pub mark_among : Option ℕ → List Order → Option ℕ
mark_among (Some n) os = place_of n os
mark_among None os = None

-- What order o of os trades when an amount is taken from os: each level shares what the better ones leave.
abbrev pub fill : Sharing → List Order → ℕ → Option ℕ → ℕ → Order → ℕ
fill rule os amount marked guarantee o =
    let at = level (priority o) os in
    share_at (rule (map standing at) (amount - volume_ahead (priority o) os) (mark_among marked at) guarantee) (place_of o.number at)

-- by priority, then by number: orders come in number order, and each goes before those of equal priority
abbrev pub insert : Order → List Order → List Order
insert o [] = o ∷ []
insert o (p ∷ ps) = cond (nat_le (priority o) (priority p)) (o ∷ p ∷ ps) (p ∷ insert o ps)

abbrev pub by_priority : List Order → List Order
by_priority [] = []
by_priority (o ∷ os) = insert o (by_priority os)

-- the T rows of a taker on side s, each at the price where the order against it stands; a share of 0 makes no row
abbrev pub taker_rows : Side → ℕ → (Order → ℕ) → List Order → List Row
taker_rows s taker f os = flat_map (λ o. cond (nat_lt 0 (f o)) (trade s taker o.number (price_of o.kind) (f o) ∷ []) []) (by_priority os)

-- an order after n of its contracts traded
abbrev pub after_trade : ℕ → Order → Order
after_trade n o = record {
  number = o.number;
  member = o.member;
  side = o.side;
  account = o.account;
  kind = o.kind;
  size = o.size;
  left = record { count = o.left.count - n };
  traded = record { count = o.traded.count + n };
  gone = o.gone;
  exposed = o.exposed;
  role = o.role;
}

-- an order with nothing left frees its record
abbrev pub live : List Order → List Order
live os = filter (λ o. ltb 0 (standing o)) os
