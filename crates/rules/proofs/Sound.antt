-- What every run keeps: the state's orders are the ledger's entries that still have a balance.
use Rattle.std.proofs.Common.{◌≡◌, ℕ, ◌+◌, ◌*◌, ◌<◌, ◌≤◌, min, Bool, true, false, not, ◌||◌, eqb, ◌⊎◌, List, [], ◌∷◌, length, Some, None, sum_by, count_by, filter, Option}
use Rattle.std.specs.List.{ContainsAt as Has, AllByRecursion}
use Rattle.market.specs.Spans.{on_grid}
use Rattle.market.specs.declared.auction.Auction.{Auction}
use Rattle.market.specs.declared.order.Order.{Order}
use Rattle.market.specs.declared.order.OrderKind.{OrderKind}
use Rattle.market.specs.declared.order.OrderKind.TheVariants.{Limit, MarketOnOpening}
use Rattle.market.specs.declared.order.Side.{Side}
use Rattle.market.specs.declared.order.Side.TheVariants.{Buy, Sell}
use Rattle.market.specs.declared.row.Row.{Row}
use Rattle.market.specs.declared.units.Cents.{Cents}
use Rattle.rules.specs.Allocation.{fill, taker_rows}
use Rattle.rules.specs.Calls.{opened}
use Rattle.rules.specs.Law.{Rising, AtLeastAsGood, maker}
use Rattle.rules.specs.Ledger.{Entry, Ledger, contracts_in, named, total_of}
use Rattle.rules.specs.Opening.{opening_rows, opening_trade, top}
use Rattle.rules.specs.Prices.{distance, within}
use Rattle.rules.specs.Series.{State, left_under}
use Rattle.rules.specs.Volume.{matched_volume, of_order, surplus, willing}
use Rattle.market.specs.Words.{AddsUp, auctioned, competing, in_book, is_trade, limit_of, or_else, other, price_of, standing}
use Rattle.sharing.specs.Sharing.{Sharing}

-- an order that is willing at a price, one within a bound
abbrev pub wills : Side → ℕ → Order → Bool
wills s p o = willing s p (of_order o)

abbrev pub reached : Side → ℕ → Order → Bool
reached s b o = within s b (price_of o.kind)

-- entries in turn: spent, or standing as the next of the orders
pub data Matched (S : Entry → Type 0) (R : Entry → Order → Type 0) : List Entry → List Order → Type 0 where
  none : Matched S R [] []
  spent : {b : Entry} {bs : List Entry} {os : List Order} → S b → Matched S R bs os → Matched S R (b ∷ bs) os
  stands_as : {b : Entry} {o : Order} {bs : List Entry} {os : List Order} → R b o → Matched S R bs os → Matched S R (b ∷ bs) (o ∷ os)

-- before the opening the order's own price, after it where it stands
abbrev pub Priced : Bool → Option ℕ → Entry → Order → Type 0
Priced false opened b o = b.price ≡ limit_of o.kind
Priced true opened b o = or_else b.price (or_else opened 0) ≡ price_of o.kind

pub record Agrees (trading : Bool) (opened : Option ℕ) (b : Entry) (o : Order) : Type 0 where
  pub number : o.number ≡ b.number
  pub side : o.side ≡ b.side
  pub book : in_book o.role ≡ not b.auction
  pub price : Priced trading opened b o

-- prices are in span; none is Market-on-Opening in trading
abbrev pub Fine : Bool → OrderKind → Type 0
Fine t (Limit p) = p.value ≤ 99999
Fine true MarketOnOpening = ⊥
Fine false MarketOnOpening = Unit {0}

pub record Good (trading : Bool) (o : Order) : Type 0 where
  pub some_left : 0 < standing o
  pub at_most : standing o ≤ 9999
  pub fine : Fine trading o.kind
  pub adds : AddsUp o

-- the customer's order, or one that stands against it
abbrev pub Sided : Auction → Order → Type 0
Sided a o = ((o.number ≡ a.customer) × (o.side ≡ a.side)) ⊎ ((o.number ≡ a.customer → ⊥) × (o.side ≡ other a.side) × (auctioned o.role ≡ false))

abbrev pub Roled : Option Auction → Order → Type 0
Roled None o = in_book o.role ≡ true
Roled (Some a) o =
    ((in_book o.role ≡ true) × (o.number ≡ a.customer → ⊥) × (o.number ≡ a.starter → ⊥)) ⊎
    ((in_book o.role ≡ false) × (o.exposed ≡ None) × Sided a o × (competing o.role ≡ true → (o.number ≡ a.customer → ⊥) × (o.number ≡ a.starter → ⊥)))

pub record Auctioning (a : Auction) (next : ℕ) (os : List Order) (bs : List Entry) (customer : Option Entry) : Type 0 where
  pub sized : (0 < a.size.count) × (a.size.count ≤ 9999)
  pub apart : a.customer ≡ a.starter → ⊥
  pub early : (0 < a.customer) × (a.customer < next) × (0 < a.starter) × (a.starter < next)
  pub customer_left : left_under os a.customer ≡ a.size.count
  pub starter_left : left_under os a.starter ≡ a.size.count
  pub entry : (e : Entry) × (customer ≡ Some e) × Has bs e × (e.number ≡ a.customer) × (e.side ≡ a.side) × (e.size ≡ a.size.count)

abbrev pub Running : Option Auction → ℕ → List Order → List Entry → Option Entry → Type 0
Running None next os bs customer = Unit {0}
Running (Some a) next os bs customer = Auctioning a next os bs customer

abbrev pub Spanned : Option Cents → Type 0
Spanned (Some p) = p.value ≤ 99999
Spanned None = Unit {0}

abbrev pub other_auction : Order → Bool
other_auction o = not (in_book o.role || auctioned o.role)

pub record Sound (close : ℕ) (st : State) (h : Ledger) : Type 0 where
  pub closes : st.close ≡ close
  pub quotes : h.quotes ≡ st.away
  pub spanned : AllByRecursion (λ q. Spanned q.bid × Spanned q.offer) st.away
  pub first : 0 < st.next
  pub rising : Rising (λ (b : Entry). b.number) 0 h.orders
  pub numbered : AllByRecursion (λ (b : Entry). b.number < st.next) h.orders
  pub unnamed : (n : ℕ) → st.next ≤ n → named n h.rows ≡ 0
  pub conserved : AllByRecursion (λ (b : Entry). named b.number h.rows + left_under st.orders b.number ≡ b.size) h.orders
  pub matched : Matched (λ b. Unit {0}) (Agrees st.trading h.opened_at) h.orders st.orders
  pub good : AllByRecursion (Good st.trading) st.orders
  pub roled : AllByRecursion (Roled st.auction) st.orders
  pub books : count_by (λ o. in_book o.role) st.orders ≤ 128
  pub others : count_by other_auction st.orders ≤ 32
  pub quiet : st.trading ≡ false → st.auction ≡ None
  pub running : Running st.auction st.next st.orders h.orders h.customer

-- ---- the facts about sharing and about the opening, shown elsewhere

-- what a rule may be asked about
pub record Lot (os : List Order) : Type 0 where
  pub rising : Rising (λ (o : Order). o.number) 0 os
  pub short : length os ≤ 160
  pub small : AllByRecursion (λ o. standing o ≤ 9999) os

abbrev pub Against : Side → Order → Type 0
Against s o = (o.side ≡ other s) × Fine true o.kind

-- a row of a taker on side s that takes from one of os, at its price
abbrev pub Takes : Side → List Order → Row → Type 0
Takes s os r = (is_trade r.kind ≡ true) × ((o : Order) × Has os o × (o.number ≡ maker s r) × (price_of o.kind ≡ r.price.value))

abbrev pub Opens : List Order → ℕ → Row → Type 0
Opens os p r =
    (is_trade r.kind ≡ true) × (r.price.value ≡ p) ×
    ((o : Order) × Has os o × (o.number ≡ r.first) × (wills Buy p o ≡ true)) ×
    ((o : Order) × Has os o × (o.number ≡ r.second) × (wills Sell p o ≡ true))

pub record Facts (rule : Sharing) : Type 0 where
  pub fill_within : (os : List Order) (amount : ℕ) (mark : Option ℕ) (g : ℕ) → Lot os → amount ≤ 1599840 → g ≤ 9999 →
      AllByRecursion (λ o. fill rule os amount mark g o ≤ standing o) os
  pub fill_whole : (os : List Order) (amount : ℕ) (mark : Option ℕ) (g : ℕ) → Lot os → amount ≤ 1599840 → g ≤ 9999 →
      sum_by (fill rule os amount mark g) os ≡ min amount (sum_by standing os)
  -- no choice of as many contracts from os has a better total than the fills of those of os within the bound b
  pub fill_best : (s : Side) (b : ℕ) (os : List Order) (amount : ℕ) (mark : Option ℕ) (g : ℕ) → Lot os → AllByRecursion (Against s) os → amount ≤ 1599840 → g ≤ 9999 →
      (take : ℕ → ℕ) → AllByRecursion (λ o. take o.number ≤ standing o) os →
      sum_by (λ o. take o.number) os ≡ sum_by (fill rule (filter (reached s b) os) amount mark g) (filter (reached s b) os) →
      AtLeastAsGood s
      (sum_by (λ o. price_of o.kind * fill rule (filter (reached s b) os) amount mark g o) (filter (reached s b) os))
      (sum_by (λ o. price_of o.kind * take o.number) os)
  pub rows_named : (s : Side) (taker : ℕ) (f : Order → ℕ) (os : List Order) (n : ℕ) → (n ≡ taker → ⊥) →
      named n (taker_rows s taker f os) ≡ sum_by f (filter (λ o. eqb o.number n) os)
  pub rows_taker : (s : Side) (taker : ℕ) (f : Order → ℕ) (os : List Order) → named taker (taker_rows s taker f os) ≡ sum_by f os
  pub rows_contracts : (s : Side) (taker : ℕ) (f : Order → ℕ) (os : List Order) → contracts_in (taker_rows s taker f os) ≡ sum_by f os
  pub rows_total : (s : Side) (taker : ℕ) (f : Order → ℕ) (os : List Order) → total_of (taker_rows s taker f os) ≡ sum_by (λ o. price_of o.kind * f o) os
  pub rows_taken : (s : Side) (taker : ℕ) (f : Order → ℕ) (os : List Order) → AllByRecursion (Takes s os) (taker_rows s taker f os)
  pub opening_named : (os : List Order) (p n : ℕ) → Lot os → AllByRecursion (λ o. Fine false o.kind) os → 0 < n →
      named n (opening_rows rule os p) ≡ sum_by (opening_trade rule os p) (filter (λ o. eqb o.number n) os)
  pub opening_contracts : (os : List Order) (p : ℕ) → Lot os → AllByRecursion (λ o. Fine false o.kind) os → contracts_in (opening_rows rule os p) ≡ matched_volume of_order os p
  pub opening_rows_of : (os : List Order) (p : ℕ) → AllByRecursion (Opens os p) (opening_rows rule os p)
  pub top_some : (os : List Order) (close : ℕ) (x : ℕ × ℕ) → top os close ≡ Some x → (x.1 ≡ matched_volume of_order os x.0) × (on_grid x.0 ≡ true) × (0 < x.1)
  pub top_best : (os : List Order) (close : ℕ) (x : ℕ × ℕ) → top os close ≡ Some x → (q : ℕ) → on_grid q ≡ true →
      ((matched_volume of_order os x.0 < matched_volume of_order os q) ⊎
      (((matched_volume of_order os x.0 ≡ matched_volume of_order os q) × (surplus of_order os q < surplus of_order os x.0)) ⊎
      ((matched_volume of_order os x.0 ≡ matched_volume of_order os q) × (surplus of_order os q ≡ surplus of_order os x.0) × (distance q close < distance x.0 close)))) → ⊥
  pub top_none : (os : List Order) (close : ℕ) → top os close ≡ None → (q : ℕ) → on_grid q ≡ true → 0 < matched_volume of_order os q → ⊥
