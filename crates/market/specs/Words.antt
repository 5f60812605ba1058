-- Words on orders and rows.
use Rattle.std.specs.Prelude.{◌≡◌, ℕ, ◌+◌, Bool, true, false, Some, None, Option}
use Rattle.market.specs.declared.order.Account.{Account}
use Rattle.market.specs.declared.order.Account.TheVariants.{Customer, Linkage, MarketMaker}
use Rattle.market.specs.declared.order.Order.{Order}
use Rattle.market.specs.declared.order.OrderKind.{OrderKind}
use Rattle.market.specs.declared.order.OrderKind.TheVariants.{Limit, MarketOnOpening}
use Rattle.market.specs.declared.order.Role.{Role}
use Rattle.market.specs.declared.order.Role.TheVariants.{Book, Auctioned, Starter, Competing}
use Rattle.market.specs.declared.order.Side.{Side}
use Rattle.market.specs.declared.order.Side.TheVariants.{Buy, Sell}
use Rattle.market.specs.declared.row.Row.{Row}
use Rattle.market.specs.declared.row.RowKind.{RowKind}
use Rattle.market.specs.declared.row.RowKind.TheVariants.{Trade, Sent, Returned, Withdrawn}

abbrev pub other : Side → Side
other Buy = Sell
other Sell = Buy

abbrev pub same_side : Side → Side → Bool
same_side Buy Buy = true
same_side Buy Sell = false
same_side Sell Buy = false
same_side Sell Sell = true

abbrev pub market_maker : Account → Bool
market_maker Customer = false
market_maker Linkage = false
market_maker MarketMaker = true

abbrev pub in_book : Role → Bool
in_book Book = true
in_book Auctioned = false
in_book Starter = false
in_book Competing = false

abbrev pub competing : Role → Bool
competing Book = false
competing Auctioned = false
competing Starter = false
competing Competing = true

abbrev pub auctioned : Role → Bool
auctioned Book = false
auctioned Auctioned = true
auctioned Starter = false
auctioned Competing = false

-- an order's contracts that stand
abbrev pub standing : Order → ℕ
standing o = o.left.count

-- what is left, traded and gone of an order adds up to its size
abbrev pub AddsUp : Order → Type 0
AddsUp o = o.left.count + o.traded.count + o.gone.count ≡ o.size.count

-- the limit of an order; Market-on-Opening has none
abbrev pub limit_of : OrderKind → Option ℕ
limit_of (Limit p) = Some p.value
limit_of MarketOnOpening = None

abbrev pub limit_at : ℕ → OrderKind
limit_at p = Limit (record { value = p })

-- the price at which an order stands in trading
abbrev pub price_of : OrderKind → ℕ
price_of (Limit p) = p.value
price_of MarketOnOpening = 0

abbrev pub or_else : {A : Type 0} → Option A → A → A
or_else (Some x) y = x
or_else None y = y

-- a T row of a taker on side s; it names the buyer first
abbrev pub trade : Side → ℕ → ℕ → ℕ → ℕ → Row
trade Buy taker maker price n = record { kind = Trade; first = taker; second = maker; price = record { value = price }; contracts = record { count = n } }
trade Sell taker maker price n = record { kind = Trade; first = maker; second = taker; price = record { value = price }; contracts = record { count = n } }

-- a row of contracts that leave without a trade
abbrev pub departure : RowKind → ℕ → ℕ → ℕ → Row
departure kind number price n = record { kind = kind; first = number; second = 0; price = record { value = price }; contracts = record { count = n } }

abbrev pub is_trade : RowKind → Bool
is_trade Trade = true
is_trade Sent = false
is_trade Returned = false
is_trade Withdrawn = false
