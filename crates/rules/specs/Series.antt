-- One series: what it holds, and the conditions by which it turns a call away.
use Rattle.std.specs.Prelude.{ℕ, ◌+◌, Bool, true, false, cond, not, ◌&&◌, ◌||◌, List, [], ◌∷◌, map, Some, None, sum_by, count_by, filter, Option, ◌==◌, nat_eq, nat_le, nat_lt}
use Rattle.market.specs.Spans.{on_grid, price_in_span}
use Rattle.market.specs.declared.auction.Auction.{Auction}
use Rattle.market.specs.declared.order.Order.{Order}
use Rattle.market.specs.declared.order.OrderKind.{OrderKind}
use Rattle.market.specs.declared.order.OrderKind.TheVariants.{Limit, MarketOnOpening}
use Rattle.market.specs.declared.order.Side.{Side}
use Rattle.market.specs.declared.quote.Quote.{Quote}
use Rattle.market.specs.declared.units.Cents.{Cents}
use Rattle.market.specs.declared.units.Millis.{Millis}
use Rattle.market.specs.Words.{same_side, other, price_of, in_book, competing, auctioned, standing}
use Rattle.rules.specs.Prices.{better_price, best_among, away_best, better_than, out_of_range}

-- The number, the close, whether it has opened, the last accepted time, the next order number, the eight away quotes,
-- the orders that stand, in number order, and the auction that runs.
pub record State : Type 0 where
  pub number : ℕ
  pub close : ℕ
  pub trading : Bool
  pub time : ℕ
  pub next : ℕ
  pub away : List Quote
  pub orders : List Order
  pub auction : Option Auction

-- an away market before its first quote
abbrev pub no_quote : Quote
no_quote = record { bid = None; offer = None }

abbrev pub no_quotes : List Quote
no_quotes = no_quote ∷ no_quote ∷ no_quote ∷ no_quote ∷ no_quote ∷ no_quote ∷ no_quote ∷ no_quote ∷ []

abbrev pub fresh : ℕ → ℕ → State
fresh number close = record {
  number = number;
  close = close;
  trading = false;
  time = 0;
  next = 1;
  away = no_quotes;
  orders = [];
  auction = None;
}

-- ---- prices on offer

-- the book's orders against a taker on side s
abbrev pub book_against : Side → List Order → List Order
book_against s os = filter (λ o. same_side o.side (other s) && in_book o.role) os

abbrev pub book_best : Side → List Order → Option ℕ
book_best s os = best_among s (map (λ o. Some (price_of o.kind)) (book_against s os))

abbrev pub national_best : Side → State → Option ℕ
national_best s st = better_price s (away_best s st.away) (book_best s st.orders)

-- ---- times

abbrev pub early_or_late : ℕ → ℕ → State → Bool
early_or_late latest t st = nat_lt t st.time || nat_lt latest t

-- an end that is not after the time
abbrev pub due : ℕ → Option Millis → Bool
due t (Some e) = nat_le e.count t
due t None = false

abbrev pub exposure_due : ℕ → List Order → Bool
exposure_due t os = nat_lt 0 (count_by (λ o. due t o.exposed) os)

abbrev pub auction_due : ℕ → Option Auction → Bool
auction_due t (Some a) = nat_le a.end.count t
auction_due t None = false

abbrev pub something_due : ℕ → State → Bool
something_due t st = exposure_due t st.orders || auction_due t st.auction

abbrev pub before_end : ℕ → Option Auction → Bool
before_end t (Some a) = nat_lt t a.end.count
before_end t None = false

-- ---- members, prices, quotes

abbrev pub bad_member : ℕ → Bool
bad_member m = m == 0 || nat_lt 999 m

abbrev pub starters_member : ℕ → Option Auction → Bool
starters_member m (Some a) = m == a.member
starters_member m None = false

abbrev pub off_grid : OrderKind → Bool
off_grid (Limit p) = not (on_grid p.value)
off_grid MarketOnOpening = false

abbrev pub bad_quote : Option Cents → Bool
bad_quote (Some p) = not (price_in_span p.value)
bad_quote None = false

-- a bid that is not below the offer
abbrev pub crossed : Option Cents → Option Cents → Bool
crossed (Some b) (Some o) = nat_le o.value b.value
crossed (Some b) None = false
crossed None (Some o) = false
crossed None None = false

-- ---- room and order numbers

abbrev pub book_full : State → Bool
book_full st = nat_le 128 (count_by (λ o. in_book o.role) st.orders)

-- auction orders besides the customer's
abbrev pub auction_full : State → Bool
auction_full st = nat_le 32 (count_by (λ o. not (in_book o.role || auctioned o.role)) st.orders)

abbrev pub numbers_short : ℕ → State → Bool
numbers_short needed st = nat_lt 65536 (st.next + needed)

-- ---- orders by number

abbrev pub found : (Order → Bool) → List Order → Option Order
found p [] = None
found p (o ∷ os) = cond (p o) (Some o) (found p os)

abbrev pub book_order : ℕ → ℕ → Order → Bool
book_order m n o = o.number == n && o.member == m && in_book o.role

abbrev pub competing_order : ℕ → ℕ → Order → Bool
competing_order m n o = o.number == n && o.member == m && competing o.role

-- the order that an improvement replaces
abbrev pub replaced : ℕ → Option ℕ → State → Option Order
replaced m (Some n) st = found (competing_order m n) st.orders
replaced m None st = None

abbrev pub starter_order : State → Auction → Option Order
starter_order st a = found (λ o. nat_eq o.number a.starter) st.orders

-- the contracts standing under a number, in book or auction; 0 for any other number
abbrev pub left_under : List Order → ℕ → ℕ
left_under os n = sum_by standing (filter (λ o. nat_eq o.number n) os)

-- ---- the opening

abbrev pub on_opening : OrderKind → Bool
on_opening (Limit p) = false
on_opening MarketOnOpening = true

abbrev pub opens_out_of_range : ℕ → Option (ℕ × ℕ) → Bool
opens_out_of_range close (Some x) = out_of_range close x.0
opens_out_of_range close None = false

-- ---- auction prices

-- no national best, or a price that is not at least a cent better for the customer
abbrev pub not_below_best : Side → ℕ → Option ℕ → Bool
not_below_best s p (Some b) = not (better_than s p b)
not_below_best s p None = true

abbrev pub starter_price : State → Auction → ℕ
starter_price st a = elim (starter_order st a) [ Some o ↦ price_of o.kind | None ↦ 0 ]

-- a replacement at a worse price, of a larger size, or with neither altered
abbrev pub bad_replacement : Side → ℕ → ℕ → Option Order → Bool
bad_replacement s price size (Some o) =
    better_than s (price_of o.kind) price || nat_lt o.size.count size || (price_of o.kind == price && o.size.count == size)
bad_replacement s price size None = false

-- worse than the starter's price, over the customer's size, or a bad replacement
abbrev pub bad_improvement : ℕ → ℕ → Option Order → State → Bool
bad_improvement price size old st =
    elim st.auction [
      | Some a ↦ better_than a.side (starter_price st a) price || nat_lt a.size.count size || bad_replacement a.side price size old
      | None ↦ false
    ]

abbrev pub not_bettered : ℕ → State → Bool
not_bettered price st = elim st.auction [ Some a ↦ not (better_than a.side price (starter_price st a)) | None ↦ true ]
