-- What a journal tells: orders, quotes, rows, balances and standing prices, read off calls, answers and memory alone.
use Rattle.std.specs.Prelude.{ℕ, ◌-◌, ◌*◌, Bool, true, false, cond, not, ◌&&◌, ◌||◌, List, [], ◌∷◌, ◌++◌, take, Some, None, sum_by, filter, Option, ◌==◌, slice_index, slice_set}
use Rattle.market.specs.declared.order.Account.{Account}
use Rattle.market.specs.declared.order.Side.{Side}
use Rattle.market.specs.declared.order.Side.TheVariants.{Buy}
use Rattle.market.specs.declared.quote.Quote.{Quote}
use Rattle.market.specs.declared.row.Row.{Row}
use Rattle.market.specs.Words.{other, market_maker, limit_of, or_else, is_trade}
use Rattle.rules.specs.Prices.{away_best, reaches}
use Rattle.rules.specs.Volume.{Interest}
use Rattle.rules.specs.Series.{no_quotes}
use Rattle.rules.specs.Calls.{Call, place, withdraw, away, opening, enter, clock, start, improve, better, finish}
use Rattle.rules.specs.Runs.{refused, accepted, Event}

-- an order as its call entered it; Market-on-Opening has no price of its own
pub record Entry : Type 0 where
  pub number : ℕ
  pub side : Side
  pub size : ℕ
  pub price : Option ℕ
  pub auction : Bool

-- the orders so far, the quotes last accepted, the rows counted, the opening price, and the customer of the latest auction
pub record Ledger : Type 0 where
  pub orders : List Entry
  pub quotes : List Quote
  pub rows : List Row
  pub opened_at : Option ℕ
  pub customer : Option Entry

abbrev pub empty_ledger : Ledger
empty_ledger = record { orders = []; quotes = no_quotes; rows = []; opened_at = None; customer = None }

-- where an entering order stands: at the away best if its remainder is exposed, else at its limit
abbrev pub stands_at : Side → Account → ℕ → Option ℕ → ℕ
stands_at s a l best = cond (reaches s l best && not (market_maker a)) (or_else best 0) l

abbrev pub number_at : ℕ → List ℕ → ℕ
number_at k ns = slice_index ns k

abbrev pub customer_side : Option Entry → Side
customer_side (Some b) = b.side
customer_side None = Buy

abbrev pub customer_size : Option Entry → ℕ
customer_size (Some b) = b.size
customer_size None = 0

abbrev pub book_entry : ℕ → Side → ℕ → Option ℕ → Entry
book_entry n s size price = record { number = n; side = s; size = size; price = price; auction = false }

abbrev pub auction_entry : ℕ → Side → ℕ → ℕ → Entry
auction_entry n s size price = record { number = n; side = s; size = size; price = Some price; auction = true }

-- the orders that an accepted call enters, under its new numbers
abbrev pub entries : Ledger → Call → List ℕ → List Entry
entries h (place pass t m s a k n) ns = book_entry (number_at 0 ns) s n.count (limit_of k) ∷ []
entries h (withdraw t m n rows) ns = []
entries h (away t k b o) ns = []
entries h (opening pass t w rows) ns = []
entries h (enter pass t m s a p n rows) ns =
    book_entry (number_at 0 ns) s n.count (Some (stands_at s a p.value (away_best s h.quotes))) ∷ []
entries h (clock t rows) ns = []
entries h (start pass t m s p n) ns =
    auction_entry (number_at 0 ns) s n.count p.value ∷ auction_entry (number_at 1 ns) (other s) n.count p.value ∷ []
entries h (improve pass t m p n r rows) ns = auction_entry (number_at 0 ns) (other (customer_side h.customer)) n.count p.value ∷ []
entries h (better pass k t p rows) ns =
    auction_entry (number_at 0 ns) (other (customer_side h.customer)) (customer_size h.customer) p.value ∷ []
entries h (finish k t rows) ns = []

abbrev pub customer_after : Option Entry → Call → List ℕ → Option Entry
customer_after b (place pass t m s a k n) ns = b
customer_after b (withdraw t m n rows) ns = b
customer_after b (away t k x o) ns = b
customer_after b (opening pass t w rows) ns = b
customer_after b (enter pass t m s a p n rows) ns = b
customer_after b (clock t rows) ns = b
customer_after b (start pass t m s p n) ns = Some (auction_entry (number_at 0 ns) s n.count p.value)
customer_after b (improve pass t m p n r rows) ns = b
customer_after b (better pass k t p rows) ns = b
customer_after b (finish k t rows) ns = b

abbrev pub quotes_after : List Quote → Call → List Quote
quotes_after qs (place pass t m s a k n) = qs
quotes_after qs (withdraw t m n rows) = qs
quotes_after qs (away t k b o) = slice_set qs (k - 1) (record { bid = b; offer = o })
quotes_after qs (opening pass t w rows) = qs
quotes_after qs (enter pass t m s a p n rows) = qs
quotes_after qs (clock t rows) = qs
quotes_after qs (start pass t m s p n) = qs
quotes_after qs (improve pass t m p n r rows) = qs
quotes_after qs (better pass k t p rows) = qs
quotes_after qs (finish k t rows) = qs

abbrev pub first_of : Option (ℕ × ℕ) → Option ℕ → Option ℕ
first_of (Some x) old = Some x.0
first_of None old = old

-- a refused call posts nothing; of an accepted one as many rows as it counts
abbrev pub post : Ledger → Event → Ledger
post h e =
    elim e.answer [
      | refused r ↦ h
      | accepted count ns opens ↦ record {
        orders = h.orders ++ entries h e.call ns;
        quotes = quotes_after h.quotes e.call;
        rows = h.rows ++ take count e.memory;
        opened_at = first_of opens h.opened_at;
        customer = customer_after h.customer e.call ns;
      }
    ]

abbrev pub posted : Ledger → List Event → Ledger
posted h [] = h
posted h (e ∷ es) = posted (post h e) es

abbrev pub ledger : List Event → Ledger
ledger es = posted empty_ledger es

-- ---- balances and standing prices

abbrev pub names : ℕ → Row → Bool
names n r = r.first == n || r.second == n

-- the contracts in rows that name an order
abbrev pub named : ℕ → List Row → ℕ
named n rs = sum_by (λ r. r.contracts.count) (filter (names n) rs)

abbrev pub balance : Ledger → Entry → ℕ
balance h b = b.size - named b.number h.rows

-- the price at which an order stands: its own, or the opening price if it was Market-on-Opening
abbrev pub stands : Ledger → Entry → ℕ
stands h b = or_else b.price (or_else h.opened_at 0)

-- what an order would trade at an opening
abbrev pub of_entry : Ledger → Entry → Interest
of_entry h b = record { side = b.side; limit = b.price; contracts = balance h b }

abbrev pub t_rows : List Row → List Row
t_rows rs = filter (λ r. is_trade r.kind) rs

abbrev pub contracts_in : List Row → ℕ
contracts_in rs = sum_by (λ r. r.contracts.count) rs

-- price times contracts, added up
abbrev pub total_of : List Row → ℕ
total_of rs = sum_by (λ r. r.price.value * r.contracts.count) rs
