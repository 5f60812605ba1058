-- What trades leave of the orders.
use Rattle.std.specs.Prelude.{◌≡◌, ℕ, ◌+◌, ◌<◌, ◌≤◌, min, Bool, true, cond, List, [], ◌∷◌, map, length, filter, nat_lt, slice_index, slice_index_or, slice_set}
use Rattle.market.specs.Words.{standing}
use Rattle.market.specs.declared.order.Order.{Order}
use Rattle.rules.specs.Allocation.{after_trade, by_priority, live}
use Rattle.book.specs.Places.{no_order}
use Rattle.book.specs.Ranking.{by_rank, ranked_from}
use Rattle.book.specs.declared.priority.Ranked.{Ranked}

-- ---- fills that are right

-- an order that passes trades n contracts
abbrev pub traded_by : (Order → Bool) → ℕ → Order → Order
traded_by p n o = cond (p o) (after_trade n o) o

-- the orders that pass have traded their fills, and those with nothing left are gone
abbrev pub settled : (Order → Bool) → List Order → List ℕ → List Order
settled p [] ns = []
settled p (o ∷ os) [] = []
settled p (o ∷ os) (n ∷ ns) = cond (nat_lt 0 (standing (traded_by p n o))) (traded_by p n o ∷ settled p os ns) (settled p os ns)

-- no order that passes has a fill of more than stands of it
abbrev pub Covered : (Order → Bool) → List Order → List ℕ → Type 0
Covered p os ns = (k : ℕ) → k < length os → p (slice_index_or os k no_order) ≡ true → slice_index ns k ≤ standing (slice_index_or os k no_order)

-- ---- any fills

-- an order that passes trades n contracts, or all that is left of it
abbrev pub traded_up_to : (Order → Bool) → ℕ → Order → Order
traded_up_to p n o = cond (p o) (after_trade (min n (standing o)) o) o

-- each order changed as its place says, counted from k
abbrev pub by_place : (ℕ → Order → Order) → ℕ → List Order → List Order
by_place change k [] = []
by_place change k (o ∷ os) = change k o ∷ by_place change (k + 1) os

-- the orders that pass have traded their fills as far as they go, and those with nothing left are gone; past the last fill there is none
abbrev pub settled_up_to : (Order → Bool) → List Order → List ℕ → List Order
settled_up_to p os ns = live (by_place (λ k. traded_up_to p (slice_index ns k)) 0 os)

-- ---- shares

-- the fills with each share written to its place
abbrev pub scattered : List Ranked → List ℕ → List ℕ → List ℕ
scattered [] ns fills = fills
scattered (r ∷ rs) [] fills = fills
scattered (r ∷ rs) (n ∷ ns) fills = scattered rs ns (slice_set fills r.place n)

-- the fills with what each order that passes trades, f of it, written to its place
abbrev pub filled_places : (Order → Bool) → (Order → ℕ) → List Order → List ℕ → List ℕ
filled_places p f os fills = scattered (by_rank (ranked_from p 0 os)) (map f (by_priority (filter p os))) fills
