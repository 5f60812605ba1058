-- No sequence of calls can deny an order the best terms on offer: said of calls, answers and rows.
use Rattle.std.specs.Prelude.{◌≡◌, ℕ, ◌+◌, ◌*◌, ◌<◌, ◌≤◌, min, true, not, ◌&&◌, ◌⊎◌, List, [], ◌∷◌, take, Some, None, sum_by, filter, Option}
use Rattle.std.specs.List.{ContainsAt as Has, AllByRecursion}
use Rattle.market.specs.Refusals.{first_hit}
use Rattle.market.specs.Spans.{on_grid, price_in_span}
use Rattle.market.specs.declared.order.Side.{Side}
use Rattle.market.specs.declared.order.Side.TheVariants.{Buy, Sell}
use Rattle.market.specs.declared.row.Row.{Row}
use Rattle.sharing.specs.ProRata.{pro_rata}
use Rattle.sharing.specs.Sharing.{Sharing, Lawful}
use Rattle.sharing.specs.Time.{time_with_guarantee}
use Rattle.market.specs.Words.{other, same_side, AddsUp}
use Rattle.rules.specs.Prices.{far_off, away_best, bound, within}
use Rattle.rules.specs.Volume.{willing, matched_volume, surplus}
use Rattle.rules.specs.Series.{State}
use Rattle.rules.specs.Calls.{Call, place, withdraw, away, opening, enter, clock, start, improve, better, finish, checks}
use Rattle.rules.specs.Runs.{refused, accepted, Event, event, after, lent, handed_back, ask_left, contracts_left, reply, Day, step, run}
use Rattle.rules.specs.Ledger.{Entry, Ledger, ledger, number_at, named, balance, stands, of_entry, t_rows, contracts_in, total_of}

-- ---- the best opening

abbrev pub volume_at : Ledger → ℕ → ℕ
volume_at h p = matched_volume (of_entry h) h.orders p

abbrev pub surplus_at : Ledger → ℕ → ℕ
surplus_at h p = surplus (of_entry h) h.orders p

-- grid price q would have opened better: it trades more; as much with less surplus; or both equal and nearer the close
abbrev pub Outdone : Ledger → ℕ → ℕ → Option (ℕ × ℕ) → Type 0
Outdone h close q (Some x) =
    (volume_at h x.0 < volume_at h q) ⊎
    (((volume_at h x.0 ≡ volume_at h q) × (surplus_at h q < surplus_at h x.0)) ⊎
    ((volume_at h x.0 ≡ volume_at h q) × (surplus_at h q ≡ surplus_at h x.0) × (far_off close q < far_off close x.0)))
Outdone h close q None = 0 < volume_at h q

abbrev pub opening_volume : Ledger → Option (ℕ × ℕ) → ℕ
opening_volume h (Some x) = volume_at h x.0
opening_volume h None = 0

-- order number n is on side s and willing at the opening price
abbrev pub WillingAt : Ledger → Side → Option (ℕ × ℕ) → ℕ → Type 0
WillingAt h s (Some x) n = (b : Entry) × Has h.orders b × (b.number ≡ n) × (willing s x.0 (of_entry h b) ≡ true)
WillingAt h s None n = ⊥

abbrev pub AtPrice : Option (ℕ × ℕ) → ℕ → Type 0
AtPrice (Some x) p = p ≡ x.0
AtPrice None p = ⊥

-- the price is on the grid, and the quantity announced with it is what it trades, at least 1
abbrev pub Announced : Ledger → Option (ℕ × ℕ) → Type 0
Announced h (Some x) = (on_grid x.0 ≡ true) × (x.1 ≡ volume_at h x.0) × (0 < x.1)
Announced h None = Unit {0}

-- no grid price would have opened better, and the T rows are that opening
pub record BestOpening (close : ℕ) (h : Ledger) (opens : Option (ℕ × ℕ)) (rows : List Row) : Type 0 where
  pub announced : Announced h opens
  pub never_outdone : (q : ℕ) → on_grid q ≡ true → Outdone h close q opens → ⊥
  pub all_of_it : contracts_in (t_rows rows) ≡ opening_volume h opens
  pub one_price : AllByRecursion (λ r. AtPrice opens r.price.value) (t_rows rows)
  pub buyers_willing : AllByRecursion (λ r. WillingAt h Buy opens r.first) (t_rows rows)
  pub sellers_willing : AllByRecursion (λ r. WillingAt h Sell opens r.second) (t_rows rows)

-- ---- the best trades of one order

-- the order against a taker on side s, and the taker itself, in a T row
abbrev pub maker : Side → Row → ℕ
maker Buy r = r.second
maker Sell r = r.first

abbrev pub taker : Side → Row → ℕ
taker s r = maker (other s) r

-- a lower total is better for a buyer, a higher one for a seller
abbrev pub AtLeastAsGood : Side → ℕ → ℕ → Type 0
AtLeastAsGood Buy mine theirs = mine ≤ theirs
AtLeastAsGood Sell mine theirs = theirs ≤ mine

-- a choice takes contracts from the orders against one, up to the balance of each
abbrev pub Choice : Ledger → List Entry → (ℕ → ℕ) → Type 0
Choice h against chosen = AllByRecursion (λ b. chosen b.number ≤ balance h b) against

abbrev pub chosen_contracts : List Entry → (ℕ → ℕ) → ℕ
chosen_contracts against chosen = sum_by (λ b. chosen b.number) against

abbrev pub chosen_total : Ledger → List Entry → (ℕ → ℕ) → ℕ
chosen_total h against chosen = sum_by (λ b. stands h b * chosen b.number) against

-- the rows are the order's own; no choice of as many contracts has a better total; each is at the price where the order
-- against it stands
pub record BestTrades (number : ℕ) (s : Side) (h : Ledger) (against : List Entry) (rows : List Row) : Type 0 where
  pub its_own : AllByRecursion (λ r. taker s r ≡ number) rows
  pub none_better : (chosen : ℕ → ℕ) → Choice h against chosen → chosen_contracts against chosen ≡ contracts_in rows → AtLeastAsGood s (total_of rows) (chosen_total h against chosen)
  pub at_their_prices : AllByRecursion (λ r. (b : Entry) × Has against b × (b.number ≡ maker s r) × (stands h b ≡ r.price.value)) rows

-- orders of place and enter on the other side
abbrev pub contra_orders : Side → Ledger → List Entry
contra_orders s h = filter (λ b. same_side b.side (other s) && not b.auction) h.orders

-- what the orders within the bound allow
abbrev pub allowed : Side → ℕ → Ledger → ℕ
allowed s limit h = sum_by (balance h) (filter (λ b. within s limit (stands h b)) (contra_orders s h))

-- an entering order trades all it could, on the best terms, within its bound
pub record BestEntry (number : ℕ) (s : Side) (size limit : ℕ) (h : Ledger) (rows : List Row) : Type 0 where
  pub as_much_as_allowed : min size (allowed s limit h) ≤ contracts_in rows
  pub best : BestTrades number s h (contra_orders s h) rows
  pub within_bound : AllByRecursion (λ r. within s limit r.price.value ≡ true) rows

-- an auctioned order trades its whole size on the best terms, among all orders against it
pub record BestAuction (number : ℕ) (s : Side) (size : ℕ) (h : Ledger) (rows : List Row) : Type 0 where
  pub whole : size ≤ contracts_in rows
  pub best : BestTrades number s h (filter (λ b. same_side b.side (other s)) h.orders) rows

-- the customer that a ticket names, as start entered it
abbrev pub CustomerOf : Ledger → ℕ → (Entry → Type 0) → Type 0
CustomerOf h c P = (b : Entry) × (h.customer ≡ Some b) × (b.number ≡ c) × P b

-- an accepted call keeps the best terms
abbrev pub Fair : ℕ → Ledger → Call → List ℕ → Option (ℕ × ℕ) → List Row → Type 0
Fair close h (place pass t m s a k n) ns opens rows = Unit {0}
Fair close h (withdraw t m n memory) ns opens rows = Unit {0}
Fair close h (away t k b o) ns opens rows = Unit {0}
Fair close h (opening pass t w memory) ns opens rows = BestOpening close h opens rows
Fair close h (enter pass t m s a p n memory) ns opens rows =
    BestEntry (number_at 0 ns) s n.count (bound s p.value (away_best s h.quotes)) h (t_rows rows)
Fair close h (clock t memory) ns opens rows = Unit {0}
Fair close h (start pass t m s p n) ns opens rows = Unit {0}
Fair close h (improve pass t m p n r memory) ns opens rows = Unit {0}
Fair close h (better pass k t p memory) ns opens rows = Unit {0}
Fair close h (finish k t memory) ns opens rows = CustomerOf h k.customer (λ b. BestAuction b.number b.side b.size h (t_rows rows))

abbrev pub FairEvent : ℕ → Ledger → Event → Type 0
FairEvent close h e = elim e.answer [ refused r ↦ Unit {0} | accepted count ns opens ↦ Fair close h e.call ns opens (take count e.memory) ]

-- ---- conservation and order numbers

-- contracts in the rows that name an order and what the question left answers of it are its size
abbrev pub Conserved : Day → Type 0
Conserved d =
    AllByRecursion (λ b. (n : ℕ) → reply d.state (ask_left b.number) ≡ contracts_left n → named b.number (ledger d.events).rows + n ≡ b.size)
    (ledger d.events).orders

-- every later order has a higher number, the first at least 1
abbrev pub Rising : {X : Type 0} → (X → ℕ) → ℕ → List X → Type 0
Rising f low [] = Unit {0}
Rising f low (x ∷ xs) = (low < f x) × Rising f (f x) xs

abbrev pub Numbered : Day → Type 0
Numbered d = Rising (λ (b : Entry). b.number) 0 (ledger d.events).orders

-- ---- the law

-- after any calls from an empty series, any further call, whatever it is given
abbrev pub BestTerms : Sharing → Type 0
BestTerms rule =
    (number close : ℕ) → price_in_span close ≡ true → (calls : List Call) (c : Call) →
    FairEvent close (ledger (run rule number close calls).events) (event rule (run rule number close calls).state c) ×
    Conserved (step rule (run rule number close calls) c) ×
    Numbered (step rule (run rule number close calls) c)

-- for every lawful rule
abbrev pub NoOrderDenied : Type 0
NoOrderDenied = (rule : Sharing) → Lawful rule → BestTerms rule

-- in every order record of every run, what is left, traded and gone adds up to the size
abbrev pub RecordsAddUp : Type 0
RecordsAddUp =
    (rule : Sharing) → Lawful rule → (number close : ℕ) (calls : List Call) → AllByRecursion AddsUp (run rule number close calls).state.orders

-- both delivered rules are lawful, so the law holds of them
abbrev pub DeliveredRulesLawful : Type 0
DeliveredRulesLawful = Lawful time_with_guarantee × Lawful pro_rata × BestTerms time_with_guarantee × BestTerms pro_rata

-- a refused call changes nothing: not the series, not the memory, not what it was given
abbrev pub RefusalsChangeNothing : Type 0
RefusalsChangeNothing =
    (rule : Sharing) (st : State) (c : Call) (r : ℕ) → (event rule st c).answer ≡ refused r →
    (after rule st c ≡ st) × ((event rule st c).memory ≡ lent c) × ((event rule st c).handed ≡ handed_back c) × (first_hit (checks st c) ≡ Some r)
