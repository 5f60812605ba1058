-- The calls: what each is given, when it is turned away, what it does.
use Rattle.std.specs.Prelude.{ℕ, ◌+◌, ◌-◌, ◌*◌, ◌/◌, Bool, true, false, cond, not, ◌&&◌, ◌||◌, List, [], ◌∷◌, ◌++◌, map, length, is_some, Some, None, sum_by, count_by, filter, Option, ◌==◌, nat_lt, slice_set}
use Rattle.market.specs.Spans.{on_grid, price_in_span, size_in_span}
use Rattle.market.specs.declared.auction.Auction.{Auction}
use Rattle.market.specs.declared.order.Account.{Account}
use Rattle.market.specs.declared.order.Account.TheVariants.{Customer, Linkage, MarketMaker}
use Rattle.market.specs.declared.order.Order.{Order}
use Rattle.market.specs.declared.order.OrderKind.{OrderKind}
use Rattle.market.specs.declared.order.Role.{Role}
use Rattle.market.specs.declared.order.Role.TheVariants.{Book, Auctioned, Starter, Competing}
use Rattle.market.specs.declared.order.Side.{Side}
use Rattle.market.specs.declared.order.Side.TheVariants.{Sell}
use Rattle.market.specs.declared.row.Row.{Row}
use Rattle.market.specs.declared.row.RowKind.TheVariants.{Sent, Returned, Withdrawn}
use Rattle.market.specs.declared.units.Cents.{Cents}
use Rattle.market.specs.declared.units.Contracts.{Contracts}
use Rattle.market.specs.declared.units.Millis.{Millis}
use Rattle.sharing.specs.Sharing.{Sharing}
use Rattle.market.specs.Words.{same_side, other, market_maker, in_book, standing, limit_at, price_of, or_else, departure}
use Rattle.rules.specs.Prices.{away_best, bound, reaches, within}
use Rattle.rules.specs.Allocation.{fill, taker_rows, after_trade, live}
use Rattle.rules.specs.Opening.{top, opening_rows, opened_orders}
use Rattle.rules.specs.Series.{State, national_best, early_or_late, due, exposure_due, something_due, before_end, bad_member, starters_member, off_grid, bad_quote, crossed, book_full, auction_full, numbers_short, found, book_order, replaced, starter_order, on_opening, opens_out_of_range, not_below_best, bad_improvement, not_bettered}

-- a ticket as it is shown: its series, its customer's order number, whether it is discharged
pub record Ticket : Type 0 where
  pub series : ℕ
  pub customer : ℕ
  pub discharged : Bool

-- Every call with all that it is given. A pass is the series number that it bears; rows are the memory lent to a call
-- that may write some.
pub data Call : Type 0 where
  place : (pass : ℕ) → (time : Millis) → (member : ℕ) → Side → Account → OrderKind → (size : Contracts) → Call
  withdraw : (time : Millis) → (member order : ℕ) → (rows : List Row) → Call
  away : (time : Millis) → (market : ℕ) → (bid offer : Option Cents) → Call
  opening : (pass : ℕ) → (time : Millis) → (waived : Bool) → (rows : List Row) → Call
  enter : (pass : ℕ) → (time : Millis) → (member : ℕ) → Side → Account → (price : Cents) → (size : Contracts) → (rows : List Row) → Call
  clock : (time : Millis) → (rows : List Row) → Call
  start : (pass : ℕ) → (time : Millis) → (member : ℕ) → Side → (price : Cents) → (size : Contracts) → Call
  improve : (pass : ℕ) → (time : Millis) → (member : ℕ) → (price : Cents) → (size : Contracts) → (replaces : Option ℕ) → (rows : List Row) → Call
  better : (pass : ℕ) → Ticket → (time : Millis) → (price : Cents) → (rows : List Row) → Call
  finish : Ticket → (time : Millis) → (rows : List Row) → Call

-- ---- when a call is turned away

-- a pass of another series, or of the other phase
abbrev pub wrong_pass : ℕ → Bool → State → Bool
wrong_pass pass trading st = not (pass == st.number) || cond trading (not st.trading) st.trading

abbrev pub not_its_customer : ℕ → Option Auction → Bool
not_its_customer n (Some a) = not (n == a.customer)
not_its_customer n None = true

-- a ticket of another series, a discharged one, or one of another auction than the one that runs
abbrev pub wrong_ticket : Ticket → State → Bool
wrong_ticket k st = not (k.series == st.number) || k.discharged || not_its_customer k.customer st.auction

abbrev pub few_rows : List Row → Bool
few_rows rows = nat_lt (length rows) 192

-- the last millisecond of the day, and the last at which an exposure or auction may begin
abbrev pub day_end : ℕ
day_end = 86400000

abbrev pub last_begin : ℕ
last_begin = 86390000

-- the table of refusals for each call: its checks in order, each with its number
abbrev pub checks : State → Call → List (ℕ × Bool)
checks st (place pass t m s a k n) =
    (1, wrong_pass pass false st) ∷ (2, early_or_late day_end t.count st) ∷ (4, bad_member m) ∷ (5, off_grid k) ∷
    (6, not (size_in_span n.count)) ∷ (8, book_full st) ∷ (9, numbers_short 1 st) ∷ []
checks st (withdraw t m n rows) =
    (2, early_or_late day_end t.count st) ∷ (3, something_due t.count st) ∷ (4, bad_member m) ∷ (7, few_rows rows) ∷
    (10, not (is_some (found (book_order m n) st.orders))) ∷ []
checks st (away t k b o) =
    (2, early_or_late day_end t.count st) ∷ (3, something_due t.count st) ∷ (5, bad_quote b || bad_quote o) ∷
    (16, (k == 0) || nat_lt 8 k || crossed b o) ∷ []
checks st (opening pass t w rows) =
    (1, wrong_pass pass false st) ∷ (2, early_or_late day_end t.count st) ∷ (7, few_rows rows) ∷
    (12, nat_lt 0 (count_by (λ o. on_opening o.kind) st.orders) && not (is_some (top st.orders st.close))) ∷
    (13, not w && opens_out_of_range st.close (top st.orders st.close)) ∷ []
checks st (enter pass t m s a p n rows) =
    (1, wrong_pass pass true st) ∷ (2, early_or_late last_begin t.count st) ∷ (3, something_due t.count st) ∷ (4, bad_member m) ∷
    (5, not (on_grid p.value)) ∷ (6, not (size_in_span n.count)) ∷ (7, few_rows rows) ∷ (8, book_full st) ∷ (9, numbers_short 1 st) ∷ []
checks st (clock t rows) = (2, early_or_late day_end t.count st) ∷ (7, few_rows rows) ∷ []
checks st (start pass t m s p n) =
    (1, wrong_pass pass true st) ∷ (2, early_or_late last_begin t.count st) ∷ (3, something_due t.count st) ∷ (4, bad_member m) ∷
    (5, not (price_in_span p.value)) ∷ (6, not (size_in_span n.count)) ∷ (9, numbers_short 2 st) ∷ (11, is_some st.auction) ∷
    (14, not_below_best s p.value (national_best s st)) ∷ []
checks st (improve pass t m p n r rows) =
    (1, wrong_pass pass true st) ∷ (2, early_or_late day_end t.count st) ∷ (3, something_due t.count st) ∷
    (4, bad_member m || starters_member m st.auction) ∷ (5, not (price_in_span p.value)) ∷ (6, not (size_in_span n.count)) ∷
    (7, few_rows rows) ∷ (8, not (is_some r) && auction_full st) ∷ (9, numbers_short 1 st) ∷
    (10, is_some r && not (is_some (replaced m r st))) ∷ (11, not (is_some st.auction)) ∷
    (14, bad_improvement p.value n.count (replaced m r st) st) ∷ []
checks st (better pass k t p rows) =
    (1, wrong_pass pass true st || wrong_ticket k st) ∷ (2, early_or_late day_end t.count st) ∷ (3, something_due t.count st) ∷
    (5, not (price_in_span p.value)) ∷ (7, few_rows rows) ∷ (9, numbers_short 1 st) ∷ (14, not_bettered p.value st) ∷ []
checks st (finish k t rows) =
    (1, wrong_ticket k st) ∷ (2, early_or_late day_end t.count st) ∷ (3, exposure_due t.count st.orders) ∷ (7, few_rows rows) ∷
    (15, before_end t.count st.auction) ∷ []

-- ---- what an accepted call does

abbrev pub new_order : ℕ → ℕ → Side → Account → OrderKind → ℕ → Role → Order
new_order n m s a k size role = record {
  number = n;
  member = m;
  side = s;
  account = a;
  kind = k;
  size = record { count = size };
  left = record { count = size };
  traded = record { count = 0 };
  gone = record { count = 0 };
  exposed = None;
  role = role;
}

abbrev pub without : ℕ → List Order → List Order
without n os = filter (λ o. not (o.number == n)) os

-- the series at a later time, with some order numbers used, other orders and another auction
abbrev pub at_time : ℕ → ℕ → List Order → Option Auction → State → State
at_time t used os a st = record {
  number = st.number;
  close = st.close;
  trading = st.trading;
  time = t;
  next = st.next + used;
  away = st.away;
  orders = os;
  auction = a;
}

-- the series after a call, its new order numbers and its rows
pub record Effect : Type 0 where
  pub state : State
  pub numbers : List ℕ
  pub rows : List Row

abbrev pub effect_of : State → List ℕ → List Row → Effect
effect_of st ns rs = record { state = st; numbers = ns; rows = rs }

-- an entering order of which some contracts are left, standing as it does then
abbrev pub resting : Order → ℕ → OrderKind → Option Millis → Order
resting o rest k e = record {
  number = o.number;
  member = o.member;
  side = o.side;
  account = o.account;
  kind = k;
  size = o.size;
  left = record { count = rest };
  traded = record { count = o.size.count - rest };
  gone = o.gone;
  exposed = e;
  role = o.role;
}

-- What becomes of the remainder of an entering order: it is returned or exposed at the away best if its limit reaches
-- that, and stands at its limit otherwise.
abbrev pub remainder : Order → ℕ → Account → Bool → ℕ → ℕ → List Order × List Row
remainder o rest a reached far end =
    cond (rest == 0) ([], [])
    (cond reached
    (cond (market_maker a) ([], departure Returned o.number 0 rest ∷ [])
    (resting o rest (limit_at far) (Some (record { count = end })) ∷ [], []))
    (resting o rest o.kind None ∷ [], []))

-- the row of an order whose exposure has ended
abbrev pub exposure_row : Order → Row
exposure_row o =
    elim o.account [
      | Customer ↦ departure Sent o.number (price_of o.kind) (standing o)
      | Linkage ↦ departure Returned o.number 0 (standing o)
      | MarketMaker ↦ departure Returned o.number 0 (standing o)
    ]

abbrev pub withdrawn_row : Order → Row
withdrawn_row o = departure Withdrawn o.number 0 (standing o)

abbrev pub withdrawn_rows : Option Order → List Row
withdrawn_rows (Some o) = withdrawn_row o ∷ []
withdrawn_rows None = []

-- the orders but one that is replaced
abbrev pub without_old : Option Order → List Order → List Order
without_old (Some o) os = without o.number os
without_old None os = os

abbrev pub against_customer : Auction → Order → Bool
against_customer a o = same_side o.side (other a.side)

module _ (rule : Sharing) (st : State) where
  abbrev pub entered : ℕ → ℕ → Side → Account → ℕ → ℕ → Effect
  entered t m s a p n =
      let best = away_best s st.away in
      let hit : Order → Bool = λ o. same_side o.side (other s) && in_book o.role && within s (bound s p best) (price_of o.kind) in
      let against = filter hit st.orders in
      let f : Order → ℕ = fill rule against n None 0 in
      let rest = remainder (new_order st.next m s a (limit_at p) n Book) (n - sum_by f against) a (reaches s p best) (or_else best 0) (t + 3000) in
      let kept = live (map (λ o. cond (hit o) (after_trade (f o) o) o) st.orders) in
      effect_of (at_time t 1 (kept ++ rest.0) st.auction st) (st.next ∷ []) (taker_rows s st.next f against ++ rest.1)

  abbrev pub opened : ℕ → Option (ℕ × ℕ) → Effect
  opened t opens =
      let os : List Order = elim opens [ Some x ↦ opened_orders rule st.orders x.0 | None ↦ st.orders ] in
      let rs : List Row = elim opens [ Some x ↦ opening_rows rule st.orders x.0 | None ↦ [] ] in
      effect_of (record {
        number = st.number;
        close = st.close;
        trading = true;
        time = t;
        next = st.next;
        away = st.away;
        orders = os;
        auction = st.auction;
      }) [] rs

  abbrev pub finished : ℕ → Auction → Effect
  finished t a =
      let n = a.size.count in
      let against = filter (against_customer a) st.orders in
      let f : Order → ℕ = fill rule against n (Some a.starter) (2 * n / 5) in
      let after = live (map (λ o. cond (against_customer a o) (after_trade (f o) o) o) (without a.customer st.orders)) in
      effect_of (at_time t 0 (filter (λ o. in_book o.role) after) None st) []
      (taker_rows a.side a.customer f against ++ map withdrawn_row (filter (λ o. not (in_book o.role)) after))

  abbrev pub started : ℕ → ℕ → Side → ℕ → ℕ → Effect
  started t m s p n =
      let customer = new_order st.next m s Customer (limit_at p) n Auctioned in
      let starter = new_order (st.next + 1) m (other s) MarketMaker (limit_at p) n Starter in
      let a : Auction = record { customer = st.next; starter = st.next + 1; member = m; side = s; size = record { count = n }; end = record { count = t + 3000 } } in
      effect_of (at_time t 2 (st.orders ++ (customer ∷ starter ∷ [])) (Some a) st) (st.next ∷ (st.next + 1) ∷ []) []

  abbrev pub improved : ℕ → ℕ → ℕ → ℕ → Option Order → Effect
  improved t m p n old =
      let side : Side = elim st.auction [ Some a ↦ other a.side | None ↦ Sell ] in
      let new = new_order st.next m side MarketMaker (limit_at p) n Competing in
      effect_of (at_time t 1 (without_old old st.orders ++ (new ∷ [])) st.auction st) (st.next ∷ []) (withdrawn_rows old)

  abbrev pub bettered : ℕ → ℕ → Auction → Effect
  bettered t p a =
      let old = starter_order st a in
      let new = new_order st.next a.member (other a.side) MarketMaker (limit_at p) a.size.count Starter in
      let renewed : Auction = record { customer = a.customer; starter = st.next; member = a.member; side = a.side; size = a.size; end = a.end } in
      effect_of (at_time t 1 (without_old old st.orders ++ (new ∷ [])) (Some renewed) st) (st.next ∷ []) (withdrawn_rows old)

  abbrev pub effect : Call → Effect
  effect (place pass t m s a k n) =
      effect_of (at_time t.count 1 (st.orders ++ (new_order st.next m s a k n.count Book ∷ [])) st.auction st) (st.next ∷ []) []
  effect (withdraw t m n rows) =
      effect_of (at_time t.count 0 (without n st.orders) st.auction st) [] (withdrawn_rows (found (book_order m n) st.orders))
  effect (away t k b o) =
      effect_of (record {
        number = st.number;
        close = st.close;
        trading = st.trading;
        time = t.count;
        next = st.next;
        away = slice_set st.away (k - 1) (record { bid = b; offer = o });
        orders = st.orders;
        auction = st.auction;
      }) [] []
  effect (opening pass t w rows) = opened t.count (top st.orders st.close)
  effect (enter pass t m s a p n rows) = entered t.count m s a p.value n.count
  effect (clock t rows) =
      effect_of (at_time t.count 0 (filter (λ o. not (due t.count o.exposed)) st.orders) st.auction st) []
      (map exposure_row (filter (λ o. due t.count o.exposed) st.orders))
  effect (start pass t m s p n) = started t.count m s p.value n.count
  effect (improve pass t m p n r rows) = improved t.count m p.value n.count (replaced m r st)
  effect (better pass k t p rows) = elim st.auction [ Some a ↦ bettered t.count p.value a | None ↦ effect_of st [] [] ]
  effect (finish k t rows) = elim st.auction [ Some a ↦ finished t.count a | None ↦ effect_of st [] [] ]
