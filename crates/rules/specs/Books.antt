-- Worked books, each through the calls themselves.
use Rattle.std.specs.Prelude.{◌≡◌, ℕ, false, List, [], ◌∷◌, ◌++◌, length, take, replicate, Some, None}
use Rattle.std.specs.List.{AllByRecursion}
use Rattle.market.specs.declared.order.Account.{Account}
use Rattle.market.specs.declared.order.Account.TheVariants.{Customer, MarketMaker}
use Rattle.market.specs.declared.order.OrderKind.{OrderKind}
use Rattle.market.specs.declared.order.OrderKind.TheVariants.{MarketOnOpening}
use Rattle.market.specs.declared.order.Side.TheVariants.{Buy, Sell}
use Rattle.market.specs.declared.row.Row.{Row}
use Rattle.market.specs.declared.row.RowKind.TheVariants.{Sent, Returned, Withdrawn}
use Rattle.market.specs.declared.units.Cents.{Cents}
use Rattle.market.specs.declared.units.Contracts.{Contracts}
use Rattle.market.specs.declared.units.Millis.{Millis}
use Rattle.sharing.specs.ProRata.{pro_rata}
use Rattle.sharing.specs.Sharing.{Sharing}
use Rattle.sharing.specs.Time.{time_with_guarantee}
use Rattle.market.specs.Words.{limit_at, trade, departure}
use Rattle.rules.specs.Volume.{surplus, of_order}
use Rattle.rules.specs.Calls.{Ticket, Call, place, away, opening, enter, clock, start, improve, finish}
use Rattle.rules.specs.Runs.{Answer, refused, accepted, event, run}
use Rattle.rules.specs.Ledger.{t_rows, total_of}

-- ---- the calls of series 1

abbrev pub at : ℕ → Millis
at t = record { count = t }

abbrev pub cents_of : ℕ → Cents
cents_of p = record { value = p }

abbrev pub lots : ℕ → Contracts
lots n = record { count = n }

-- memory for as many rows as a call may ask for
abbrev pub room : List Row
room = replicate 192 (departure Withdrawn 0 0 0)

abbrev pub buy : OrderKind → ℕ → Call
buy k n = place 1 (at 0) 1 Buy Customer k (lots n)

abbrev pub sell : OrderKind → ℕ → Call
sell k n = place 1 (at 0) 2 Sell Customer k (lots n)

abbrev pub bell : Call
bell = opening 1 (at 1) false room

abbrev pub offer : ℕ → ℕ → Call
offer p n = enter 1 (at 2) 3 Sell MarketMaker (cents_of p) (lots n) room

abbrev pub away_offer : ℕ → Call
away_offer p = away (at 2) 1 None (Some (cents_of p))

abbrev pub first_ticket : Ticket
first_ticket = record { series = 1; customer = 1; discharged = false }

-- ---- the books

-- a rule, a close, some calls and one more, with what it answers and the rows that it writes
pub record Book : Type 0 where
  pub rule : Sharing
  pub close : ℕ
  pub calls : List Call
  pub last : Call
  pub answer : Answer
  pub rows : List Row

abbrev pub Holds : Book → Type 0
Holds b =
    let e = event b.rule (run b.rule 1 b.close b.calls).state b.last in
    (e.answer ≡ b.answer) × (take (length b.rows) e.memory ≡ b.rows)

-- the calls before the bell, what the bell answers, its rows
abbrev opens : ℕ → List Call → Answer → List Row → Book
opens close calls answer rows = record { rule = time_with_guarantee; close = close; calls = calls; last = bell; answer = answer; rows = rows }

-- 1. Market-on-Opening first: the series opens at 205
abbrev pub book1 : Book
book1 = opens 200
    (buy (limit_at 210) 10 ∷ buy MarketOnOpening 5 ∷ buy (limit_at 200) 10 ∷ sell (limit_at 195) 8 ∷ sell (limit_at 205) 10 ∷ [])
    (accepted 3 [] (Some (205, 15))) (trade Buy 2 4 205 5 ∷ trade Buy 1 4 205 3 ∷ trade Buy 1 5 205 7 ∷ [])

-- 2. 100 trades as much as 105, but leaves a surplus of 5
abbrev pub calls2 : List Call
calls2 = buy (limit_at 105) 10 ∷ buy (limit_at 100) 5 ∷ sell (limit_at 100) 10 ∷ []

abbrev pub book2 : Book
book2 = opens 100 calls2 (accepted 1 [] (Some (105, 10))) (trade Buy 1 3 105 10 ∷ [])

-- 3. 300 and 310 are equally near the close: the lower one opens
abbrev pub book3 : Book
book3 = opens 305 (buy (limit_at 310) 1 ∷ sell (limit_at 300) 1 ∷ []) (accepted 1 [] (Some (300, 1))) (trade Buy 1 2 300 1 ∷ [])

-- 4. the close itself opens, though no order is limited there
abbrev pub book4 : Book
book4 = opens 205 (buy (limit_at 210) 1 ∷ sell (limit_at 200) 1 ∷ []) (accepted 1 [] (Some (205, 1))) (trade Buy 1 2 205 1 ∷ [])

-- 5. how far from the close a series may open
abbrev crossed_at : ℕ → List Call
crossed_at p = buy (limit_at p) 1 ∷ sell (limit_at p) 1 ∷ []

abbrev pub book5a : Book
book5a = opens 100 (crossed_at 120) (accepted 1 [] (Some (120, 1))) (trade Buy 1 2 120 1 ∷ [])

abbrev pub book5b : Book
book5b = opens 100 (crossed_at 125) (refused 13) []

abbrev pub book5c : Book
book5c = opens 1000 (crossed_at 1050) (accepted 1 [] (Some (1050, 1))) (trade Buy 1 2 1050 1 ∷ [])

abbrev pub book5d : Book
book5d = opens 1000 (crossed_at 1060) (refused 13) []

-- 6. against an away offer of 205: 4, 3, and 3 exposed at 205, sent away when the exposure ends; a market maker's are returned
abbrev offers6 : List Call
offers6 = bell ∷ offer 200 4 ∷ offer 205 3 ∷ offer 210 9 ∷ away_offer 205 ∷ []

abbrev buy6 : Account → Call
buy6 a = enter 1 (at 3) 1 Buy a (cents_of 210) (lots 10) room

abbrev pub book6 : Book
book6 = record {
  rule = time_with_guarantee;
  close = 200;
  calls = offers6;
  last = buy6 Customer;
  answer = accepted 2 (4 ∷ []) None;
  rows = trade Buy 4 1 200 4 ∷ trade Buy 4 2 205 3 ∷ [];
}

abbrev pub book6_sent : Book
book6_sent = record {
  rule = time_with_guarantee;
  close = 200;
  calls = offers6 ++ (buy6 Customer ∷ []);
  last = clock (at 3003) room;
  answer = accepted 1 [] None;
  rows = departure Sent 4 205 3 ∷ [];
}

abbrev pub book6_returned : Book
book6_returned = record {
  rule = time_with_guarantee;
  close = 200;
  calls = offers6;
  last = buy6 MarketMaker;
  answer = accepted 3 (4 ∷ []) None;
  rows = trade Buy 4 1 200 4 ∷ trade Buy 4 2 205 3 ∷ departure Returned 4 0 3 ∷ [];
}

-- 7. an auction of 20 at 208, improved by 5 at 207 and 10 at 208: two fifths of the 20 are guaranteed to the starter
abbrev auction7 : Sharing → List Row → Book
auction7 rule rows = record {
  rule = rule;
  close = 200;
  calls = bell ∷ away_offer 209 ∷ start 1 (at 3) 1 Buy (cents_of 208) (lots 20) ∷ improve 1 (at 4) 2 (cents_of 207) (lots 5) None room ∷
      improve 1 (at 5) 3 (cents_of 208) (lots 10) None room ∷ [];
  last = finish first_ticket (at 3003) room;
  answer = accepted 5 [] None;
  rows = rows;
}

abbrev pub book7_time : Book
book7_time = auction7 time_with_guarantee
    (trade Buy 1 3 207 5 ∷ trade Buy 1 2 208 8 ∷ trade Buy 1 4 208 7 ∷ departure Withdrawn 2 0 12 ∷ departure Withdrawn 4 0 3 ∷ [])

abbrev pub book7_pro_rata : Book
book7_pro_rata = auction7 pro_rata
    (trade Buy 1 3 207 5 ∷ trade Buy 1 2 208 10 ∷ trade Buy 1 4 208 5 ∷ departure Withdrawn 2 0 10 ∷ departure Withdrawn 4 0 5 ∷ [])

abbrev pub books : List Book
books =
    book1 ∷ book2 ∷ book3 ∷ book4 ∷ book5a ∷ book5b ∷ book5c ∷ book5d ∷ book6 ∷ book6_sent ∷ book6_returned ∷ book7_time ∷ book7_pro_rata ∷ []

-- all of them; in book 2 the surplus is 0, in book 7 the total is 4,155 either way; 8. 15 pro rata for 20 and 20 are 8 and 7
pub record BooksHold : Type 0 where
  pub every_book : AllByRecursion Holds books
  pub no_surplus : surplus of_order (run time_with_guarantee 1 100 calls2).state.orders 105 ≡ 0
  pub total_by_time : total_of (t_rows book7_time.rows) ≡ 4155
  pub total_pro_rata : total_of (t_rows book7_pro_rata.rows) ≡ 4155
  pub book8 : pro_rata (20 ∷ 20 ∷ []) 15 None 0 ≡ 8 ∷ 7 ∷ []
