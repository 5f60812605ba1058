-- What a call answers, writes and hands back, and runs of calls.
use Rattle.std.specs.Prelude.{ℕ, Bool, true, false, List, [], ◌∷◌, ◌++◌, length, drop, Some, None, Option}
use Rattle.market.specs.Refusals.{first_hit}
use Rattle.market.specs.declared.row.Row.{Row}
use Rattle.sharing.specs.Sharing.{Sharing}
use Rattle.rules.specs.Opening.{top}
use Rattle.rules.specs.Series.{State, fresh, left_under}
use Rattle.rules.specs.Calls.{Ticket, Call, place, withdraw, away, opening, enter, clock, start, improve, better, finish, checks, effect, wrong_pass}

-- ---- calls

-- a refusal by its number; or the row count, the new order numbers and, from open, what top would answer
pub data Answer : Type 0 where
  refused : ℕ → Answer
  accepted : (count : ℕ) → (numbers : List ℕ) → (opens : Option (ℕ × ℕ)) → Answer

abbrev pub opens_at : State → Call → Option (ℕ × ℕ)
opens_at st (place pass t m s a k n) = None
opens_at st (withdraw t m n rows) = None
opens_at st (away t k b o) = None
opens_at st (opening pass t w rows) = top st.orders st.close
opens_at st (enter pass t m s a p n rows) = None
opens_at st (clock t rows) = None
opens_at st (start pass t m s p n) = None
opens_at st (improve pass t m p n r rows) = None
opens_at st (better pass k t p rows) = None
opens_at st (finish k t rows) = None

-- the memory that a call is lent
abbrev pub lent : Call → List Row
lent (place pass t m s a k n) = []
lent (withdraw t m n rows) = rows
lent (away t k b o) = []
lent (opening pass t w rows) = rows
lent (enter pass t m s a p n rows) = rows
lent (clock t rows) = rows
lent (start pass t m s p n) = []
lent (improve pass t m p n r rows) = rows
lent (better pass k t p rows) = rows
lent (finish k t rows) = rows

-- rows go to the front, further rows stay untouched
abbrev pub written : List Row → List Row → List Row
written rows memory = rows ++ drop (length rows) memory

-- a pass or ticket that a call hands back
pub data Handed : Type 0 where
  nothing : Handed
  pre_opening_pass : (series : ℕ) → Handed
  trading_pass : (series : ℕ) → Handed
  ticket : Ticket → Handed

-- a refused call hands back what it was given
abbrev pub handed_back : Call → Handed
handed_back (place pass t m s a k n) = nothing
handed_back (withdraw t m n rows) = nothing
handed_back (away t k b o) = nothing
handed_back (opening pass t w rows) = pre_opening_pass pass
handed_back (enter pass t m s a p n rows) = nothing
handed_back (clock t rows) = nothing
handed_back (start pass t m s p n) = nothing
handed_back (improve pass t m p n r rows) = nothing
handed_back (better pass k t p rows) = ticket k
handed_back (finish k t rows) = ticket k

-- open hands over a trading pass, start a ticket of its customer; an accepted finish discharges its ticket
abbrev pub handed_over : State → Call → Handed
handed_over st (place pass t m s a k n) = nothing
handed_over st (withdraw t m n rows) = nothing
handed_over st (away t k b o) = nothing
handed_over st (opening pass t w rows) = trading_pass st.number
handed_over st (enter pass t m s a p n rows) = nothing
handed_over st (clock t rows) = nothing
handed_over st (start pass t m s p n) = ticket (record { series = st.number; customer = st.next; discharged = false })
handed_over st (improve pass t m p n r rows) = nothing
handed_over st (better pass k t p rows) = ticket k
handed_over st (finish k t rows) = ticket (record { series = k.series; customer = k.customer; discharged = true })

-- a call, its answer, its memory when it returns, and the pass or ticket that it hands back
pub record Event : Type 0 where
  pub call : Call
  pub answer : Answer
  pub memory : List Row
  pub handed : Handed

-- the event and the series after it, by the check that hits: a refused call changes nothing
abbrev pub event_by : Sharing → State → Call → Option ℕ → Event
event_by rule st c (Some r) = record { call = c; answer = refused r; memory = lent c; handed = handed_back c }
event_by rule st c None = record {
  call = c;
  answer = accepted (length (effect rule st c).rows) (effect rule st c).numbers (opens_at st c);
  memory = written (effect rule st c).rows (lent c);
  handed = handed_over st c;
}

abbrev pub state_by : Sharing → State → Call → Option ℕ → State
state_by rule st c (Some r) = st
state_by rule st c None = (effect rule st c).state

abbrev pub event : Sharing → State → Call → Event
event rule st c = event_by rule st c (first_hit (checks st c))

abbrev pub after : Sharing → State → Call → State
after rule st c = state_by rule st c (first_hit (checks st c))

-- ---- questions, which change nothing

pub data Question : Type 0 where
  ask_top : (pass : ℕ) → Question
  ask_left : (order : ℕ) → Question

pub data Reply : Type 0 where
  declined : ℕ → Reply
  opening_price : Option (ℕ × ℕ) → Reply
  contracts_left : ℕ → Reply

abbrev pub question_checks : State → Question → List (ℕ × Bool)
question_checks st (ask_top pass) = (1, wrong_pass pass false st) ∷ []
question_checks st (ask_left n) = []

abbrev pub reply_to : State → Question → Reply
reply_to st (ask_top pass) = opening_price (top st.orders st.close)
reply_to st (ask_left n) = contracts_left (left_under st.orders n)

abbrev pub reply : State → Question → Reply
reply st q = elim (first_hit (question_checks st q)) [ Some r ↦ declined r | None ↦ reply_to st q ]

-- ---- one call after another

-- the series and its journal
pub record Day : Type 0 where
  pub state : State
  pub events : List Event

abbrev pub step : Sharing → Day → Call → Day
step rule d c = record { state = after rule d.state c; events = d.events ++ (event rule d.state c ∷ []) }

abbrev pub run_from : Sharing → Day → List Call → Day
run_from rule d [] = d
run_from rule d (c ∷ cs) = run_from rule (step rule d c) cs

-- calls from an empty series
abbrev pub run : Sharing → ℕ → ℕ → List Call → Day
run rule number close cs = run_from rule (record { state = fresh number close; events = [] }) cs
