-- A day given as data, in the words of the rules.
use Rattle.std.specs.Prelude.{◌≡◌, ℕ, List, [], ◌∷◌, map, take, replicate, Some, None, Ok, Err, Option, Result}
use Rattle.market.specs.Refusals.{refusal_number}
use Rattle.market.specs.declared.refusal.Refusal.{Refusal}
use Rattle.market.specs.declared.row.Row.{Row}
use Rattle.market.specs.declared.row.RowKind.TheVariants.{Withdrawn}
use Rattle.rules.specs.Calls as calls
use Rattle.rules.specs.Calls.{Call}
use Rattle.rules.specs.Runs as runs
use Rattle.rules.specs.Law.{BestTerms}
use Rattle.rules.specs.Runs.{Answer, Event, Handed, refused, accepted, run}
use Rattle.sharing.specs.Sharing.{Sharing}
use Rattle.series.specs.declared.day.Accepted.{Accepted}
use Rattle.series.specs.declared.day.DayCall.{DayCall}
use Rattle.series.specs.declared.day.DayCall.TheVariants.{Place, Withdraw, Away, Open, Enter, Clock, Start, Improve, Better, Finish}
use Rattle.series.specs.declared.day.HandedBack.{HandedBack}
use Rattle.series.specs.declared.day.HandedBack.TheVariants.{PreOpeningPass, TradingPass, Ticket}
use Rattle.series.specs.declared.day.JournalEntry.{JournalEntry}
use Rattle.series.specs.declared.day.NewNumbers.{NewNumbers}
use Rattle.series.specs.declared.day.NewNumbers.TheVariants.{One, Two}
use Rattle.series.specs.declared.day.ShownTicket.{ShownTicket}

-- memory as it is lent
abbrev pub unused_row : Row
unused_row = record { kind = Withdrawn; first = 0; second = 0; price = record { value = 0 }; contracts = record { count = 0 } }

-- n unused rows, at most 192; kept shut
unfoldable pub unused : ℕ → List Row
unused n = take n (replicate 192 unused_row)

abbrev pub shown_as : ShownTicket → calls.Ticket
shown_as t = record { series = t.series; customer = t.customer; discharged = t.discharged }

abbrev pub call_of : DayCall → Call
call_of (Place c) = calls.place c.pass c.time c.member c.side c.account c.kind c.size
call_of (Withdraw c) = calls.withdraw c.time c.member c.order (unused c.lent)
call_of (Away c) = calls.away c.time c.market c.bid c.offer
call_of (Open c) = calls.opening c.pass c.time c.waived (unused c.lent)
call_of (Enter c) = calls.enter c.pass c.time c.member c.side c.account c.price c.size (unused c.lent)
call_of (Clock c) = calls.clock c.time (unused c.lent)
call_of (Start c) = calls.start c.pass c.time c.member c.side c.price c.size
call_of (Improve c) = calls.improve c.pass c.time c.member c.price c.size c.replaces (unused c.lent)
call_of (Better c) = calls.better c.pass (shown_as c.ticket) c.time c.price (unused c.lent)
call_of (Finish c) = calls.finish (shown_as c.ticket) c.time (unused c.lent)

-- how many rows a call is lent
abbrev pub lent_to : DayCall → ℕ
lent_to (Place c) = 0
lent_to (Withdraw c) = c.lent
lent_to (Away c) = 0
lent_to (Open c) = c.lent
lent_to (Enter c) = c.lent
lent_to (Clock c) = c.lent
lent_to (Start c) = 0
lent_to (Improve c) = c.lent
lent_to (Better c) = c.lent
lent_to (Finish c) = c.lent

abbrev pub numbers_of : Option NewNumbers → List ℕ
numbers_of (Some (One n)) = n ∷ []
numbers_of (Some (Two n m)) = n ∷ m ∷ []
numbers_of None = []

abbrev pub answer_of : Result Accepted Refusal → Answer
answer_of (Ok a) = accepted a.rows (numbers_of a.numbers) a.opening
answer_of (Err e) = refused (refusal_number e)

abbrev pub handed_of : Option HandedBack → Handed
handed_of (Some (PreOpeningPass n)) = runs.pre_opening_pass n
handed_of (Some (TradingPass n)) = runs.trading_pass n
handed_of (Some (Ticket t)) = runs.ticket (shown_as t)
handed_of None = runs.nothing

-- an entry of the journal: the call, its answer, its memory when it returned, and what it handed back
abbrev pub event_of : JournalEntry → Event
event_of e = record {
  call = call_of e.call;
  answer = answer_of e.outcome.answer;
  memory = take (lent_to e.call) e.memory;
  handed = handed_of e.outcome.handed;
}

-- The journal of a day from an empty series is that of the rules, and under this rule no sequence of calls can deny an
-- order the best terms on offer.
pub record Replayed (rule : Sharing) (number close : ℕ) (calls : List DayCall) (journal : List JournalEntry) : Type 0 where
  pub events : map event_of journal ≡ (run rule number close (map call_of calls)).events
  pub law : BestTerms rule
