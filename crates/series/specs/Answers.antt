-- The one contract of all calls.
use Rattle.std.specs.Prelude.{◌≡◌, ℕ, List, [], ◌∷◌, None, Ok, Err, Option, Result}
use Rattle.market.specs.Refusals.{refusal_number}
use Rattle.market.specs.declared.refusal.Refusal.{Refusal}
use Rattle.market.specs.declared.row.Row.{Row}
use Rattle.rules.specs.Calls.{Call}
use Rattle.rules.specs.Runs.{Answer, refused, accepted, event, Handed, nothing, pre_opening_pass, trading_pass, ticket, Reply, declined, opening_price}
use Rattle.rules.specs.Runs as runs
use Rattle.rules.specs.Series.{State}
use Rattle.sharing.specs.Sharing.{Sharing}
use Rattle.series.specs.declared.answer.Entered.{Entered}
use Rattle.series.specs.Tickets.{shown}
use Rattle.series.specs.declared.answer.Opened.{Opened}
use Rattle.series.specs.declared.answer.Started.{Started}
use Rattle.series.specs.declared.pass.PreOpeningPass.{PreOpeningPass}
use Rattle.series.specs.declared.pass.TradingPass.{TradingPass}
use Rattle.series.specs.declared.ticket.Ticket.{Ticket}

-- what each call's result tells: nothing more, a row count, an order's entry, an auction's start
abbrev pub told_nothing : Result (Unit {0}) Refusal → Answer
told_nothing (Ok u) = accepted 0 [] None
told_nothing (Err e) = refused (refusal_number e)

abbrev pub told_rows : Result ℕ Refusal → Answer
told_rows (Ok n) = accepted n [] None
told_rows (Err e) = refused (refusal_number e)

abbrev pub told_entry : Result Entered Refusal → Answer
told_entry (Ok x) = accepted x.rows (x.number ∷ []) None
told_entry (Err e) = refused (refusal_number e)

abbrev pub told_start : Result (Ticket × Started) Refusal → Answer
told_start (Ok x) = accepted 0 (x.1.customer ∷ x.1.starter ∷ []) None
told_start (Err e) = refused (refusal_number e)

abbrev pub told_open : Result (TradingPass × Opened) (PreOpeningPass × Refusal) → Answer
told_open (Ok x) = accepted x.1.rows [] x.1.opening
told_open (Err x) = refused (refusal_number x.1)

-- the pass that an opening hands back, and the ticket that a start hands over
abbrev pub handed_open : Result (TradingPass × Opened) (PreOpeningPass × Refusal) → Handed
handed_open (Ok x) = trading_pass x.0.series
handed_open (Err x) = pre_opening_pass x.0.series

abbrev pub handed_start : Result (Ticket × Started) Refusal → Handed
handed_start (Ok x) = ticket (shown x.0)
handed_start (Err e) = nothing

-- what the answer to a question for the opening price tells
abbrev pub told_top : Result (Option (ℕ × ℕ)) Refusal → Reply
told_top (Ok x) = opening_price x
told_top (Err e) = declined (refusal_number e)

-- a call leaves its series, answers, leaves its memory and hands back passes and tickets as the rules say
pub record Answers (rule : Sharing) (before after : State) (memory : List Row) (told : Answer) (handed : Handed) (c : Call) : Type 0 where
  pub state_is : after ≡ runs.after rule before c
  pub answer_is : told ≡ (event rule before c).answer
  pub memory_is : memory ≡ (event rule before c).memory
  pub handed_is : handed ≡ (event rule before c).handed
