use Rattle.book.proofs.Searching.{Trying}
use Rattle.book.proofs.opening_price.search.Search.try_limits.Given as goal

abbrev pub invariant-loop-step : goal.invariant-loop-step
invariant-loop-step l = Trying l.side l.step-items l.initial.best l.best l.last l.step-index
