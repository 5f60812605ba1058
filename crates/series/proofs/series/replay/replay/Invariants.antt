use Rattle.std.proofs.Common.{◌≡◌, take, vec_items}
use Rattle.series.specs.State.{state}
use Rattle.series.proofs.Replaying.{Replaying}
use Rattle.series.proofs.series.replay.replay.Given as goal

-- the rule stays, and the series and the journal are those of the calls so far
abbrev pub invariant-loop-call : goal.invariant-loop-call
invariant-loop-call g l =
    (l.series.rule ≡ l.initial.series.rule) ×
    Replaying (g.R.SharingRule.shared l.initial.series.rule) l.number l.initial.series.close.price.value (take l.call-index l.calls) (state l.series) (vec_items l.journal)
