use Rattle.rules.proofs.Whole.{refusals_change_nothing}
use Rattle.rules.proofs.refusals_change_nothing.Goals as goal

pub returns : goal.returns
returns c = refusals_change_nothing
