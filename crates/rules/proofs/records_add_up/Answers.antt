use Rattle.rules.proofs.Whole.{records_stand}
use Rattle.rules.proofs.records_add_up.Goals as goal

pub returns : goal.returns
returns c = records_stand
