use Rattle.rules.proofs.Whole.{best_terms_stand}
use Rattle.rules.proofs.best_terms_stand.Goals as goal

pub returns : goal.returns
returns c = best_terms_stand
