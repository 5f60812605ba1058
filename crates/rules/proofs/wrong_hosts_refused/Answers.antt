use Rattle.rules.proofs.Refuted.{wrong_hosts_refused}
use Rattle.rules.proofs.wrong_hosts_refused.Goals as goal

pub returns : goal.returns
returns c = wrong_hosts_refused
