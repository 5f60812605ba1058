use Rattle.rules.proofs.Whole.{delivered_rules_lawful}
use Rattle.rules.proofs.delivered_rules_lawful.Goals as goal

pub returns : goal.returns
returns c = delivered_rules_lawful
