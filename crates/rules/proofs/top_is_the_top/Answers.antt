use Rattle.rules.proofs.Tops.{top_is_the_top}
use Rattle.rules.proofs.top_is_the_top.Goals as goal

pub returns : goal.returns
returns c = top_is_the_top
