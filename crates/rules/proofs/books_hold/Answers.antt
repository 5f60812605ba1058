use Rattle.rules.proofs.Worked.{books_hold}
use Rattle.rules.proofs.books_hold.Goals as goal

pub returns : goal.returns
returns c = books_hold
