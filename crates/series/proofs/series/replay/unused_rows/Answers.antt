use Rattle.std.proofs.Common.{sym}
use Rattle.series.proofs.Replaying.{unused_all}
use Rattle.series.proofs.series.replay.unused_rows.Goals as goal

pub returns : goal.returns
returns c = sym unused_all
