use Rattle.std.proofs.Common.{◌-◌, length}
use Rattle.book.specs.Claims.{claimants}
use Rattle.book.proofs.Levels.{Allocating}
use Rattle.book.proofs.allocation.share_levels.Given as goal

abbrev pub invariant-loop-start : goal.invariant-loop-start
invariant-loop-start g l =
    Allocating (g.R.SharingRule.shared l.rule) (claimants l.all) l.all.taking.amount.count l.all.taking.marked l.all.taking.guarantee.count l.shares l.start l.ahead

abbrev pub decreases-loop-start : goal.decreases-loop-start
decreases-loop-start g l = length l.all.ranked.now - l.start
