use Rattle.std.proofs.Common.{◌≡◌, ◌-◌, ◌++◌, take, drop, sum}
use Rattle.sharing.specs.Asked.{counts}
use Rattle.sharing.specs.Time.{in_order}
use Rattle.sharing.proofs.time.cut_in_order.Given as goal

-- the shares so far, and what the claims that are left would then be given, are all the shares
abbrev pub invariant-loop-share : goal.invariant-loop-share
invariant-loop-share l =
    let cs = counts l.shares in
    (take l.share-index cs ++ in_order (drop l.share-index cs) l.left.count ≡ in_order (counts l.initial.shares) l.initial.left.count)
    × (l.left.count - sum (drop l.share-index cs) ≡ l.initial.left.count - sum (counts l.initial.shares))
