use Rattle.std.proofs.Common.{◌≡◌, ◌++◌, take, drop}
use Rattle.sharing.specs.Asked.{counts}
use Rattle.sharing.specs.ProRata.{parts}
use Rattle.sharing.proofs.pro_rata.cut_to_parts.Given as goal

-- the shares so far, and what the claims that are left would then be given, are all the shares
abbrev pub invariant-loop-share : goal.invariant-loop-share
invariant-loop-share l =
    let cs = counts l.shares in
    take l.share-index cs ++ parts l.ratio.amount.count l.ratio.total.count (drop l.share-index cs) l.left.count ≡ parts l.ratio.amount.count l.ratio.total.count (counts l.initial.shares) l.initial.left.count
