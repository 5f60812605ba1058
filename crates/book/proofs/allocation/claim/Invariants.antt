use Rattle.std.proofs.Common.{◌≡◌, map, take}
use Rattle.market.specs.Words.{standing}
use Rattle.sharing.specs.Asked.{counts}
use Rattle.book.specs.Places.{orders_at}
use Rattle.book.proofs.allocation.claim.Given as goal

abbrev pub invariant-loop-i : goal.invariant-loop-i
invariant-loop-i l = counts (take l.i l.claims) ≡ map standing (orders_at l.orders (take l.i l.ranked))
