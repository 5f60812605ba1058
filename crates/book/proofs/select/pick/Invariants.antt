use Rattle.std.proofs.Common.{◌≡◌, length, take, map}
use Rattle.book.proofs.select.pick.Given as goal

abbrev pub invariant-loop-order : goal.invariant-loop-order
invariant-loop-order l = (take l.count l.out ≡ map (λ o. o.now) l.yielded) × (l.count ≡ length l.yielded)
