use Rattle.std.proofs.Common.{◌≡◌, ◌++◌, map, length, take, drop}
use Rattle.sharing.specs.Asked.{counts}
use Rattle.matching.specs.Matching.{numbered_fills}
use Rattle.book.specs.Pairing.{filled_pair}
use Rattle.book.specs.Places.{orders_at}
use Rattle.matching.proofs.opening.list_fills.Given as goal

-- what is listed, and what the orders that are left would add, is the whole list
abbrev pub invariant-loop-i : goal.invariant-loop-i
invariant-loop-i l =
    map filled_pair (take (length l.yielded) l.filled) ++ numbered_fills (orders_at l.orders (drop (length l.yielded) l.ranked)) (counts (drop (length l.yielded) l.shares))
    ≡ numbered_fills (orders_at l.orders l.ranked) (counts l.shares)
