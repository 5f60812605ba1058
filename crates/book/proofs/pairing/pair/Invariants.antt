use Rattle.std.proofs.Common.{◌+◌, ◌≤◌, ◌∷◌, map, length, drop}
use Rattle.book.specs.Pairing.{filled_pair, pairing_rows}
use Rattle.book.proofs.PairingLoop.{Going}
use Rattle.book.proofs.pairing.pair.Given as goal

abbrev pub invariant-loop-unpaired : goal.invariant-loop-unpaired
invariant-loop-unpaired l =
    Going l.price.value (pairing_rows l.price.value l.buyers l.sellers) l.initial.rows l.rows l.count
    ((l.buyer.number, l.unpaired.count) ∷ map filled_pair (drop (l.buyer-index + 1) l.buyers)) l.rest l.sold.count × (l.initial.count ≤ l.count)

abbrev pub decreases-loop-unpaired : goal.decreases-loop-unpaired
decreases-loop-unpaired l = l.unpaired.count + length l.rest

abbrev pub invariant-pairing : goal.invariant-pairing
invariant-pairing l =
    Going l.price.value (pairing_rows l.price.value l.buyers l.sellers) l.initial.rows l.rows l.count
    (map filled_pair (drop l.buyer-index l.buyers)) l.rest l.sold.count
