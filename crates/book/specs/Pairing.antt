-- The buyers and sellers of an opening, and the rows that pair them.
use Rattle.std.specs.Prelude.{ℕ, List, map}
use Rattle.market.specs.declared.row.Row.{Row}
use Rattle.rules.specs.Opening.{intervals, paired}
use Rattle.book.specs.declared.pairing.Filled.{Filled}

-- an order's number with its contracts
abbrev pub filled_pair : Filled → ℕ × ℕ
filled_pair f = (f.number, f.contracts.count)

-- the k-th contract bought is the k-th contract sold, at price p
abbrev pub pairing_rows : ℕ → List Filled → List Filled → List Row
pairing_rows p buyers sellers = paired p (intervals 0 (map filled_pair buyers)) (intervals 0 (map filled_pair sellers))
