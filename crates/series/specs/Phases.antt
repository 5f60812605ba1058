-- What a phase says.
use Rattle.std.specs.Prelude.{Bool, true, false, None, Option}
use Rattle.market.specs.declared.auction.Auction.{Auction}
use Rattle.series.specs.declared.phase.Phase.{Phase}
use Rattle.series.specs.declared.phase.Phase.TheVariants.{PreOpening, Trading}

-- whether the series has opened
abbrev pub opened : Phase → Bool
opened PreOpening = false
opened (Trading au) = true

-- the auction that runs
abbrev pub running : Phase → Option Auction
running PreOpening = None
running (Trading au) = au
