-- What the table keeps of each order record.
use Rattle.std.specs.Prelude.{Bool, ◌&&◌, nat_le}
use Rattle.market.specs.Words.{price_of}
use Rattle.market.specs.declared.order.Order.{Order}
use Rattle.book.specs.Records.{balanced}

-- a limit is at most 99,999 cents
abbrev pub priced : Order → Bool
priced o = nat_le (price_of o.kind) 99999

abbrev pub sound_record : Order → Bool
sound_record o = balanced o && priced o
