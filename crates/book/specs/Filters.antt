-- What each filter keeps.
use Rattle.std.specs.Prelude.{Bool, not, ◌&&◌, ◌||◌, ◌==◌}
use Rattle.market.specs.Words.{same_side, other, in_book, auctioned, price_of}
use Rattle.market.specs.declared.order.Order.{Order}
use Rattle.rules.specs.Prices.{within}
use Rattle.rules.specs.Series.{due, book_order, competing_order}
use Rattle.rules.specs.Volume.{willing, of_order}
use Rattle.book.specs.declared.select.Filter.{Filter}
use Rattle.book.specs.declared.select.Filter.TheVariants.{Numbered, Besides, Due, Lasting, InBook, Outside, Auctioned, AuctionContra, Contra, BookContra, Reachable, Willing, Crossed, OwnedBy, CompetingOf}

abbrev pub passes : Filter → Order → Bool
passes (Numbered n) o = o.number == n
passes (Besides n) o = not (o.number == n)
passes (Due t) o = due t.count o.exposed
passes (Lasting t) o = not (due t.count o.exposed)
passes InBook o = in_book o.role
passes Outside o = not (in_book o.role)
passes Auctioned o = auctioned o.role
passes AuctionContra o = not (in_book o.role || auctioned o.role)
passes (Contra s) o = same_side o.side (other s)
passes (BookContra s) o = same_side o.side (other s) && in_book o.role
passes (Reachable s b) o = same_side o.side (other s) && in_book o.role && within s b.value (price_of o.kind)
passes (Willing s p) o = willing s p.value (of_order o)
passes (Crossed p) o = willing o.side p.value (of_order o)
passes (OwnedBy m n) o = book_order m n o
passes (CompetingOf m n) o = competing_order m n o
