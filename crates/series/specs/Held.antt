-- What a series keeps besides what its table keeps.
use Rattle.std.specs.Prelude.{Bool, true, not, ◌&&◌, ◌||◌, List, is_some, Some, None, count_by, Option, ◌==◌, nat_le, nat_lt}
use Rattle.std.specs.List.{list_all}
use Rattle.market.specs.Spans.{size_in_span}
use Rattle.market.specs.Words.{in_book, auctioned, competing, same_side, standing}
use Rattle.market.specs.declared.auction.Auction.{Auction}
use Rattle.market.specs.declared.order.Order.{Order}
use Rattle.market.specs.declared.order.Role.{Role}

-- a running auction has a size, and ends by 86,393,000: it begins by 86,390,000 and takes 3,000
abbrev pub auction_in_span : Option Auction → Bool
auction_in_span (Some a) = size_in_span a.size.count && nat_le a.end.count 86393000
auction_in_span None = true

-- an auctioned order has the auction's side and number
abbrev pub auctioned_by : Auction → Order → Bool
auctioned_by a o = not (auctioned o.role) || (same_side o.side a.side && o.number == a.customer)

-- without an auction every order is in the book
abbrev pub belongs : Option Auction → Order → Bool
belongs (Some a) o = auctioned_by a o
belongs None o = in_book o.role

-- the role of a starter's order
abbrev pub starting : Role → Bool
starting r = not (in_book r || auctioned r || competing r)

-- the starter's order: under its number, not exposed, with contracts left
abbrev pub starters_order : Auction → Order → Bool
starters_order a o = o.number == a.starter && starting o.role && not (is_some o.exposed) && nat_lt 0 (standing o)

-- while an auction runs, its starter's order stands
abbrev pub starter_stands : Option Auction → List Order → Bool
starter_stands (Some a) os = nat_le 1 (count_by (starters_order a) os)
starter_stands None os = true

abbrev pub held_well : Option Auction → List Order → Bool
held_well au os = auction_in_span au && list_all (belongs au) os && starter_stands au os
