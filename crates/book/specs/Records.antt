-- What the table of order records keeps.
use Rattle.std.specs.Prelude.{◌≡◌, ℕ, ◌+◌, ◌≤◌, Bool, true, not, ◌&&◌, ◌||◌, List, [], ◌∷◌, length, count_by, ◌==◌, nat_le, nat_lt}
use Rattle.std.specs.List.{AllByRecursion}
use Rattle.market.specs.Words.{in_book, auctioned, price_of}
use Rattle.market.specs.declared.order.Order.{Order}

-- left, traded and gone add up to the size, which is at most 9,999
abbrev pub balanced : Order → Bool
balanced o = o.left.count + o.traded.count + o.gone.count == o.size.count && nat_le o.size.count 9999

-- a record that no order uses is blank: it has no number, no contracts and no price
abbrev pub free_record : Order → Bool
free_record o = o.number == 0 && o.size.count == 0 && price_of o.kind == 0

-- the numbers rise, above low and below top
abbrev pub rises : ℕ → List Order → ℕ → Bool
rises low [] top = nat_lt low top
rises low (o ∷ os) top = nat_lt low o.number && rises o.number os top

abbrev pub booked : Order → Bool
booked o = in_book o.role

-- the customer's order of an auction
abbrev pub customers : Order → Bool
customers o = auctioned o.role

-- an order of an auction other than the customer's
abbrev pub auction_contra : Order → Bool
auction_contra o = not (in_book o.role || auctioned o.role)

-- a list of live records with the next number
pub record Live (os : List Order) (next : ℕ) : Type 0 where
  pub few : length os ≤ 161
  pub sound : AllByRecursion (λ o. balanced o ≡ true) os
  pub rising : rises 0 os next ≡ true
  pub books : count_by booked os ≤ 128
  pub rivals : count_by auction_contra os ≤ 32
  pub customer : count_by customers os ≤ 1
  pub numbers : next ≤ 65536
