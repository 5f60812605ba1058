-- What the invariant of a series says.
use Rattle.std.proofs.Common.{◌≡◌, Bool, true, not, ◌&&◌, ◌||◌, eqb, List, [], ◌∷◌, ◌++◌, Some, None, filter, Option, ap, ◌∙◌}
use Rattle.std.specs.List.{list_all, AllByRecursion}
use Rattle.std.proofs.ByRecursion.{All-append, all_kept_by}
use Rattle.std.proofs.lemmas.Bool.{and_parts, and_from}
use Rattle.market.specs.Words.{in_book, auctioned, same_side}
use Rattle.market.specs.declared.auction.Auction.{Auction}
use Rattle.market.specs.declared.order.Order.{Order}
use Rattle.market.specs.declared.order.Role.{Role}
use Rattle.market.specs.declared.order.Role.TheVariants.{Book}
use Rattle.book.proofs.Records.{pass_all, all_passes}
use Rattle.series.specs.Held.{auction_in_span, belongs, starter_stands, held_well}
use Rattle.series.proofs.Starters.{stands_pushed}

module _ (au : Option Auction) (os : List Order) where
  pub held_parts : held_well au os ≡ true → (auction_in_span au ≡ true) × AllByRecursion (λ o. belongs au o ≡ true) os × (starter_stands au os ≡ true)
  held_parts h =
      let b = and_parts (auction_in_span au && list_all (belongs au) os) (starter_stands au os) h in
      let d = and_parts (auction_in_span au) (list_all (belongs au) os) b.0 in
      (d.0, pass_all (belongs au) os d.1, b.1)

  pub held_from : auction_in_span au ≡ true → AllByRecursion (λ o. belongs au o ≡ true) os → starter_stands au os ≡ true → held_well au os ≡ true
  held_from s h k =
      and_from (auction_in_span au && list_all (belongs au) os) (starter_stands au os) (and_from (auction_in_span au) (list_all (belongs au) os) s (all_passes (belongs au) os h)) k

pub held_same : (au : Option Auction) (xs os : List Order) → xs ≡ os → held_well au os ≡ true → held_well au xs ≡ true
held_same au xs os e h = ap (held_well au) e ∙ h

-- an order of the book belongs in every case
belongs_booked : (au : Option Auction) (o : Order) → o.role ≡ Book → belongs au o ≡ true
belongs_booked None o e = ap in_book e
belongs_booked (Some a) o e = ap (λ (r : Role). not (auctioned r) || (same_side o.side a.side && eqb o.number a.customer)) e

module _ (au : Option Auction) (os : List Order) where
  -- some of the orders, the starter's among them
  pub held_kept : (p : Order → Bool) → held_well au os ≡ true → starter_stands au (filter p os) ≡ true → held_well au (filter p os) ≡ true
  held_kept p h k = let b = held_parts au os h in held_from au (filter p os) b.0 (all_kept_by p (λ (o : Order). belongs au o ≡ true) os b.1) k

  -- one more order of the book
  pub held_pushed : (x : Order) → held_well au os ≡ true → x.role ≡ Book → held_well au (os ++ (x ∷ [])) ≡ true
  held_pushed x h e =
      let b = held_parts au os h in
      held_from au (os ++ (x ∷ [])) b.0 (All-append (λ (o : Order). belongs au o ≡ true) os (x ∷ []) b.1 (belongs_booked au x e, tt)) (stands_pushed au os x b.2)
