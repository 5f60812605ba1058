-- The filled orders of one side of an opening, as the code lists them.
use Rattle.std.proofs.Common.{◌≡◌, ℕ, ◌-◌, Bool, List, [], ◌∷◌, map, length, take, drop, filter, refl, ap, ◌∙◌}
use Rattle.market.specs.declared.order.Order.{Order}
use Rattle.market.specs.declared.units.Contracts.{Contracts}
use Rattle.rules.specs.Allocation.{by_priority}
use Rattle.sharing.specs.Asked.{counts}
use Rattle.book.specs.Places.{orders_at}
use Rattle.book.specs.Ranking.{by_rank, ranked_from}
use Rattle.book.specs.declared.priority.Ranked.{Ranked}
use Rattle.book.proofs.Stable.{ranked_stand}
use Rattle.book.proofs.Takings.{rest_ranked, rest_shared}
use Rattle.matching.specs.Matching.{numbered_fills}

-- the fills of orders in a row
numbered_map : (f : Order → ℕ) (ys : List Order) → numbered_fills ys (map f ys) ≡ map (λ o. (o.number, f o)) ys
numbered_map f [] = refl
numbered_map f (y ∷ ys) = ap (λ xs. (y.number, f y) ∷ xs) (numbered_map f ys)

-- the fills of the ranked orders from a place to the end
pub rest_listed : (p : Order → Bool) (os : List Order) (rs : List Ranked) (start n : ℕ) → n ≡ length rs → drop start rs ≡ by_rank (ranked_from p 0 os) →
    (f : Order → ℕ) (shares : List Contracts) → n ≡ length shares → counts (drop start shares) ≡ map f (by_priority (filter p os)) →
    numbered_fills (orders_at os (take (n - start) (drop start rs))) (counts (take (n - start) (drop start shares))) ≡ map (λ o. (o.number, f o)) (by_priority (filter p os))
rest_listed p os rs start n long ranked f shares even shared =
    (λ i. numbered_fills (orders_at os (rest_ranked p os rs start n long ranked i)) (rest_shared p os rs start n long ranked f shares even shared i))
    ∙ ap (λ ys. numbered_fills ys (map f (by_priority (filter p os)))) (ranked_stand p os)
    ∙ numbered_map f (by_priority (filter p os))
