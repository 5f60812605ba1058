-- A search through candidates that evaluates each by the ladders of the two sides.
use Rattle.std.specs.Prelude.{◌≡◌, ℕ, cond, List, [], ◌∷◌, ◌++◌, Option, Some, None, fold, ◌==◌}
use Rattle.market.specs.declared.order.Side.{Side}
use Rattle.market.specs.declared.order.Side.TheVariants.{Buy, Sell}
use Rattle.std.specs.Option.{option_eq}
use Rattle.book.specs.declared.ladder.Step.{Step}
use Rattle.book.specs.declared.opening_price.search.Opening.{Opening}
use Rattle.book.specs.declared.opening_price.search.Search.{Search}
use Rattle.book.specs.Candidates.{around, beside}
use Rattle.book.specs.Rating.{better_on}
use Rattle.book.specs.Rungs.{rungs}

-- a search of the same opening gone on through more candidates
pub record Tried (before after : Search) (cs : List ℕ) : Type 0 where
  pub opening : after.opening.now ≡ before.opening.now
  pub best : after.best.price ≡ fold (better_on before.opening.now) before.best.price cs

-- the grid prices beside the limits, once for limits in a row at one price
abbrev pub beside_steps : Side → Option ℕ → List Step → List ℕ
beside_steps side last [] = []
beside_steps side last (s ∷ ss) = cond (option_eq (λ p q. p == q) last (Some s.price)) (beside_steps side last ss) (beside side s.price ++ beside_steps side (Some s.price) ss)

-- all candidates: around the close and beside each limit
abbrev pub candidates : Opening → List ℕ
candidates i = around i.close.value ++ beside_steps Buy None (rungs i.buys) ++ beside_steps Sell None (rungs i.sells)
