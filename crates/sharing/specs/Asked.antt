-- What asking a rule answers and writes.
use Rattle.std.specs.Prelude.{◌≡◌, ℕ, Bool, not, ◌&&◌, List, [], ◌∷◌, map, length, Option, Result, MatchResult, ◌==◌}
use Rattle.market.specs.Refusals.{refused_by, first_hit}
use Rattle.market.specs.declared.refusal.Refusal.{Refusal}
use Rattle.market.specs.declared.units.Contracts.{Contracts}
use Rattle.sharing.specs.Sharing.{Sharing, in_bounds}

abbrev pub counts : List Contracts → List ℕ
counts cs = map (λ c. c.count) cs

-- refusal 7: an input outside the bounds, or not one place for each share
abbrev pub bounds_checks : List ℕ → ℕ → ℕ → ℕ → List (ℕ × Bool)
bounds_checks claims amount guarantee places =
    (7, not (in_bounds claims amount guarantee && places == length claims)) ∷ []

-- a rule of that meaning, asked: it answers by the checks, and writes the shares where it accepts and nothing where it refuses
pub record Answered (shared : Sharing) (claims : List ℕ) (amount : ℕ) (mark : Option ℕ) (guarantee : ℕ) (before after : List Contracts) (answer : Result (Unit {0}) Refusal) : Type 0 where
  pub answer_is : refused_by answer ≡ first_hit (bounds_checks claims amount guarantee (length before))
  pub shares_are : MatchResult answer (λ _. counts after ≡ shared claims amount mark guarantee) (λ _. after ≡ before)
