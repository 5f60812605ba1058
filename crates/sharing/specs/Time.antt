-- Sharing by time, with a guarantee for one marked claim.
use Rattle.std.specs.Prelude.{ℕ, ◌+◌, ◌-◌, min, List, [], ◌∷◌, Some, None, sum, Option, slice_index, slice_set}

-- each claim in order takes what it can of what is left
abbrev pub in_order : List ℕ → ℕ → List ℕ
in_order [] left = []
in_order (c ∷ cs) left = min c left ∷ in_order cs (left - c)

-- the claims without the marked one
abbrev pub others : List ℕ → Option ℕ → List ℕ
others claims None = claims
others claims (Some m) = slice_set claims m 0

-- what the marked claim gets first
abbrev pub assured : List ℕ → ℕ → ℕ → ℕ → ℕ
assured claims amount m guarantee = min (slice_index claims m) (min guarantee amount)

-- The marked claim first gets the least of claim, guarantee and amount, then the others are filled in order, then the marked one takes the rest.
-- A mark outside the list has no claim and no place, so it counts as none.
abbrev pub time_with_guarantee : List ℕ → ℕ → Option ℕ → ℕ → List ℕ
time_with_guarantee claims amount None guarantee = in_order claims amount
time_with_guarantee claims amount (Some m) guarantee =
    let first : ℕ = assured claims amount m guarantee in
    let rest : List ℕ = in_order (slice_set claims m 0) (amount - first) in
    slice_set rest m (first + min (slice_index claims m - first) (amount - first - sum rest))
