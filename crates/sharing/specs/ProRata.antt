-- Sharing in proportion to the claims.
use Rattle.std.specs.Prelude.{ℕ, ◌+◌, ◌-◌, ◌*◌, ◌/◌, ◌%◌, ◌<◌, min, cond, List, [], ◌∷◌, sum_by, sum, Option, nat_le, slice_index}

-- a claim's part of the amount, rounded down
abbrev pub part : ℕ → ℕ → ℕ → ℕ
part amount total c = c * amount / total

-- one contract more, if the division left a remainder and there are contracts to spare
abbrev pub extra : ℕ → ℕ → ℕ → ℕ → ℕ
extra amount total c spare = min 1 (min spare (c * amount % total))

abbrev pub parts : ℕ → ℕ → List ℕ → ℕ → List ℕ
parts amount total [] spare = []
parts amount total (c ∷ cs) spare =
    (part amount total c + extra amount total c spare) ∷ parts amount total cs (spare - extra amount total c spare)

-- Each claim in full, if the amount covers all claims. Otherwise each gets claim * amount / total rounded down,
-- and the rest goes one contract each, in order, to the claims whose division left a remainder.
abbrev pub pro_rata : List ℕ → ℕ → Option ℕ → ℕ → List ℕ
pro_rata claims amount mark guarantee =
    cond (nat_le (sum claims) amount) claims
    (parts amount (sum claims) claims (amount - sum_by (part amount (sum claims)) claims))

-- where the amount does not cover all claims, each share is less than one contract from claim * amount / total
abbrev pub Near : List ℕ → ℕ → List ℕ → Type 0
Near claims amount shares =
    amount < sum claims → (k : ℕ) →
    (slice_index shares k * sum claims < slice_index claims k * amount + sum claims) × (slice_index claims k * amount < slice_index shares k * sum claims + sum claims)
