-- Worked examples of the two rules.
use Rattle.std.specs.Prelude.{◌≡◌, [], ◌∷◌, Some, None}
use Rattle.sharing.specs.ProRata.{pro_rata}
use Rattle.sharing.specs.Time.{time_with_guarantee}

-- fifteen contracts for a marked claim of 20 with a guarantee of 8 and a claim of 10, and for two claims of 20
abbrev pub Examples : Type 0
Examples =
    (time_with_guarantee (20 ∷ 10 ∷ []) 15 (Some 0) 8 ≡ 8 ∷ 7 ∷ [])
    × (pro_rata (20 ∷ 10 ∷ []) 15 (Some 0) 8 ≡ 10 ∷ 5 ∷ [])
    × (time_with_guarantee (20 ∷ 20 ∷ []) 15 None 0 ≡ 15 ∷ 0 ∷ [])
    × (pro_rata (20 ∷ 20 ∷ []) 15 None 0 ≡ 8 ∷ 7 ∷ [])
