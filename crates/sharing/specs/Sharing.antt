-- What a sharing rule means: which shares belong to which claims, amount, mark and guarantee.
use Rattle.std.specs.Prelude.{◌≡◌, ℕ, ◌≤◌, min, Bool, true, ◌&&◌, leb, List, length, Some, None, sum, Option, nat_le, slice_index}
use Rattle.std.specs.List.{list_all}

-- the claims in number order, the amount, the place of the marked claim and the guarantee, to the shares
abbrev pub Sharing : Type 0
Sharing = List ℕ → ℕ → Option ℕ → ℕ → List ℕ

-- what every rule accepts: at most 160 claims of at most 9,999 contracts, an amount of at most 1,599,840, a guarantee of at most 9,999
abbrev pub in_bounds : List ℕ → ℕ → ℕ → Bool
in_bounds claims amount guarantee =
    nat_le (length claims) 160 && list_all (λ c. leb c 9999) claims && nat_le amount 1599840 && nat_le guarantee 9999

-- a share for each claim, none above its claim, which use up the amount or the claims
pub record Shares (claims : List ℕ) (amount : ℕ) (shares : List ℕ) : Type 0 where
  pub each : length shares ≡ length claims
  pub within : (k : ℕ) → slice_index shares k ≤ slice_index claims k
  pub all : sum shares ≡ min amount (sum claims)

-- lawful: right shares for every input within the bounds
abbrev pub Lawful : Sharing → Type 0
Lawful shared =
    (claims : List ℕ) (amount : ℕ) (mark : Option ℕ) (guarantee : ℕ) → in_bounds claims amount guarantee ≡ true →
    Shares claims amount (shared claims amount mark guarantee)

-- a mark outside the list counts as none
abbrev pub IgnoresOutsideMarks : Sharing → Type 0
IgnoresOutsideMarks shared =
    (claims : List ℕ) (amount m guarantee : ℕ) → length claims ≤ m →
    shared claims amount (Some m) guarantee ≡ shared claims amount None guarantee
