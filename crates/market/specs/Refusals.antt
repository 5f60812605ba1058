-- The number of each refusal, and which refusal a table of checks gives.
use Rattle.std.specs.Prelude.{ℕ, Bool, cond, List, [], ◌∷◌, Some, None, Ok, Err, Option, Result}
use Rattle.market.specs.declared.refusal.Refusal.{Refusal}
use Rattle.market.specs.declared.refusal.Refusal.TheVariants.{WrongPass, BadTime, EndDue, BadMember, BadPrice, BadSize, OutOfBounds, Full, NumbersUsedUp, NoSuchOrder, AuctionState, NoOpeningPrice, FarFromClose, NotBetter, BeforeEnd, BadQuote}

abbrev pub refusal_number : Refusal → ℕ
refusal_number WrongPass = 1
refusal_number BadTime = 2
refusal_number EndDue = 3
refusal_number BadMember = 4
refusal_number BadPrice = 5
refusal_number BadSize = 6
refusal_number OutOfBounds = 7
refusal_number Full = 8
refusal_number NumbersUsedUp = 9
refusal_number NoSuchOrder = 10
refusal_number AuctionState = 11
refusal_number NoOpeningPrice = 12
refusal_number FarFromClose = 13
refusal_number NotBetter = 14
refusal_number BeforeEnd = 15
refusal_number BadQuote = 16

-- the number of an answer's refusal, none where it is accepted
abbrev pub refused_by : {T : Type 0} → Result T Refusal → Option ℕ
refused_by (Ok x) = None
refused_by (Err e) = Some (refusal_number e)

-- Checks run down a table of refusal numbers, each with the condition that gives it. The first that holds is answered.
abbrev pub first_hit : List (ℕ × Bool) → Option ℕ
first_hit [] = None
first_hit (c ∷ cs) = cond c.1 (Some c.0) (first_hit cs)
