-- The turns of a `for` over a chain, with the chain last: its closures are then known where it is built.
use Rattle.std.proofs.Common.{◌≡◌, ◌<◌, List, map, length, get_or, Some, None, Option}
use Rattle.std.specs.Iterator.{Yields}
use Rattle.std.proofs.lemmas.Iterator.{YieldsList}
use Rattle.std.proofs.lemmas.Iterator.Consumers.{YieldsList-turn, YieldsList-end}

module _ {S A B : Type 0} {steps : S → Option A → S → Type 0} {v : A → B} {s : S} {all : List B} (xs : List A) (t : S) (y : Yields steps s xs t) (r : Option A) (u : S) where
  pub turn_of : (x : A) → r ≡ Some x → steps t r u → YieldsList steps v s all → (length xs < length all) × (v x ≡ get_or all (length xs) (v x))
  turn_of x is st e = YieldsList-turn e xs t y r u x is st

  pub end_of : r ≡ None → steps t r u → YieldsList steps v s all → (map v xs ≡ all) × (length xs ≡ length all)
  end_of is st e = YieldsList-end e xs t y r u is st
