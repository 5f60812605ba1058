-- A taker that takes from the table, or is refused.
use Rattle.std.specs.Prelude.{◌≡◌, ℕ, ◌≤◌, Bool, not, ◌&&◌, List, [], ◌∷◌, ◌++◌, length, drop, sum_by, count_by, filter, Result, MatchResult, nat_le}
use Rattle.market.specs.Refusals.{refused_by, first_hit}
use Rattle.market.specs.declared.order.Order.{Order}
use Rattle.market.specs.declared.refusal.Refusal.{Refusal}
use Rattle.market.specs.declared.row.Row.{Row}
use Rattle.sharing.specs.Sharing.{Sharing}
use Rattle.order_table.specs.Orders.{orders, next_number}
use Rattle.order_table.specs.declared.table.Table.{Table}
use Rattle.book.specs.declared.allocation.Taking.{Taking}
use Rattle.matching.specs.declared.take.Taken.{Taken}
use Rattle.book.specs.declared.take.Taker.{Taker}
use Rattle.book.specs.Taking.{taker_fill, trades_of, left_of}

-- refusal 7: over 160 orders that pass, or more than rows, or an amount or a guarantee that no rule accepts
abbrev pub taking_checks : List Order → (Order → Bool) → Taking → ℕ → List (ℕ × Bool)
taking_checks os p t rows =
    (7, not ((nat_le (count_by p os) 160 && nat_le (count_by p os) rows) && (nat_le t.amount.count 1599840 && nat_le t.guarantee.count 9999))) ∷ []

-- rows, the orders left and the contracts of a taker that has taken
pub record Took (rule : Sharing) (p : Order → Bool) (t : Taker) (before after : Table) (old new : List Row) (taken : Taken) : Type 0 where
  pub counted : taken.rows ≡ length (trades_of rule (orders before) p t)
  pub written : new ≡ trades_of rule (orders before) p t ++ drop taken.rows old
  pub few : taken.rows ≤ count_by p (orders before)
  pub left : orders after ≡ left_of rule (orders before) p t
  pub numbers : next_number after ≡ next_number before
  pub traded : taken.traded.count ≡ sum_by (taker_fill rule (orders before) p t) (filter p (orders before))

-- a refused taker changes nothing
pub record Takes (rule : Sharing) (p : Order → Bool) (t : Taker) (before after : Table) (old new : List Row) (answer : Result Taken Refusal) : Type 0 where
  pub answer_is : refused_by answer ≡ first_hit (taking_checks (orders before) p t.taking (length old))
  pub done : MatchResult answer (Took rule p t before after old new) (λ _. (after ≡ before) × (new ≡ old))
