-- What a call owes, once its checks are known.
use Rattle.std.proofs.Common.{◌≡◌, ℕ, ◌+◌, Bool, false, List, [], ◌∷◌, ◌++◌, length, drop, None, Option, ap, ◌∙◌}
use Rattle.std.specs.List.{AllByRecursion}
use Rattle.market.specs.Refusals.{first_hit}
use Rattle.market.proofs.Tables.{clear}
use Rattle.market.specs.declared.auction.Auction.{Auction}
use Rattle.market.specs.declared.order.Order.{Order}
use Rattle.market.specs.declared.row.Row.{Row}
use Rattle.rules.specs.Calls.{Call, checks, effect, at_time}
use Rattle.rules.specs.Runs.{Answer, accepted, Handed, event_by, handed_over, state_by, opens_at, lent, written}
use Rattle.rules.specs.Series.{State}
use Rattle.sharing.specs.Sharing.{Sharing}
use Rattle.series.specs.Answers.{Answers}

-- no check of an accepted call hits
pub all_clear : (cs : List (ℕ × Bool)) → None ≡ first_hit cs → AllByRecursion (λ c. c.1 ≡ false) cs
all_clear [] e = tt
all_clear (c ∷ cs) e = let k = clear c.0 c.1 cs e in (k.0, all_clear cs k.1)

module _ (rule : Sharing) (st : State) (c : Call) where
  -- a call that no check hits has its effect
  pub accepts : (next : State) (memory : List Row) (told : Answer) (handed : Handed) → None ≡ first_hit (checks st c) → next ≡ (effect rule st c).state →
      told ≡ accepted (length (effect rule st c).rows) (effect rule st c).numbers (opens_at st c) → memory ≡ written (effect rule st c).rows (lent c) → handed ≡ handed_over st c → Answers rule st next memory told handed c
  accepts next memory told handed e s a m h = record {
    state_is = s ∙ ap (state_by rule st c) e;
    answer_is = a ∙ ap (λ (h : Option ℕ). (event_by rule st c h).answer) e;
    memory_is = m ∙ ap (λ (h : Option ℕ). (event_by rule st c h).memory) e;
    handed_is = h ∙ ap (λ (h : Option ℕ). (event_by rule st c h).handed) e;
  }

-- the series at another time, with another next number, other orders and another auction
abbrev pub changed : State → ℕ → ℕ → List Order → Option Auction → State
changed st t n os au = record { number = st.number; close = st.close; trading = st.trading; time = t; next = n; away = st.away; orders = os; auction = au }

pub changed_is : (st : State) (t used n : ℕ) (os now : List Order) (au : Option Auction) → n ≡ st.next + used → os ≡ now → changed st t n os au ≡ at_time t used now au st
changed_is st t used n os now au e f = ap (λ (k : ℕ). changed st t k os au) e ∙ ap (λ (xs : List Order). changed st t (st.next + used) xs au) f

-- rows written to the front of the memory that a call is lent
pub written_is : (rows same before after : List Row) (n : ℕ) → rows ≡ same → n ≡ length rows → after ≡ rows ++ drop n before → (n ≡ length same) × (after ≡ written same before)
written_is rows same before after n e f w =
    let k : n ≡ length same = f ∙ ap length e in
    (k, w ∙ ap (λ (rs : List Row). rs ++ drop n before) e ∙ ap (λ (i : ℕ). same ++ drop i before) k)

-- a call that counts the rows it writes
module _ (rule : Sharing) (st : State) (c : Call) where
  pub accepts_rows : (next : State) (memory : List Row) (count : ℕ) (handed : Handed) → None ≡ first_hit (checks st c) → next ≡ (effect rule st c).state → count ≡ length (effect rule st c).rows →
      memory ≡ (effect rule st c).rows ++ drop count (lent c) → handed ≡ handed_over st c → Answers rule st next memory (accepted count (effect rule st c).numbers (opens_at st c)) handed c
  accepts_rows next memory count handed e s n m h =
      accepts rule st c next memory (accepted count (effect rule st c).numbers (opens_at st c)) handed e s
      (ap (λ (k : ℕ). accepted k (effect rule st c).numbers (opens_at st c)) n)
      (m ∙ ap (λ (k : ℕ). (effect rule st c).rows ++ drop k (lent c)) n)
      h
