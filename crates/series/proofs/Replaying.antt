-- A day replayed call by call.
use Rattle.std.proofs.Common.{◌≡◌, ℕ, suc, ◌<◌, ◌≤◌, min, List, [], ◌∷◌, ◌++◌, map, length, take, replicate, Some, None, Option, sym, refl, ap, ◌∙◌, ⊎_elim, arith}
use Rattle.std.proofs.lemmas.List.{append-nil, length-append, length-replicate, map-append, take_all, take_at}
use Rattle.std.proofs.lemmas.Bool.{cases_lt}
use Rattle.market.specs.Refusals.{first_hit}
use Rattle.market.specs.declared.order.Account.TheVariants.{Customer}
use Rattle.market.specs.declared.order.OrderKind.TheVariants.{Limit}
use Rattle.market.specs.declared.order.Side.TheVariants.{Buy}
use Rattle.market.specs.declared.row.Row.{Row}
use Rattle.rules.specs.Calls.{Call, checks}
use Rattle.rules.specs.Runs.{Answer, Day, Event, Handed, after, event, event_by, lent, run, run_from, step}
use Rattle.rules.specs.Series.{State, fresh}
use Rattle.sharing.specs.Sharing.{Sharing}
use Rattle.series.specs.Answers.{Answers}
use Rattle.series.specs.Days.{call_of, event_of, lent_to, unused, unused_row}
use Rattle.series.specs.declared.day.DayCall.{DayCall}
use Rattle.series.specs.declared.day.DayCall.TheVariants.{Place, Withdraw, Away, Open, Enter, Clock, Start, Improve, Better, Finish}
use Rattle.series.specs.declared.day.JournalEntry.{JournalEntry}

-- what stands past the end of a list of calls
abbrev pub no_call : DayCall
no_call = Place (record { pass = 0; time = record { count = 0 }; member = 0; side = Buy; account = Customer; kind = Limit (record { value = 0 }); size = record { count = 0 } })

-- ---- memory to lend

pub unused_all : unused 192 ≡ replicate 192 unused_row
unfolding unused
unused_all = take_all 192 (replicate 192 unused_row) (omega (arith, length-replicate 192 unused_row))

pub unused_long : length (unused 192) ≡ 192
unused_long = ap length unused_all ∙ length-replicate 192 unused_row

unused_part : (n : ℕ) → take n (unused 192) ≡ unused n
unfolding unused
unused_part n = ap (take n) unused_all

-- the part that is lent, at most all of it
pub lent_part : (n m : ℕ) → m ≡ min n 192 → take m (unused 192) ≡ unused n
lent_part n m e = ⊎_elim
    (λ (lt : n < 193). ap (λ k. take k (unused 192)) {x = m} {y = n} (omega arith) ∙ unused_part n)
    (λ (le : 193 ≤ n).
    take_all m (unused 192) (omega (arith, unused_long))
    ∙ sym (take_all n (unused 192) (omega (arith, unused_long)))
    ∙ unused_part n)
    (cases_lt n 193)

pub lent_is : (c : DayCall) → lent (call_of c) ≡ unused (lent_to c)
unfolding unused
lent_is (Place c) = refl
lent_is (Withdraw c) = refl
lent_is (Away c) = refl
lent_is (Open c) = refl
lent_is (Enter c) = refl
lent_is (Clock c) = refl
lent_is (Start c) = refl
lent_is (Improve c) = refl
lent_is (Better c) = refl
lent_is (Finish c) = refl

-- what is left of the memory when the call returns
pub lent_back : (rows rest : List Row) (n m : ℕ) → m ≡ min n 192 → length rows ≡ m → length (rows ++ rest) ≡ 192 → take n (rows ++ rest) ≡ rows
lent_back rows rest n m e f g = ⊎_elim
    (λ (lt : n < 193). take_at rows rest n (omega arith))
    (λ (le : 193 ≤ n).
    take_all n (rows ++ rest) (omega arith)
    ∙ ap (λ xs. rows ++ xs) (empty rest (omega (arith, length-append rows rest)))
    ∙ append-nil rows)
    (cases_lt n 193)
  where
    empty : (xs : List Row) → length xs ≡ 0 → xs ≡ []
    empty [] h = refl
    empty (x ∷ xs) h = absurd (none (length xs) h)
      where
        none : (k : ℕ) → suc k ≡ 0 → ⊥
        none k h = omega arith

-- ---- events

event_call : (rule : Sharing) (st : State) (c : Call) (h : Option ℕ) → (event_by rule st c h).call ≡ c
event_call rule st c (Some r) = refl
event_call rule st c None = refl

-- what a call owes is its event
pub event_is : (rule : Sharing) (before after : State) (memory : List Row) (told : Answer) (handed : Handed) (c : Call) → Answers rule before after memory told handed c →
    (e : Event) → e.call ≡ c → e.answer ≡ told → e.memory ≡ memory → e.handed ≡ handed → e ≡ event rule before c
event_is rule before after memory told handed c a e calls answers memories hands =
    let p = calls ∙ sym (event_call rule before c (first_hit (checks before c))) in
    let q = answers ∙ a.answer_is in
    let r = memories ∙ a.memory_is in
    let s = hands ∙ a.handed_is in
    λ i. record { call = p i; answer = q i; memory = r i; handed = s i }

-- ---- runs

-- one more call
run_more : (rule : Sharing) (d : Day) (cs : List Call) (c : Call) → run_from rule d (cs ++ (c ∷ [])) ≡ step rule (run_from rule d cs) c
run_more rule d [] c = refl
run_more rule d (x ∷ cs) c = run_more rule (step rule d x) cs c

-- after some calls of a day: the series and the journal so far
pub record Replaying (rule : Sharing) (number close : ℕ) (done : List DayCall) (st : State) (journal : List JournalEntry) : Type 0 where
  pub state_is : st ≡ (run rule number close (map call_of done)).state
  pub events_are : map event_of journal ≡ (run rule number close (map call_of done)).events

module _ (rule : Sharing) (number close : ℕ) where
  pub replaying_more : (done : List DayCall) (st : State) (journal : List JournalEntry) → Replaying rule number close done st journal →
      (c : DayCall) (e : JournalEntry) (next : State) → next ≡ after rule st (call_of c) → event_of e ≡ event rule st (call_of c) →
      Replaying rule number close (done ++ (c ∷ [])) next (journal ++ (e ∷ []))
  replaying_more done st journal w c e next s v =
      let d = run rule number close (map call_of done) in
      let more : run rule number close (map call_of (done ++ (c ∷ []))) ≡ step rule d (call_of c) = ap (run rule number close) (map-append call_of done (c ∷ [])) ∙ run_more rule (record { state = fresh number close; events = [] }) (map call_of done) (call_of c) in
      record {
        state_is = s ∙ ap (λ x. after rule x (call_of c)) w.state_is ∙ ap (λ (x : Day). x.state) (sym more);
        events_are =
            map-append event_of journal (e ∷ [])
            ∙ (λ i. w.events_are i ++ ((v ∙ ap (λ x. event rule x (call_of c)) w.state_is) i ∷ []))
            ∙ ap (λ (x : Day). x.events) (sym more);
      }
