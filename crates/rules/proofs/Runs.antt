-- The theorem, from the facts about sharing and about the opening.
use Rattle.std.proofs.Common.{◌≡◌, ℕ, ◌+◌, List, [], ◌∷◌, ◌++◌, length, take, drop, Some, None, Option, sym, refl, subst, arith}
use lib.Seq.{take-append_seam}
use Rattle.std.proofs.ByRecursion.{All-weaker}
use Rattle.std.specs.List.{AllByRecursion}
use Rattle.market.specs.Refusals.{first_hit}
use Rattle.rules.specs.Calls.{Call, away, better, checks, clock, effect, enter, finish, improve, opening, place, start, withdraw}
use Rattle.rules.specs.Law.{BestTerms, Conserved, Fair, FairEvent, NoOrderDenied, Numbered, RecordsAddUp}
use Rattle.rules.specs.Ledger.{Entry, Ledger, customer_after, empty_ledger, entries, first_of, ledger, named, post, posted, quotes_after}
use Rattle.rules.specs.Runs.{Day, Event, event, event_by, lent, opens_at, run, run_from, state_by, step, written}
use Rattle.rules.specs.Series.{State, fresh, left_under}
use Rattle.market.specs.Words.{AddsUp}
use Rattle.sharing.specs.Sharing.{Lawful, Sharing}
use Rattle.rules.proofs.Sound.{Good, Sound, Facts}
use Rattle.rules.proofs.Plain.{posting, fresh_sound, away_sound, place_sound, withdraw_sound}
use Rattle.rules.proofs.Swaps.{clock_sound, start_sound}
use Rattle.rules.proofs.Offers.{improve_sound, better_sound}
use Rattle.rules.proofs.Enter.{enter_sound}
use Rattle.rules.proofs.Finish.{finish_sound}
use Rattle.rules.proofs.Opens.{opening_sound}
use Rattle.rules.proofs.Fairness.{enter_fair, finish_fair, opening_fair}

posted_push : (h : Ledger) (es : List Event) (e : Event) → posted h (es ++ (e ∷ [])) ≡ post (posted h es) e
posted_push h [] e = refl
posted_push h (x ∷ es) e = posted_push (post h x) es e

-- the rows that the answer counts are the rows of the effect
counted : (rule : Sharing) (st : State) (c : Call) → take (length (effect rule st c).rows) (written (effect rule st c).rows (lent c)) ≡ (effect rule st c).rows
counted rule st c = take-append_seam (effect rule st c).rows (drop (length (effect rule st c).rows) (lent c))

-- what left answers is what stands
conserved_by_left : (d : Day) → AllByRecursion (λ (b : Entry). named b.number (ledger d.events).rows + left_under d.state.orders b.number ≡ b.size) (ledger d.events).orders → Conserved d
conserved_by_left d h =
    All-weaker (λ (b : Entry). named b.number (ledger d.events).rows + left_under d.state.orders b.number ≡ b.size) _
    (λ b e n k. let same : left_under d.state.orders b.number ≡ n = cc in omega arith) (ledger d.events).orders h

module _ (rule : Sharing) (facts : Facts rule) (close : ℕ) where
  call_sound : (st : State) (h : Ledger) → Sound close st h → (c : Call) → first_hit (checks st c) ≡ None → Sound close (effect rule st c).state (posting rule st h c)
  call_sound st h s (place pass t m d a k n) e = place_sound rule close st h s pass t m d a k n e
  call_sound st h s (withdraw t m n memory) e = withdraw_sound rule close st h s t m n memory e
  call_sound st h s (away t k b o) e = away_sound rule close st h s t k b o e
  call_sound st h s (opening pass t w memory) e = opening_sound rule facts close st h s pass t w memory e
  call_sound st h s (enter pass t m d a p n memory) e = enter_sound rule facts close st h s pass t m d a p n memory e
  call_sound st h s (clock t memory) e = clock_sound rule close st h s t memory e
  call_sound st h s (start pass t m d p n) e = start_sound rule close st h s pass t m d p n e
  call_sound st h s (improve pass t m p n r memory) e = improve_sound rule close st h s pass t m p n r memory e
  call_sound st h s (better pass k t p memory) e = better_sound rule close st h s pass k t p memory e
  call_sound st h s (finish k t memory) e = finish_sound rule facts close st h s k t memory e

  call_fair : (st : State) (h : Ledger) → Sound close st h → (c : Call) → first_hit (checks st c) ≡ None → Fair close h c (effect rule st c).numbers (opens_at st c) (effect rule st c).rows
  call_fair st h s (place pass t m d a k n) e = tt
  call_fair st h s (withdraw t m n memory) e = tt
  call_fair st h s (away t k b o) e = tt
  call_fair st h s (opening pass t w memory) e = opening_fair rule facts close st h s pass t w memory e
  call_fair st h s (enter pass t m d a p n memory) e = enter_fair rule facts close st h s pass t m d a p n memory e
  call_fair st h s (clock t memory) e = tt
  call_fair st h s (start pass t m d p n) e = tt
  call_fair st h s (improve pass t m p n r memory) e = tt
  call_fair st h s (better pass k t p memory) e = tt
  call_fair st h s (finish k t memory) e = finish_fair rule facts close st h s k t memory e

  event_sound : (st : State) (h : Ledger) → Sound close st h → (c : Call) (x : Option ℕ) → first_hit (checks st c) ≡ x →
      Sound close (state_by rule st c x) (post h (event_by rule st c x))
  event_sound st h s c (Some r) e = s
  event_sound st h s c None e = subst (λ rs. Sound close (effect rule st c).state (record {
    orders = h.orders ++ entries h c (effect rule st c).numbers;
    quotes = quotes_after h.quotes c;
    rows = h.rows ++ rs;
    opened_at = first_of (opens_at st c) h.opened_at;
    customer = customer_after h.customer c (effect rule st c).numbers;
  })) (sym (counted rule st c)) (call_sound st h s c e)

  event_fair : (st : State) (h : Ledger) → Sound close st h → (c : Call) (x : Option ℕ) → first_hit (checks st c) ≡ x →
      FairEvent close h (event_by rule st c x)
  event_fair st h s c (Some r) e = tt
  event_fair st h s c None e = subst (Fair close h c (effect rule st c).numbers (opens_at st c)) (sym (counted rule st c)) (call_fair st h s c e)

  step_sound : (d : Day) → Sound close d.state (ledger d.events) → (c : Call) → Sound close (step rule d c).state (ledger (step rule d c).events)
  step_sound d s c = subst (Sound close (step rule d c).state) (sym (posted_push empty_ledger d.events (event rule d.state c))) (event_sound d.state (ledger d.events) s c (first_hit (checks d.state c)) refl)

  run_sound_from : (d : Day) → Sound close d.state (ledger d.events) → (cs : List Call) → Sound close (run_from rule d cs).state (ledger (run_from rule d cs).events)
  run_sound_from d s [] = s
  run_sound_from d s (c ∷ cs) = run_sound_from (step rule d c) (step_sound d s c) cs

  run_sound : (number : ℕ) (cs : List Call) → Sound close (run rule number close cs).state (ledger (run rule number close cs).events)
  run_sound number cs = run_sound_from (record { state = fresh number close; events = [] }) (fresh_sound number close) cs

  kept : (number : ℕ) (cs : List Call) (c : Call) →
      FairEvent close (ledger (run rule number close cs).events) (event rule (run rule number close cs).state c) × Conserved (step rule (run rule number close cs) c) × Numbered (step rule (run rule number close cs) c)
  kept number cs c =
      let d : Day = run rule number close cs in
      let s = run_sound number cs in
      (event_fair d.state (ledger d.events) s c (first_hit (checks d.state c)) refl, conserved_by_left (step rule d c) (step_sound d s c).conserved, (step_sound d s c).rising)

  pub records : (number : ℕ) (cs : List Call) → AllByRecursion AddsUp (run rule number close cs).state.orders
  records number cs = All-weaker (Good (run rule number close cs).state.trading) AddsUp (λ o g. g.adds) (run rule number close cs).state.orders (run_sound number cs).good

pub best_terms : (rule : Sharing) → Facts rule → BestTerms rule
best_terms rule facts number close span cs c = kept rule facts close number cs c

pub no_order_denied : ((rule : Sharing) → Lawful rule → Facts rule) → NoOrderDenied
no_order_denied facts rule lawful = best_terms rule (facts rule lawful)

pub records_add_up : ((rule : Sharing) → Lawful rule → Facts rule) → RecordsAddUp
records_add_up facts rule lawful number close cs = records rule (facts rule lawful) close number cs
