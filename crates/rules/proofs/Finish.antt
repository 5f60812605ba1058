-- Finish keeps `Sound`.
use Rattle.std.proofs.Common.{◌≡◌, ℕ, ◌+◌, ◌*◌, ◌/◌, ◌<◌, ◌≤◌, Bool, true, false, cond, not, ◌&&◌, ◌||◌, eqb, ◌⊎◌, List, [], ◌++◌, map, is_some, Some, None, sum_by, filter, Option, sym, refl, ap, ◌∙◌, subst, inl, inr, ⊎_elim, arith}
use Rattle.std.specs.List.{AllByRecursion}
use Rattle.std.proofs.ByRecursion.{all_kept_by, kept_by_passes, All-weaker}
use Rattle.std.proofs.lemmas.Bool.{eqb-true, eqb-false, ne_eqb, both_ways, cases_eq, not-true, or_parts}
use Rattle.market.specs.Refusals.{first_hit}
use Rattle.market.specs.declared.auction.Auction.{Auction}
use Rattle.market.specs.declared.order.Order.{Order}
use Rattle.market.specs.declared.order.Side.{Side}
use Rattle.market.specs.declared.order.Side.TheVariants.{Buy, Sell}
use Rattle.market.specs.declared.row.Row.{Row}
use Rattle.market.specs.declared.row.RowKind.TheVariants.{Withdrawn}
use Rattle.market.specs.declared.units.Millis.{Millis}
use Rattle.rules.specs.Allocation.{fill, taker_rows}
use Rattle.rules.specs.Calls.{Effect, Ticket, checks, effect, effect_of, finish, finished, withdrawn_row}
use Rattle.rules.specs.Ledger.{Ledger, named}
use Rattle.rules.specs.Series.{State, left_under}
use Rattle.market.specs.Words.{auctioned, departure, in_book, other, same_side, standing}
use Rattle.sharing.specs.Sharing.{Sharing}
use Rattle.rules.proofs.Tally.{sum_kept, sum_two, sum_under, all_of}
use Rattle.rules.proofs.Sound.{Roled, Running, Auctioning, Sound, Good, other_auction, Facts, Lot}
use Rattle.rules.proofs.Matching.{left_none, named_append, kept_kept, kept_same, matched_kept, count_kept, all_from_kept}
use Rattle.rules.proofs.Plain.{posting}
use Rattle.rules.proofs.Offers.{ticket_runs}
use Rattle.rules.proofs.Trading.{traded, traded_accounts, traded_all, traded_good, traded_matched, traded_count}
use Rattle.rules.proofs.Enter.{lot_kept}
use Rattle.rules.proofs.Steps.{accepts, left_kept, left_split, departures_named, none_yet, step_conserved, step_unnamed, step_rising, step_numbered, matched_nil}

pub same_self : (s : Side) → same_side s s ≡ true
same_self Buy = refl
same_self Sell = refl

pub same_other : (s : Side) → same_side s (other s) ≡ false
same_other Buy = refl
same_other Sell = refl

-- the rows of auction orders that are left after a finish
abbrev pub leftover : List Order → List Row
leftover os = map withdrawn_row (filter (λ o. not (in_book o.role)) os)

module _ (rule : Sharing) (facts : Facts rule) (close : ℕ) (st : State) (h : Ledger) (s : Sound close st h) (a : Auction) (is : st.auction ≡ Some a) where
  pub run : Auctioning a st.next st.orders h.orders h.customer
  run = subst (λ x. Running x st.next st.orders h.orders h.customer) is s.running

  pub roled_now : AllByRecursion (Roled (Some a)) st.orders
  roled_now = subst (λ x. AllByRecursion (Roled x) st.orders) is s.roled

  abbrev pub is_contra : Order → Bool
  is_contra o = same_side o.side (other a.side)

  abbrev pub contra : List Order
  contra = filter is_contra st.orders

  abbrev pub shares : Order → ℕ
  shares = fill rule contra a.size.count (Some a.starter) (2 * a.size.count / 5)

  abbrev apart_from : Order → Bool
  apart_from o = not (eqb o.number a.customer)

  customer_not : (o : Order) → Roled (Some a) o → o.number ≡ a.customer → is_contra o ≡ false
  customer_not o (inl r) e = absurd (r.1 e)
  customer_not o (inr r) e = go r.2
    where
      go : ((o.number ≡ a.customer) × (o.side ≡ a.side)) ⊎ ((o.number ≡ a.customer → ⊥) × (o.side ≡ other a.side) × (auctioned o.role ≡ false)) → is_contra o ≡ false
      go (inl q) = ap (λ x. same_side x (other a.side)) q.1 ∙ same_other a.side
      go (inr q) = absurd (q.0 e)

  starter_contra : (o : Order) → Roled (Some a) o → o.number ≡ a.starter → is_contra o ≡ true
  starter_contra o (inl r) e = absurd (r.2 e)
  starter_contra o (inr r) e = go r.2
    where
      go : ((o.number ≡ a.customer) × (o.side ≡ a.side)) ⊎ ((o.number ≡ a.customer → ⊥) × (o.side ≡ other a.side) × (auctioned o.role ≡ false)) → is_contra o ≡ true
      go (inl q) = absurd (run.apart (sym q.0 ∙ e))
      go (inr q) = ap (λ x. same_side x (other a.side)) q.1 ∙ same_self (other a.side)

  counted : (o : Order) → Roled (Some a) o → ◌≤◌ (cond (is_contra o) 1 0) (cond (in_book o.role) 1 0 + cond (other_auction o) 1 0)
  counted o (inl r) = by (is_contra o) (in_book o.role) (other_auction o) r.0
    where
      by : (x y z : Bool) → y ≡ true → ◌≤◌ (cond x 1 0) (cond y 1 0 + cond z 1 0)
      by true true z e = omega arith
      by false true z e = omega arith
      by x false z e = absurd (both_ways false refl e)
  counted o (inr r) = go r.2
    where
      yes : (x y z : Bool) → z ≡ true → ◌≤◌ (cond x 1 0) (cond y 1 0 + cond z 1 0)
      yes true y true e = omega arith
      yes false y true e = omega arith
      yes x y false e = absurd (both_ways false refl e)

      no : (x y z : Bool) → x ≡ false → ◌≤◌ (cond x 1 0) (cond y 1 0 + cond z 1 0)
      no true y z e = absurd (both_ways true e refl)
      no false y z e = omega arith

      go : ((o.number ≡ a.customer) × (o.side ≡ a.side)) ⊎ ((o.number ≡ a.customer → ⊥) × (o.side ≡ other a.side) × (auctioned o.role ≡ false)) → ◌≤◌ (cond (is_contra o) 1 0) (cond (in_book o.role) 1 0 + cond (other_auction o) 1 0)
      go (inl q) = no (is_contra o) (in_book o.role) (other_auction o) (ap (λ x. same_side x (other a.side)) q.1 ∙ same_other a.side)
      go (inr q) = yes (is_contra o) (in_book o.role) (other_auction o) (λ i. not (r.0 i || q.2 i))

  pub lot_contra_all : Lot contra
  lot_contra_all = lot_kept rule facts close st h s is_contra
      (let k = sum_under (λ o. cond (is_contra o) 1 0) (λ o. cond (in_book o.role) 1 0 + cond (other_auction o) 1 0) st.orders (All-weaker (Roled (Some a)) _ counted st.orders roled_now) in
      let l = sum_two (λ o. cond (in_book o.role) 1 0) (λ o. cond (other_auction o) 1 0) (λ o. cond (in_book o.role) 1 0 + cond (other_auction o) 1 0) st.orders (all_of _ st.orders (λ o. refl)) in
      omega (arith, s.books, s.others))

  pub fifth : 2 * a.size.count / 5 ≤ 9999
  fifth = omega (arith, run.sized.1)

  pub enough : a.size.count ≤ sum_by standing contra
  enough =
      let e₁ = sum_kept (λ o. o.left.count) (λ o. eqb o.number a.starter) st.orders in
      let e₂ = sum_kept standing is_contra st.orders in
      let l = sum_under (λ o. cond (eqb o.number a.starter) o.left.count 0) (λ o. cond (is_contra o) (standing o) 0) st.orders
      (All-weaker (Roled (Some a)) _ (λ o r. by (eqb o.number a.starter) (is_contra o) (standing o) (λ e. starter_contra o r (eqb-true o.number a.starter e))) st.orders roled_now) in
      omega (arith, run.starter_left)
    where
      by : (x y : Bool) (n : ℕ) → (x ≡ true → y ≡ true) → cond x n 0 ≤ cond y n 0
      by true true n k = omega arith
      by true false n k = absurd (both_ways false refl (k refl))
      by false y n k = omega arith

  pub all_shared : sum_by shares contra ≡ a.size.count
  all_shared = omega (arith, facts.fill_whole contra a.size.count (Some a.starter) (2 * a.size.count / 5) lot_contra_all (omega (arith, run.sized.1)) fifth, enough)

  contra_apart : contra ≡ filter is_contra (filter apart_from st.orders)
  contra_apart = sym (kept_kept apart_from is_contra st.orders ∙ kept_same (λ o. apart_from o && is_contra o) is_contra st.orders
      (All-weaker (Roled (Some a)) _ (λ o r. by (eqb o.number a.customer) (is_contra o) (λ e. customer_not o r (eqb-true o.number a.customer e))) st.orders roled_now))
    where
      by : (x y : Bool) → (x ≡ true → y ≡ false) → (not x && y) ≡ y
      by true y k = sym (k refl)
      by false y k = refl

  fit : AllByRecursion (λ o. is_contra o ≡ true → shares o ≤ standing o) (filter apart_from st.orders)
  fit = all_from_kept is_contra (λ o. shares o ≤ standing o) (filter apart_from st.orders) (subst (AllByRecursion (λ o. shares o ≤ standing o)) contra_apart (facts.fill_within contra a.size.count (Some a.starter) (2 * a.size.count / 5) lot_contra_all (omega (arith, run.sized.1)) fifth))

  pub finished_sound : (t : ℕ) → Sound close (finished rule st t a).state (record { orders = h.orders ++ []; quotes = h.quotes; rows = h.rows ++ (finished rule st t a).rows; opened_at = h.opened_at; customer = h.customer })
  finished_sound t =
      let base : List Order = filter apart_from st.orders in
      let after : List Order = traded is_contra shares base fit in
      let booked : List Order = filter (λ o. in_book o.role) after in
      let tk : List Row = taker_rows a.side a.customer shares contra in
      let rows : List Row = tk ++ leftover after in
      let left_over : (i : ℕ) → 0 < i → named i (leftover after) + left_under booked i ≡ left_under after i = (λ i q.
      omega (arith, departures_named (λ o. departure Withdrawn o.number 0 (standing o)) (filter (λ o. not (in_book o.role)) after) i q (λ o. (refl, refl, refl)), left_split (λ o. in_book o.role) after i)) in
      let base-apart : AllByRecursion (λ o. o.number ≡ a.customer → ⊥) base = All-weaker (λ o. apart_from o ≡ true) (λ o. o.number ≡ a.customer → ⊥) (λ o k. eqb-false o.number a.customer (not-true (eqb o.number a.customer) k)) base (kept_by_passes apart_from st.orders) in
      let customers : left_under after a.customer ≡ 0 = left_none after a.customer (traded_all is_contra shares base fit (λ o. o.number ≡ a.customer → ⊥) (λ o q k. k) base-apart) in
      let here : named a.customer rows + left_under booked a.customer ≡ left_under st.orders a.customer =
      omega (arith, named_append a.customer tk (leftover after), facts.rows_taker a.side a.customer shares contra, all_shared, left_over a.customer run.early.0, customers, run.customer_left) in
      let past : (i : ℕ) → 0 < i → (i ≡ a.customer → ⊥) → named i rows + left_under booked i ≡ left_under st.orders i = (λ i q n.
      omega (
        arith,
        named_append i tk (leftover after),
        facts.rows_named a.side a.customer shares contra i n,
        ap (λ os. sum_by shares (filter (λ o. eqb o.number i) os)) contra_apart,
        traded_accounts is_contra shares base fit i,
        left_over i q,
        left_kept apart_from st.orders i (all_of (λ o. o.number ≡ i → apart_from o ≡ true) st.orders (λ o w. ap not (ne_eqb o.number a.customer (λ v. n (sym w ∙ v))))),
      )) in
      let acc : (i : ℕ) → 0 < i → named i rows + left_under booked i ≡ left_under st.orders i = (λ i q.
      ⊎_elim (λ (e : i ≡ a.customer). subst (λ j. named j rows + left_under booked j ≡ left_under st.orders j) (sym e) here) (λ n. past i q n) (cases_eq i a.customer)) in
      record {
        closes = s.closes;
        quotes = s.quotes;
        spanned = s.spanned;
        first = omega (arith, s.first);
        rising = step_rising close st h s [] tt;
        numbered = step_numbered close st h s (st.next + 0) [] (omega arith) tt;
        unnamed = step_unnamed close st h s rows (st.next + 0) (omega arith) (λ i l. omega (arith, s.first, acc i (omega (arith, s.first)), none_yet close st h s i (omega arith)));
        conserved = step_conserved close st h s rows booked [] (λ i q l. acc i q) tt;
        matched = matched_nil (matched_kept (λ o. in_book o.role) (traded_matched is_contra shares base fit st.trading h.opened_at h.orders (matched_kept apart_from s.matched)));
        good = all_kept_by (λ o. in_book o.role) (Good st.trading) after (traded_good is_contra shares base fit st.trading (all_kept_by apart_from (Good st.trading) st.orders s.good));
        roled = kept_by_passes (λ o. in_book o.role) after;
        books = omega (arith, s.books, count_kept (λ o. in_book o.role) (λ o. in_book o.role) after, traded_count is_contra shares base fit (λ o. in_book o.role) (λ o m. refl), count_kept apart_from (λ o. in_book o.role) st.orders);
        others = omega (arith, s.others, count_kept (λ o. in_book o.role) other_auction after, traded_count is_contra shares base fit other_auction (λ o m. refl), count_kept apart_from other_auction st.orders);
        quiet = λ e. refl;
        running = tt;
      }

module _ (rule : Sharing) (facts : Facts rule) (close : ℕ) (st : State) (h : Ledger) (s : Sound close st h) where
  finish_at : (k : Ticket) (t : ℕ) (memory : List Row) (x : Option Auction) → st.auction ≡ x → is_some x ≡ true →
      let ef : Effect = elim x [ Some a ↦ finished rule st t a | None ↦ effect_of st [] [] ] in
      Sound close ef.state (record { orders = h.orders ++ []; quotes = h.quotes; rows = h.rows ++ ef.rows; opened_at = h.opened_at; customer = h.customer })
  finish_at k t memory (Some a) is e = finished_sound rule facts close st h s a is t
  finish_at k t memory None is e = absurd (both_ways false refl e)

  pub finish_runs : (k : Ticket) (t : Millis) (memory : List Row) → first_hit (checks st (finish k t memory)) ≡ None → (a : Auction) × (st.auction ≡ Some a) × (k.customer ≡ a.customer)
  finish_runs k t memory e =
      let c = accepts (checks st (finish k t memory)) e in
      ticket_runs k.customer st.auction (or_parts (not (eqb k.series st.number) || k.discharged) _ c.0).1

  pub finish_sound : (k : Ticket) (t : Millis) (memory : List Row) → first_hit (checks st (finish k t memory)) ≡ None → Sound close (effect rule st (finish k t memory)).state (posting rule st h (finish k t memory))
  finish_sound k t memory e = finish_at k t.count memory st.auction refl (ap is_some (finish_runs k t memory e).1)
