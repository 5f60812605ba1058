-- Clock, and the calls that add auction orders, keep `Sound`.
use Rattle.std.proofs.Common.{◌≡◌, ℕ, ◌+◌, ◌<◌, ◌≤◌, Bool, true, false, cond, not, ◌||◌, eqb, List, [], ◌∷◌, ◌++◌, map, get_or, is_some, Some, None, count_by, filter, Option, sym, refl, ap, ◌∙◌, subst, inl, inr, arith}
use Rattle.std.specs.List.{ContainsAt as Has, AllByRecursion}
use Rattle.std.proofs.lemmas.List.Sums.{sum_by-append, get_or-le-sum_by}
use Rattle.std.proofs.lemmas.List.Filters.{sum_by-filter_both}
use Rattle.std.proofs.ByRecursion.{all_kept_by, All-weaker, All-append, has_append_right}
use Rattle.std.proofs.lemmas.Bool.{eq-eqb, both_ways, not-false, or_parts}
use Rattle.market.specs.Refusals.{first_hit}
use Rattle.market.specs.Spans.{price_in_span}
use Rattle.market.specs.declared.auction.Auction.{Auction}
use Rattle.market.specs.declared.order.Account.{Account}
use Rattle.market.specs.declared.order.Account.TheVariants.{Customer, Linkage, MarketMaker}
use Rattle.market.specs.declared.order.Order.{Order}
use Rattle.market.specs.declared.order.Role.{Role}
use Rattle.market.specs.declared.order.Role.TheVariants.{Auctioned, Book, Competing, Starter}
use Rattle.market.specs.declared.order.Side.{Side}
use Rattle.market.specs.declared.row.Row.{Row}
use Rattle.market.specs.declared.row.RowKind.TheVariants.{Returned, Sent}
use Rattle.market.specs.declared.units.Cents.{Cents}
use Rattle.market.specs.declared.units.Contracts.{Contracts}
use Rattle.market.specs.declared.units.Millis.{Millis}
use Rattle.rules.specs.Calls.{at_time, checks, clock, effect, exposure_row, new_order, opened, start, without}
use Rattle.rules.specs.Ledger.{Entry, Ledger, named}
use Rattle.rules.specs.Series.{State, due, left_under}
use Rattle.market.specs.Words.{auctioned, competing, departure, in_book, limit_at, or_else, other, price_of, standing}
use Rattle.sharing.specs.Sharing.{Sharing}
use Rattle.rules.proofs.Tally.{sum_none, all_both}
use Rattle.rules.proofs.Sound.{none, stands_as, Agrees, Roled, Running, Sound, Good, Priced, other_auction}
use Rattle.rules.proofs.Matching.{left_here, left_past, matched_append, matched_kept, count_kept, has_to_kept}
use Rattle.rules.proofs.Plain.{posting, size_fine, span_fine}
use Rattle.rules.proofs.Steps.{accepts, left_kept, left_split, departures_named, grown_old, grown_new, orders_early, none_yet, step_conserved, step_unnamed, step_rising, step_numbered, Held, running_keeps, matched_nil}

pub priced_after : (t : Bool) (opened : Option ℕ) (b : Entry) (o : Order) → t ≡ true → or_else b.price (or_else opened 0) ≡ price_of o.kind → Priced t opened b o
priced_after true opened b o e k = k
priced_after false opened b o e k = absurd (both_ways false refl e)

held_unexposed : (a : Option Auction) (o : Order) → Roled a o → (n : ℕ) → Held a n → o.number ≡ n → o.exposed ≡ None
held_unexposed None o r n k q = absurd k
held_unexposed (Some a) o (inl r) n (inl k) q = absurd (r.1 (q ∙ k))
held_unexposed (Some a) o (inl r) n (inr k) q = absurd (r.2 (q ∙ k))
held_unexposed (Some a) o (inr r) n k q = r.1

count_one : (b : Bool) → b ≡ true → ◌≡◌ {A = ℕ} (cond b 1 0) 1
count_one true e = refl
count_one false e = absurd (both_ways false refl e)

count_zero : (b : Bool) → b ≡ false → ◌≡◌ {A = ℕ} (cond b 1 0) 0
count_zero true e = absurd (both_ways true e refl)
count_zero false e = refl

pub count_removed : (q : Order → Bool) (os : List Order) (o : Order) → Has os o → q o ≡ true → count_by q (without o.number os) + 1 ≤ count_by q os
count_removed q os o h e =
    let gone : Order → Bool = λ p. not (not (eqb p.number o.number)) in
    let both = sum_by-filter_both (λ p. not (eqb p.number o.number)) gone (λ x. refl) (λ p. cond (q p) 1 0) os in
    let k = has_to_kept gone os o h (ap (λ b. not (not b)) (eq-eqb o.number o.number refl)) in
    let one = get_or-le-sum_by (λ p. cond (q p) 1 0) (filter gone os) k.0 o k.1 in
    omega (arith, count_one (q (get_or (filter gone os) k.0 o)) (ap q (k.2 o) ∙ e))

pub competing_other : (r : Role) → competing r ≡ true → not (in_book r || auctioned r) ≡ true
competing_other Book e = absurd (both_ways false refl e)
competing_other Auctioned e = absurd (both_ways false refl e)
competing_other Starter e = refl
competing_other Competing e = refl

module _ (rule : Sharing) (close : ℕ) (st : State) (h : Ledger) (s : Sound close st h) where
  -- ---- clock

  module _ (t : Millis) (memory : List Row) (e : first_hit (checks st (clock t memory)) ≡ None) where
    leaves : (o : Order) (a : Account) →
        let r : Row = elim a [ Customer ↦ departure Sent o.number (price_of o.kind) (standing o) | Linkage ↦ departure Returned o.number 0 (standing o) | MarketMaker ↦ departure Returned o.number 0 (standing o) ] in
        (r.first ≡ o.number) × (r.second ≡ 0) × (r.contracts.count ≡ standing o)
    leaves o Customer = (refl, refl, refl)
    leaves o Linkage = (refl, refl, refl)
    leaves o MarketMaker = (refl, refl, refl)

    pub clock_sound : Sound close (effect rule st (clock t memory)).state (posting rule st h (clock t memory))
    clock_sound =
        let keep : Order → Bool = λ o. not (due t.count o.exposed) in
        let acc : (i : ℕ) → 0 < i → named i (map (exposure_row) (filter (λ o. due t.count o.exposed) st.orders)) + left_under (filter keep st.orders) i ≡ left_under st.orders i =
        (λ i p. let a = departures_named (exposure_row) (filter (λ o. due t.count o.exposed) st.orders) i p (λ o. leaves o o.account) in
        let b = left_split (λ o. due t.count o.exposed) st.orders i in omega arith) in
        record {
          closes = s.closes;
          quotes = s.quotes;
          spanned = s.spanned;
          first = omega (arith, s.first);
          rising = step_rising close st h s [] tt;
          numbered = step_numbered close st h s (st.next + 0) [] (omega arith) tt;
          unnamed = step_unnamed close st h s _ (st.next + 0) (omega arith) (λ i l. omega (arith, s.first, acc i (omega (arith, s.first)), none_yet close st h s i (omega arith)));
          conserved = step_conserved close st h s _ (filter keep st.orders) [] (λ i p l. acc i p) tt;
          matched = matched_nil (matched_kept keep s.matched);
          good = all_kept_by keep (Good st.trading) st.orders s.good;
          roled = all_kept_by keep (Roled st.auction) st.orders s.roled;
          books = omega (arith, s.books, count_kept keep (λ o. in_book o.role) st.orders);
          others = omega (arith, s.others, count_kept keep other_auction st.orders);
          quiet = s.quiet;
          running = running_keeps st.auction st.next (st.next + 0) st.orders (filter keep st.orders) h.orders [] h.customer (omega arith)
              (λ i k p l. left_kept keep st.orders i (All-weaker (Roled st.auction) (λ o. o.number ≡ i → keep o ≡ true) (λ o r q. ap (λ x. not (due t.count x)) (held_unexposed st.auction o r i k q)) st.orders s.roled)) s.running;
        }

  -- ---- start

  no_auction : (x : Option Auction) → is_some x ≡ false → x ≡ None
  no_auction (Some a) e = absurd (both_ways true e refl)
  no_auction None e = refl

  module _ (pass : ℕ) (t : Millis) (m : ℕ) (side : Side) (p : Cents) (n : Contracts) (e : first_hit (checks st (start pass t m side p n)) ≡ None) where
    pub start_sound : Sound close (effect rule st (start pass t m side p n)).state (posting rule st h (start pass t m side p n))
    start_sound =
        let c = accepts (checks st (start pass t m side p n)) e in
        let is-trading : st.trading ≡ true = not-false st.trading (or_parts (not (eqb pass st.number)) (not st.trading) c.0).1 in
        let span = span_fine p.value (not-false (price_in_span p.value) c.1.1.1.1.0) in
        let sized = size_fine n.count c.1.1.1.1.1.0 in
        let idle = no_auction st.auction c.1.1.1.1.1.1.1.0 in
        let books : AllByRecursion (Roled None) st.orders = subst (λ x. AllByRecursion (Roled x) st.orders) idle s.roled in
        let early = orders_early close st h s in
        let customer : Order = new_order st.next m side Customer (limit_at p.value) n.count Auctioned in
        let starter : Order = new_order (st.next + 1) m (other side) MarketMaker (limit_at p.value) n.count Starter in
        let news : List Order = customer ∷ starter ∷ [] in
        let a : Auction = record { customer = st.next; starter = st.next + 1; member = m; side = side; size = record { count = n.count }; end = record { count = t.count + 3000 } } in
        let old = grown_old st.next st.orders news early (omega arith, (omega arith, tt)) in
        let new = grown_new st.next st.orders news early (omega arith, (omega arith, tt)) in
        let first-left : left_under (st.orders ++ news) st.next ≡ n.count =
        (let x = new st.next (omega arith) in let y = left_here customer (starter ∷ []) st.next refl in let z = left_past starter [] st.next (λ q. omega arith) in omega arith) in
        let second-left : left_under (st.orders ++ news) (st.next + 1) ≡ n.count =
        (let x = new (st.next + 1) (omega arith) in let y = left_past customer (starter ∷ []) (st.next + 1) (λ q. omega arith) in let z = left_here starter [] (st.next + 1) refl in omega arith) in
        let no-others = sum_none (λ o. cond (other_auction o) 1 0) st.orders (All-weaker (Roled None) (λ o. cond (other_auction o) 1 0 ≡ 0) (λ o r. ap (λ b. cond (not (b || auctioned o.role)) 1 0) r) st.orders books) in
        record {
          closes = s.closes;
          quotes = s.quotes;
          spanned = s.spanned;
          first = omega (arith, s.first);
          rising = step_rising close st h s _ (omega (arith, s.first), (omega arith, tt));
          numbered = step_numbered close st h s (st.next + 2) _ (omega arith) (omega arith, (omega arith, tt));
          unnamed = step_unnamed close st h s [] (st.next + 2) (omega arith) (λ n l. refl);
          conserved = step_conserved close st h s [] (st.orders ++ news) _ (λ i q l. omega (arith, old i l))
              ((omega arith, omega (arith, first-left)), ((omega arith, omega (arith, second-left)), tt));
          matched = matched_append s.matched
              (stands_as (record { number = refl; side = refl; book = refl; price = priced_after st.trading h.opened_at _ customer is-trading refl })
              (stands_as (record { number = refl; side = refl; book = refl; price = priced_after st.trading h.opened_at _ starter is-trading refl }) none));
          good = All-append (Good st.trading) st.orders news s.good
              (record { some_left = sized.0; at_most = sized.1; fine = span; adds = omega arith }, (record { some_left = sized.0; at_most = sized.1; fine = span; adds = omega arith }, tt));
          roled = All-append (Roled (Some a)) st.orders news
              (all_both (Roled None) (λ (o : Order). o.number < st.next) (Roled (Some a)) st.orders (λ o r l. inl (r, (λ q. omega arith), (λ q. omega arith))) books early) (
                inr (refl, refl, inl (refl, refl), (λ q. absurd (both_ways false refl q))),
                (inr (refl, refl, inr ((λ q. omega arith), refl, refl), (λ q. absurd (both_ways false refl q))), tt),
              );
          books = omega (arith, s.books, sum_by-append (λ o. cond (in_book o.role) 1 0) st.orders news);
          others = omega (arith, no-others, sum_by-append (λ o. cond (other_auction o) 1 0) st.orders news);
          quiet = λ q. absurd (both_ways st.trading q is-trading);
          running = record {
            sized = sized;
            apart = λ q. omega arith;
            early = (omega (arith, s.first), omega arith, omega arith, omega arith);
            customer_left = first-left;
            starter_left = second-left;
            entry = (_, refl, has_append_right h.orders _ _ (0, omega arith, λ d. refl), refl, refl, refl);
          };
        }

  -- ---- one auction order more, some taken off

  pub swap_sound : (t : ℕ) (p : Order → Bool) (rows : List Row) (new : Order) (b : Entry) (a : Option Auction) →
      ((i : ℕ) → 0 < i → named i rows + left_under (filter p st.orders) i ≡ left_under st.orders i) →
      new.number ≡ st.next → b.number ≡ st.next → b.size ≡ standing new → in_book new.role ≡ false → Agrees st.trading h.opened_at b new → Good st.trading new →
      AllByRecursion (Roled a) (filter p st.orders) → Roled a new → count_by other_auction (filter p st.orders) + 1 ≤ 32 → st.trading ≡ true →
      Running a (st.next + 1) (filter p st.orders ++ (new ∷ [])) (h.orders ++ (b ∷ [])) h.customer →
      Sound close (at_time t 1 (filter p st.orders ++ (new ∷ [])) a st) (record { orders = h.orders ++ (b ∷ []); quotes = h.quotes; rows = h.rows ++ rows; opened_at = h.opened_at; customer = h.customer })
  swap_sound t p rows new b a acc nn bn size out agrees good roled roled_new few is-trading running =
      let early = all_kept_by p (λ (o : Order). o.number < st.next) st.orders (orders_early close st h s) in
      let grown = grown_old st.next (filter p st.orders) (new ∷ []) early (omega arith, tt) in
      let fresh = grown_new st.next (filter p st.orders) (new ∷ []) early (omega arith, tt) in
      let unnamed : (i : ℕ) → st.next ≤ i → named i rows ≡ 0 = (λ i l. omega (arith, s.first, acc i (omega (arith, s.first)), none_yet close st h s i l)) in
      record {
        closes = s.closes;
        quotes = s.quotes;
        spanned = s.spanned;
        first = omega (arith, s.first);
        rising = step_rising close st h s (b ∷ []) (omega (arith, s.first), tt);
        numbered = step_numbered close st h s (st.next + 1) (b ∷ []) (omega arith) (omega arith, tt);
        unnamed = step_unnamed close st h s rows (st.next + 1) (omega arith) (λ i l. unnamed i (omega arith));
        conserved = step_conserved close st h s rows (filter p st.orders ++ (new ∷ [])) (b ∷ []) (λ i q l. omega (arith, grown i l, acc i q))
            ((omega arith, omega (arith, unnamed b.number (omega arith), fresh b.number (omega arith), left_here new [] b.number (nn ∙ sym bn))), tt);
        matched = matched_append (matched_kept p s.matched) (stands_as agrees none);
        good = All-append (Good st.trading) (filter p st.orders) (new ∷ []) (all_kept_by p (Good st.trading) st.orders s.good) (good, tt);
        roled = All-append (Roled a) (filter p st.orders) (new ∷ []) roled (roled_new, tt);
        books = omega (arith, s.books, count_zero (in_book new.role) out, count_kept p (λ o. in_book o.role) st.orders, sum_by-append (λ o. cond (in_book o.role) 1 0) (filter p st.orders) (new ∷ []));
        others = omega (arith, few, one (other_auction new), sum_by-append (λ o. cond (other_auction o) 1 0) (filter p st.orders) (new ∷ []));
        quiet = λ q. absurd (both_ways st.trading q is-trading);
        running = running;
      }
    where
      one : (b : Bool) → cond b 1 0 ≤ 1
      one true = omega arith
      one false = omega arith
