-- Improve and better keep `Sound`.
use Rattle.std.proofs.Common.{◌≡◌, ℕ, ◌+◌, ◌<◌, ◌≤◌, Bool, true, false, cond, not, ◌&&◌, ◌||◌, eqb, ◌⊎◌, List, [], ◌∷◌, ◌++◌, is_some, Some, None, count_by, filter, Option, sym, refl, ap, ◌∙◌, subst, inl, inr, arith}
use Rattle.std.specs.List.{AllByRecursion}
use Rattle.std.proofs.ByRecursion.{all_kept_by, all-has, All-weaker, has_append_left}
use Rattle.std.proofs.lemmas.Bool.{eqb-true, eqb-false, leb-false, ne_eqb, both_ways, not-false, and_parts, or_parts}
use Rattle.market.specs.Refusals.{first_hit}
use Rattle.market.specs.Spans.{price_in_span}
use Rattle.market.specs.declared.auction.Auction.{Auction}
use Rattle.market.specs.declared.order.Account.TheVariants.{MarketMaker}
use Rattle.market.specs.declared.order.Order.{Order}
use Rattle.market.specs.declared.order.Role.TheVariants.{Competing, Starter}
use Rattle.market.specs.declared.order.Side.{Side}
use Rattle.market.specs.declared.order.Side.TheVariants.{Sell}
use Rattle.market.specs.declared.row.Row.{Row}
use Rattle.market.specs.declared.row.RowKind.TheVariants.{Withdrawn}
use Rattle.market.specs.declared.units.Cents.{Cents}
use Rattle.market.specs.declared.units.Contracts.{Contracts}
use Rattle.market.specs.declared.units.Millis.{Millis}
use Rattle.rules.specs.Calls.{Effect, Ticket, at_time, better, bettered, checks, effect, effect_of, improve, new_order, not_its_customer, withdrawn_rows, without_old, wrong_ticket}
use Rattle.rules.specs.Ledger.{Entry, Ledger, customer_side, customer_size, entries, named}
use Rattle.rules.specs.Series.{State, competing_order, found, left_under}
use Rattle.market.specs.Words.{auctioned, competing, departure, limit_at, other, standing}
use Rattle.sharing.specs.Sharing.{Sharing}
use Rattle.rules.proofs.Tally.{all_both, all_of}
use Rattle.rules.proofs.Sound.{Roled, Running, Auctioning, Sound, other_auction}
use Rattle.rules.proofs.Matching.{left_none, left_here, kept_all}
use Rattle.rules.proofs.Plain.{posting, size_fine, span_fine}
use Rattle.rules.proofs.Swaps.{priced_after, count_removed, competing_other, swap_sound}
use Rattle.rules.proofs.Steps.{zero_one, accepts, left_kept, found_has, without_accounts, grown_old, grown_new, orders_rising, orders_early, some_order, Held, running_keeps}

competing_unheld : (a : Option Auction) (o : Order) → Roled a o → competing o.role ≡ true → (n : ℕ) → Held a n → o.number ≡ n → ⊥
competing_unheld None o r e n k q = k
competing_unheld (Some a) o (inl r) e n (inl k) q = r.1 (q ∙ k)
competing_unheld (Some a) o (inl r) e n (inr k) q = r.2 (q ∙ k)
competing_unheld (Some a) o (inr r) e n (inl k) q = (r.3 e).0 (q ∙ k)
competing_unheld (Some a) o (inr r) e n (inr k) q = (r.3 e).1 (q ∙ k)

some_auction : (x : Option Auction) → not (is_some x) ≡ false → (a : Auction) × (x ≡ Some a)
some_auction (Some a) e = (a, refl)
some_auction None e = absurd (both_ways true e refl)

found_none : (q : Order → Bool) (os : List Order) → found q os ≡ None → AllByRecursion (λ o. q o ≡ false) os
found_none q [] e = tt
found_none q (o ∷ os) e = go (q o) e (found_none q os)
  where
    go : (b : Bool) → cond b (Some o) (found q os) ≡ None → (found q os ≡ None → AllByRecursion (λ o. q o ≡ false) os) → (b ≡ false) × AllByRecursion (λ o. q o ≡ false) os
    go true k f = let z : ◌≡◌ {A = ℕ} 0 1 = cc in absurd (zero_one z)
    go false k f = (refl, f k)

-- the running auction that a ticket names
pub ticket_runs : (k : ℕ) (x : Option Auction) → not_its_customer k x ≡ false → (a : Auction) × (x ≡ Some a) × (k ≡ a.customer)
ticket_runs k (Some a) e = (a, refl, eqb-true k a.customer (not-false (eqb k a.customer) e))
ticket_runs k None e = absurd (both_ways true e refl)

module _ (rule : Sharing) (close : ℕ) (st : State) (h : Ledger) (s : Sound close st h) where
  runs : (a : Auction) → st.auction ≡ Some a → Auctioning a st.next st.orders h.orders h.customer
  runs a e = subst (λ x. Running x st.next st.orders h.orders h.customer) e s.running

  -- ---- improve

  module _ (pass t m p n : ℕ) (a : Auction) (is : st.auction ≡ Some a) where
    improve_new : Order
    improve_new = new_order st.next m (elim st.auction [ Some a ↦ other a.side | None ↦ Sell ]) MarketMaker (limit_at p) n Competing

    improve_entry : Entry
    improve_entry = record { number = st.next; side = other (customer_side h.customer); size = n; price = Some p; auction = true }

    improve_core : (keep : Order → Bool) (rows : List Row) → ((i : ℕ) → 0 < i → named i rows + left_under (filter keep st.orders) i ≡ left_under st.orders i) →
        ((i : ℕ) → Held st.auction i → left_under (filter keep st.orders) i ≡ left_under st.orders i) →
        count_by other_auction (filter keep st.orders) + 1 ≤ 32 → st.trading ≡ true → p ≤ 99999 → (0 < n) × (n ≤ 9999) →
        Sound close (at_time t 1 (filter keep st.orders ++ (improve_new ∷ [])) st.auction st) (record { orders = h.orders ++ (improve_entry ∷ []); quotes = h.quotes; rows = h.rows ++ rows; opened_at = h.opened_at; customer = h.customer })
    unfolding improve_new improve_entry
    improve_core keep rows acc held few is-trading span sized =
        let r = runs a is in
        let side₁ : improve_new.side ≡ other a.side = ap (λ (x : Option Auction). the_side x) is in
        let side₂ : other (customer_side h.customer) ≡ other a.side = ap (λ x. other (customer_side x)) r.entry.1 ∙ ap other r.entry.4 in
        let early = all_kept_by keep (λ (o : Order). o.number < st.next) st.orders (orders_early close st h s) in
        swap_sound rule close st h s t keep rows improve_new improve_entry st.auction acc refl refl refl refl
        (record { number = refl; side = side₁ ∙ sym side₂; book = refl; price = priced_after st.trading h.opened_at improve_entry improve_new is-trading refl })
        (record { some_left = sized.0; at_most = sized.1; fine = span; adds = omega arith })
        (all_kept_by keep (Roled st.auction) st.orders s.roled)
        (subst (λ x. Roled x improve_new) (sym is) (inr (refl, refl, inr ((λ q. omega (arith, r.early.1)), side₁, refl), (λ _. ((λ q. omega (arith, r.early.1)), (λ q. omega (arith, r.early.3)))))))
        few is-trading
        (running_keeps st.auction st.next (st.next + 1) st.orders (filter keep st.orders ++ (improve_new ∷ [])) h.orders (improve_entry ∷ []) h.customer (omega arith)
        (λ i k q l. grown_old st.next (filter keep st.orders) (improve_new ∷ []) early (omega arith, tt) i l ∙ held i k) s.running)
      where
        the_side : Option Auction → Side
        the_side x = elim x [ Some a ↦ other a.side | None ↦ Sell ]

  pub improve_sound : (pass : ℕ) (t : Millis) (m : ℕ) (p : Cents) (n : Contracts) (r : Option ℕ) (memory : List Row) → first_hit (checks st (improve pass t m p n r memory)) ≡ None → Sound close (effect rule st (improve pass t m p n r memory)).state (posting rule st h (improve pass t m p n r memory))
  unfolding improve_new improve_entry
  improve_sound pass t m p n None memory e =
      let c = accepts (checks st (improve pass t m p n None memory)) e in
      let is-trading : st.trading ≡ true = not-false st.trading (or_parts (not (eqb pass st.number)) (not st.trading) c.0).1 in
      let span = span_fine p.value (not-false (price_in_span p.value) c.1.1.1.1.0) in
      let sized = size_fine n.count c.1.1.1.1.1.0 in
      let few = leb-false 32 (count_by other_auction st.orders) c.1.1.1.1.1.1.1.0 in
      let run = some_auction st.auction c.1.1.1.1.1.1.1.1.1.1.0 in
      let whole : filter (λ (o : Order). true) st.orders ≡ st.orders = kept_all (λ (o : Order). true) st.orders (all_of (λ o. true ≡ true) st.orders (λ o. refl)) in
      subst (λ xs. Sound close (at_time t.count 1 (xs ++ (improve_new pass t.count m p.value n.count run.0 run.1 ∷ [])) st.auction st) (record { orders = h.orders ++ (improve_entry pass t.count m p.value n.count run.0 run.1 ∷ []); quotes = h.quotes; rows = h.rows ++ []; opened_at = h.opened_at; customer = h.customer })) whole
      (improve_core pass t.count m p.value n.count run.0 run.1 (λ (o : Order). true) [] (λ i q. omega (arith, ap (λ xs. left_under xs i) whole)) (λ i k. ap (λ xs. left_under xs i) whole) (omega (arith, ap (count_by other_auction) whole)) is-trading span sized)
  improve_sound pass t m p n (Some q) memory e =
      let c = accepts (checks st (improve pass t m p n (Some q) memory)) e in
      let is-trading : st.trading ≡ true = not-false st.trading (or_parts (not (eqb pass st.number)) (not st.trading) c.0).1 in
      let span = span_fine p.value (not-false (price_in_span p.value) c.1.1.1.1.0) in
      let sized = size_fine n.count c.1.1.1.1.1.0 in
      let run = some_auction st.auction c.1.1.1.1.1.1.1.1.1.1.0 in
      let f = some_order (found (competing_order m q) st.orders) c.1.1.1.1.1.1.1.1.1.0 in
      let o = f.0 in
      let has = found_has (competing_order m q) st.orders o f.1 in
      let role = (and_parts (eqb o.number q && eqb o.member m) (competing o.role) has.1).1 in
      let roled-o = all-has (Roled st.auction) st.orders o s.roled has.0 in
      subst (λ x. Sound close (at_time t.count 1 (without_old x st.orders ++ (improve_new pass t.count m p.value n.count run.0 run.1 ∷ [])) st.auction st) (record { orders = h.orders ++ (improve_entry pass t.count m p.value n.count run.0 run.1 ∷ []); quotes = h.quotes; rows = h.rows ++ withdrawn_rows x; opened_at = h.opened_at; customer = h.customer })) (sym f.1)
      (improve_core pass t.count m p.value n.count run.0 run.1 (λ x. not (eqb x.number o.number)) (departure Withdrawn o.number 0 (standing o) ∷ [])
      (without_accounts Withdrawn 0 st.orders o (orders_rising close st h s) has.0)
      (λ i k. left_kept (λ x. not (eqb x.number o.number)) st.orders i (all_of (λ x. x.number ≡ i → not (eqb x.number o.number) ≡ true) st.orders (λ x w. ap not (ne_eqb x.number o.number (λ v. competing_unheld st.auction o roled-o role i k (sym v ∙ w))))))
      (omega (arith, s.others, count_removed other_auction st.orders o has.0 (competing_other o.role role))) is-trading span sized)

  -- ---- better

  module _ (pass : ℕ) (k : Ticket) (t : Millis) (p : Cents) (memory : List Row) (is-trading : st.trading ≡ true) (span : p.value ≤ 99999) where
    module _ (a : Auction) (is : st.auction ≡ Some a) where
      roled_better : (o : Order) → o.number < st.next → Roled (Some a) o →
          Roled (Some (record { customer = a.customer; starter = st.next; member = a.member; side = a.side; size = a.size; end = a.end })) o
      roled_better o l (inl r) = inl (r.0, r.1, (λ q. omega arith))
      roled_better o l (inr r) = inr (r.0, r.1, r.2, (λ q. ((r.3 q).0, (λ w. omega arith))))

      starter_other : (o : Order) → Roled (Some a) o → o.number ≡ a.starter → other_auction o ≡ true
      starter_other o (inl r) e = absurd (r.2 e)
      starter_other o (inr r) e = go r.2
        where
          go : ((o.number ≡ a.customer) × (o.side ≡ a.side)) ⊎ ((o.number ≡ a.customer → ⊥) × (o.side ≡ other a.side) × (auctioned o.role ≡ false)) → other_auction o ≡ true
          go (inl q) = absurd ((runs a is).apart (sym q.0 ∙ e))
          go (inr q) = (λ i. not (r.0 i || q.2 i))

      better_core : (y : Option Order) → found (λ o. eqb o.number a.starter) st.orders ≡ y →
          Sound close
          (at_time t.count 1 (without_old y st.orders ++ (new_order st.next a.member (other a.side) MarketMaker (limit_at p.value) a.size.count Starter ∷ []))
          (Some (record { customer = a.customer; starter = st.next; member = a.member; side = a.side; size = a.size; end = a.end })) st)
          (record { orders = h.orders ++ (record { number = st.next; side = other (customer_side h.customer); size = customer_size h.customer; price = Some p.value; auction = true } ∷ []); quotes = h.quotes; rows = h.rows ++ withdrawn_rows y; opened_at = h.opened_at; customer = h.customer })
      better_core None e =
          let r = runs a is in
          let z = left_none st.orders a.starter (All-weaker (λ o. eqb o.number a.starter ≡ false) (λ o. o.number ≡ a.starter → ⊥) (λ o q. eqb-false o.number a.starter q) st.orders (found_none (λ o. eqb o.number a.starter) st.orders e)) in
          absurd (go r.starter_left r.sized.0 z)
        where
          go : left_under st.orders a.starter ≡ a.size.count → 0 < a.size.count → left_under st.orders a.starter ≡ 0 → ⊥
          go x y z = omega arith
      better_core (Some o) e =
          let r = runs a is in
          let has = found_has (λ o. eqb o.number a.starter) st.orders o e in
          let this : o.number ≡ a.starter = eqb-true o.number a.starter has.1 in
          let keep : Order → Bool = λ x. not (eqb x.number o.number) in
          let new : Order = new_order st.next a.member (other a.side) MarketMaker (limit_at p.value) a.size.count Starter in
          let b : Entry = record { number = st.next; side = other (customer_side h.customer); size = customer_size h.customer; price = Some p.value; auction = true } in
          let now-auction : Auction = record { customer = a.customer; starter = st.next; member = a.member; side = a.side; size = a.size; end = a.end } in
          let side₂ : other (customer_side h.customer) ≡ other a.side = ap (λ x. other (customer_side x)) r.entry.1 ∙ ap other r.entry.4 in
          let size₂ : customer_size h.customer ≡ a.size.count = ap customer_size r.entry.1 ∙ r.entry.5 in
          let roled : AllByRecursion (Roled (Some a)) st.orders = subst (λ x. AllByRecursion (Roled x) st.orders) is s.roled in
          let early = orders_early close st h s in
          let kept-early = all_kept_by keep (λ (o : Order). o.number < st.next) st.orders early in
          let grown = grown_old st.next (filter keep st.orders) (new ∷ []) kept-early (omega arith, tt) in
          let fresh = grown_new st.next (filter keep st.orders) (new ∷ []) kept-early (omega arith, tt) in
          let customer-kept = left_kept keep st.orders a.customer (all_of (λ x. x.number ≡ a.customer → keep x ≡ true) st.orders (λ x w. ap not (ne_eqb x.number o.number (λ v. r.apart (sym w ∙ v ∙ this))))) in
          swap_sound rule close st h s t.count keep (departure Withdrawn o.number 0 (standing o) ∷ []) new b (Some now-auction)
          (without_accounts Withdrawn 0 st.orders o (orders_rising close st h s) has.0) refl refl size₂ refl
          (record { number = refl; side = sym side₂; book = refl; price = priced_after st.trading h.opened_at b new is-trading refl })
          (record { some_left = r.sized.0; at_most = r.sized.1; fine = span; adds = omega arith })
          (all_both (λ (o : Order). o.number < st.next) (Roled (Some a)) (Roled (Some now-auction)) (filter keep st.orders) roled_better kept-early (all_kept_by keep (Roled (Some a)) st.orders roled))
          (inr (refl, refl, inr ((λ q. omega (arith, r.early.1)), refl, refl), (λ q. absurd (both_ways false refl q))))
          (omega (arith, s.others, count_removed other_auction st.orders o has.0 (starter_other o (all-has (Roled (Some a)) st.orders o roled has.0) this)))
          is-trading
          (record {
            sized = r.sized;
            apart = λ q. omega (arith, r.early.1);
            early = (r.early.0, omega (arith, r.early.1), s.first, omega arith);
            customer_left = grown a.customer r.early.1 ∙ customer-kept ∙ r.customer_left;
            starter_left = omega (arith, fresh st.next (omega arith), left_here new [] st.next refl);
            entry = (r.entry.0, r.entry.1, has_append_left h.orders (b ∷ []) r.entry.0 r.entry.2, r.entry.3, r.entry.4, r.entry.5);
          })

    better_at : (x : Option Auction) → st.auction ≡ x → is_some x ≡ true →
        let ef : Effect = elim x [ Some a ↦ bettered rule st t.count p.value a | None ↦ effect_of st [] [] ] in
        Sound close ef.state (record { orders = h.orders ++ entries h (better pass k t p memory) ef.numbers; quotes = h.quotes; rows = h.rows ++ ef.rows; opened_at = h.opened_at; customer = h.customer })
    better_at (Some a) is e = better_core a is (found (λ o. eqb o.number a.starter) st.orders) refl
    better_at None is e = absurd (both_ways false refl e)

  pub better_sound : (pass : ℕ) (k : Ticket) (t : Millis) (p : Cents) (memory : List Row) → first_hit (checks st (better pass k t p memory)) ≡ None → Sound close (effect rule st (better pass k t p memory)).state (posting rule st h (better pass k t p memory))
  better_sound pass k t p memory e =
      let c = accepts (checks st (better pass k t p memory)) e in
      let gate = or_parts (not (eqb pass st.number) || not st.trading) (wrong_ticket k st) c.0 in
      let is-trading : st.trading ≡ true = not-false st.trading (or_parts (not (eqb pass st.number)) (not st.trading) gate.0).1 in
      let run = ticket_runs k.customer st.auction (or_parts (not (eqb k.series st.number) || k.discharged) _ gate.1).1 in
      let span = span_fine p.value (not-false (price_in_span p.value) c.1.1.1.0) in
      better_at pass k t p memory is-trading span st.auction refl (ap is_some run.1)
