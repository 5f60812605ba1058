-- Accepted calls are fair.
use Rattle.std.proofs.Common.{◌≡◌, ℕ, ◌+◌, ◌-◌, ◌*◌, ◌/◌, ◌<◌, ◌≤◌, min, Bool, true, false, cond, not, ◌&&◌, eqb, ◌⊎◌, List, [], ◌∷◌, ◌++◌, map, is_some, Some, None, sum_by, filter, Option, sym, refl, ap, ◌∙◌, subst, inl, inr, arith}
use Rattle.std.specs.List.{ContainsAt as Has, AllByRecursion}
use Rattle.std.proofs.lemmas.List.{append-nil}
use Rattle.std.proofs.lemmas.List.Elements.{filter-append}
use Rattle.std.proofs.ByRecursion.{all_kept_by, all-has, All-weaker, All-map}
use Rattle.std.proofs.lemmas.Bool.{le-leb, both_ways, not-false, and_parts, or_parts}
use Rattle.market.specs.Refusals.{first_hit}
use Rattle.market.specs.Spans.{on_grid}
use Rattle.market.specs.declared.auction.Auction.{Auction}
use Rattle.market.specs.declared.order.Account.{Account}
use Rattle.market.specs.declared.order.Order.{Order}
use Rattle.market.specs.declared.order.OrderKind.{OrderKind}
use Rattle.market.specs.declared.order.OrderKind.TheVariants.{Limit, MarketOnOpening}
use Rattle.market.specs.declared.order.Role.TheVariants.{Book}
use Rattle.market.specs.declared.order.Side.{Side}
use Rattle.market.specs.declared.order.Side.TheVariants.{Buy, Sell}
use Rattle.market.specs.declared.row.Row.{Row}
use Rattle.market.specs.declared.row.RowKind.TheVariants.{Withdrawn}
use Rattle.market.specs.declared.units.Cents.{Cents}
use Rattle.market.specs.declared.units.Contracts.{Contracts}
use Rattle.market.specs.declared.units.Millis.{Millis}
use Rattle.rules.specs.Allocation.{after_trade, fill, live, taker_rows}
use Rattle.rules.specs.Calls.{Effect, Ticket, checks, effect, effect_of, enter, finish, finished, new_order, opened, opening, remainder, without}
use Rattle.rules.specs.Law.{AtPrice, BestAuction, BestEntry, BestOpening, BestTrades, Choice, CustomerOf, Outdone, Rising, WillingAt, allowed, AtLeastAsGood, chosen_contracts, chosen_total, surplus_at, taker, volume_at}
use Rattle.rules.specs.Ledger.{Entry, Ledger, balance, contracts_in, named, of_entry, stands, t_rows, total_of}
use Rattle.rules.specs.Opening.{opening_rows, top}
use Rattle.rules.specs.Prices.{away_best, bound, distance, reaches, within}
use Rattle.rules.specs.Series.{State, book_against, left_under}
use Rattle.rules.specs.Volume.{matched_volume, of_order, surplus, volume, willing, willing_at}
use Rattle.market.specs.Words.{departure, in_book, is_trade, limit_at, or_else, other, price_of, same_side, standing, trade}
use Rattle.sharing.specs.Sharing.{Sharing}
use Rattle.rules.proofs.Tally.{all_both, all_of}
use Rattle.rules.proofs.Sound.{Matched, none, spent, stands_as, Agrees, Sound, Good, Fine, Priced, Facts, Lot, Against, Takes, Opens, wills, reached}
use Rattle.rules.proofs.Matching.{lot_of, left_none, left_here, left_past, kept_kept, rising_above, rising_orders, matched_all, matched_with, has_to_kept, kept_all, all_from_kept, kept_none, all_to_kept, has_from_kept, matched_sum, matched_entry}
use Rattle.rules.proofs.Takes.{rows_all}
use Rattle.rules.proofs.Plain.{size_fine, grid_fine}
use Rattle.rules.proofs.Trading.{rests, away_below}
use Rattle.rules.proofs.Enter.{against_is, against, lot_contra}
use Rattle.rules.proofs.Finish.{leftover, run, is_contra, contra, shares, lot_contra_all, fifth, all_shared, finish_runs}
use Rattle.rules.proofs.Opens.{priced_false, fine_all, lot_all, opening_before}
use Rattle.rules.proofs.Steps.{zero_one, accepts}

-- ---- every entry's balance is what stands of it

weighed : (w : Entry → ℕ) {R : Entry → Order → Type 0} {bs : List Entry} {os : List Order} → ((b : Entry) (o : Order) → R b o → o.number ≡ b.number) → (low : ℕ) →
    Matched (λ b. Unit {0}) R bs os → Rising (λ (b : Entry). b.number) low bs → AllByRecursion (λ b. w b ≡ left_under os b.number) bs → Matched (λ b. w b ≡ 0) (λ b o. R b o × (w b ≡ standing o)) bs os
weighed w f low none r a = none
weighed w f low (spent {b = b} {bs = bs} {os = os} u m) r a =
    let up = rising_above (λ (o : Order). o.number) b.number b.number os (omega arith) (rising_orders f b.number m r.1) in
    spent (a.0 ∙ left_none os b.number (All-weaker (λ (o : Order). b.number < o.number) (λ o. o.number ≡ b.number → ⊥) (λ o l e. omega arith) os up)) (weighed w f b.number m r.1 a.1)
weighed w f low (stands_as {b = b} {o = o} {bs = bs} {os = os} x m) r a =
    let up = rising_above (λ (o : Order). o.number) b.number b.number os (omega arith) (rising_orders f b.number m r.1) in
    let same = f b o x in
    let z = left_none os b.number (All-weaker (λ (o : Order). b.number < o.number) (λ o. o.number ≡ b.number → ⊥) (λ o l e. omega arith) os up) in
    let here = left_here o os b.number same in
    stands_as (x, omega (arith, a.0))
    (weighed w f b.number m r.1
    (all_both (λ (c : Entry). b.number < c.number) (λ c. w c ≡ left_under (o ∷ os) c.number) (λ c. w c ≡ left_under os c.number) bs
    (λ c l e. e ∙ left_past o os c.number (λ q. omega arith)) (rising_above (λ (c : Entry). c.number) b.number b.number bs (omega arith) r.1) a.1))

same_true : (x y : Side) → same_side x y ≡ true → x ≡ y
same_true Buy Buy e = refl
same_true Buy Sell e = absurd (both_ways false refl e)
same_true Sell Buy e = absurd (both_ways false refl e)
same_true Sell Sell e = refl

priced_true : (t : Bool) (opened : Option ℕ) (b : Entry) (o : Order) → t ≡ true → Priced t opened b o → or_else b.price (or_else opened 0) ≡ price_of o.kind
priced_true true opened b o e k = k
priced_true false opened b o e k = absurd (both_ways false refl e)

t_rows_append : (rs ts : List Row) → t_rows (rs ++ ts) ≡ t_rows rs ++ t_rows ts
t_rows_append rs ts = filter-append (λ r. is_trade r.kind) rs ts

row_own : (d : Side) (n q : ℕ) (o : Order) → taker d (trade d n o.number (price_of o.kind) q) ≡ n
row_own Buy n q o = refl
row_own Sell n q o = refl

module _ (rule : Sharing) (facts : Facts rule) (close : ℕ) (st : State) (h : Ledger) (s : Sound close st h) where
  balanced : Matched (λ b. balance h b ≡ 0) (λ b o. Agrees st.trading h.opened_at b o × (balance h b ≡ standing o)) h.orders st.orders
  balanced = weighed (balance h) (λ b o a. a.number) 0 s.matched s.rising
      (All-weaker (λ (b : Entry). named b.number h.rows + left_under st.orders b.number ≡ b.size) (λ b. balance h b ≡ left_under st.orders b.number) (λ b e. omega arith) h.orders s.conserved)

  -- ---- the best is-trading of one order

  module _ (trading : st.trading ≡ true) (d : Side) (pe : Entry → Bool) (po : Order → Bool)
      (agree : (b : Entry) (o : Order) → Agrees st.trading h.opened_at b o → pe b ≡ po o) (sided : (o : Order) → po o ≡ true → same_side o.side (other d) ≡ true)
      (lot : Lot (filter po st.orders)) (bnd amount : ℕ) (mark : Option ℕ) (g number : ℕ) (amount-few : amount ≤ 1599840) (g-few : g ≤ 9999) where
    abbrev pub ag : List Order
    ag = filter (reached d bnd) (filter po st.orders)

    abbrev pub fi : Order → ℕ
    fi = fill rule ag amount mark g

    stands_there : (b : Entry) (o : Order) → Agrees st.trading h.opened_at b o → stands h b ≡ price_of o.kind
    stands_there b o a = priced_true st.trading h.opened_at b o trading a.price

    all_against : AllByRecursion (Against d) (filter po st.orders)
    all_against = all_to_kept po (Against d) st.orders (All-weaker (Good st.trading) _ (λ o k e. (same_true o.side (other d) (sided o e), subst (λ t. Fine t o.kind) trading k.fine)) st.orders s.good)

    none_better_than : (take : ℕ → ℕ) → Choice h (filter pe h.orders) take → chosen_contracts (filter pe h.orders) take ≡ contracts_in (taker_rows d number fi ag) →
        AtLeastAsGood d (total_of (taker_rows d number fi ag)) (chosen_total h (filter pe h.orders) take)
    none_better_than take choice sums =
        let m = matched_with (λ b. pe b ≡ true → take b.number ≤ balance h b) balanced (all_from_kept pe (λ b. take b.number ≤ balance h b) h.orders choice) in
        let e₁ : chosen_contracts (filter pe h.orders) take ≡ sum_by (λ o. take o.number) (filter po st.orders) =
        matched_sum pe po (λ b. take b.number) (λ o. take o.number) (λ b k e. omega (arith, k.0, k.1 e)) (λ b o k. (agree b o k.0.0, (λ e. ap take (sym k.0.0.number)))) m in
        let e₂ : chosen_total h (filter pe h.orders) take ≡ sum_by (λ o. price_of o.kind * take o.number) (filter po st.orders) =
        matched_sum pe po (λ b. stands h b * take b.number) (λ o. price_of o.kind * take o.number) (λ b k e. nothing (stands h b) (take b.number) (omega (arith, k.0, k.1 e)))
        (λ b o k. (agree b o k.0.0, (λ e i. stands_there b o k.0.0 i * take (sym k.0.0.number i)))) m in
        let small : AllByRecursion (λ o. take o.number ≤ standing o) (filter po st.orders) =
        all_to_kept po (λ o. take o.number ≤ standing o) st.orders (matched_all (λ o. po o ≡ true → take o.number ≤ standing o)
        (λ b o k e. omega (arith, ap take k.0.0.number, k.0.1, k.1 (agree b o k.0.0 ∙ e))) m) in
        let best = facts.fill_best d bnd (filter po st.orders) amount mark g lot all_against amount-few g-few take small (sym e₁ ∙ sums ∙ facts.rows_contracts d number fi ag) in
        subst (λ n. AtLeastAsGood d n (chosen_total h (filter pe h.orders) take)) (sym (facts.rows_total d number fi ag))
        (subst (λ n. AtLeastAsGood d (sum_by (λ o. price_of o.kind * fi o) ag) n) (sym e₂) best)
      where
        nothing : (x y : ℕ) → y ≡ 0 → x * y ≡ 0
        nothing x y e = ap (λ z. x * z) e ∙ omega arith

    pub best_trades : BestTrades number d h (filter pe h.orders) (taker_rows d number fi ag)
    best_trades = record {
      its_own = rows_all d number fi (λ r. taker d r ≡ number) ag (all_of _ ag (λ o. row_own d number (fi o) o));
      none_better = none_better_than;
      at_their_prices = All-weaker (Takes d ag) _ (λ r k.
          let o = k.1.0 in
          let in-ag = has_from_kept (reached d bnd) (filter po st.orders) o k.1.1 in
          let in-os = has_from_kept po st.orders o in-ag.0 in
          let b = all-has (λ o. (b : Entry) × Has h.orders b × Agrees st.trading h.opened_at b o) st.orders o (matched_entry s.matched) in-os.0 in
          (b.0, has_to_kept pe h.orders b.0 b.1 (agree b.0 o b.2 ∙ in-os.1), sym b.2.number ∙ k.1.2, stands_there b.0 o b.2 ∙ k.1.3))
          (taker_rows d number fi ag) (facts.rows_taken d number fi ag);
    }

    pub all_trades : t_rows (taker_rows d number fi ag) ≡ taker_rows d number fi ag
    all_trades = kept_all (λ r. is_trade r.kind) (taker_rows d number fi ag) (All-weaker (Takes d ag) (λ r. is_trade r.kind ≡ true) (λ r k. k.0) (taker_rows d number fi ag) (facts.rows_taken d number fi ag))

  -- ---- enter

  pub enter_fair : (pass : ℕ) (t : Millis) (m : ℕ) (d : Side) (a : Account) (p : Cents) (n : Contracts) (memory : List Row) → first_hit (checks st (enter pass t m d a p n memory)) ≡ None →
      BestEntry st.next d n.count (bound d p.value (away_best d h.quotes)) h (t_rows (effect rule st (enter pass t m d a p n memory)).rows)
  enter_fair pass t' m d a p' n' memory e =
      let t = t'.count in
      let p = p'.value in
      let n = n'.count in
      let c = accepts (checks st (enter pass t' m d a p' n' memory)) e in
      let trading : st.trading ≡ true = not-false st.trading (or_parts (not (eqb pass st.number)) (not st.trading) c.0).1 in
      let grid = grid_fine p (not-false (on_grid p) c.1.1.1.1.0) in
      let sized = size_fine n c.1.1.1.1.1.0 in
      let lim : ℕ = bound d p (away_best d st.away) in
      let pe : Entry → Bool = λ b. same_side b.side (other d) && not b.auction in
      let po : Order → Bool = λ o. same_side o.side (other d) && in_book o.role in
      let agree : (b : Entry) (o : Order) → Agrees st.trading h.opened_at b o → pe b ≡ po o = (λ b o k i. same_side (sym k.side i) (other d) && sym k.book i) in
      let sided : (o : Order) → po o ≡ true → same_side o.side (other d) ≡ true = (λ o k. (and_parts (same_side o.side (other d)) (in_book o.role) k).0) in
      let lot = lot_contra rule facts close st h s d p n sized.1 in
      let os : List Order = filter (reached d lim) (book_against d st.orders) in
      let f : Order → ℕ = fill rule os n None 0 in
      let tk : List Row = taker_rows d st.next f os in
      let trade_rows = all_trades trading d pe po agree sided lot lim n None 0 st.next (omega (arith, sized.1)) (omega arith) in
      let o : Order = new_order st.next m d a (limit_at p) n Book in
      let x : List Order × List Row = remainder o (n - sum_by f os) a (reaches d p (away_best d st.away)) (or_else (away_best d st.away) 0) (t + 3000) in
      let r = rests o (n - sum_by f os) (or_else (away_best d st.away) 0) (t + 3000) s.first grid (away_below d st.away s.spanned) refl (omega arith) a (reaches d p (away_best d st.away)) in
      let rows_are : t_rows (tk ++ x.1) ≡ tk = t_rows_append tk x.1 ∙ (λ i. trade_rows i ++ r.no_trades i) ∙ append-nil tk in
      let beyond : Entry → Bool = λ b. within d lim (stands h b) in
      let allowed-is : allowed d lim h ≡ sum_by standing os =
      ap (sum_by (balance h)) (kept_kept pe beyond h.orders) ∙
      matched_sum (λ b. pe b && beyond b) (λ o. po o && reached d lim o) (balance h) standing (λ b k q. k)
      (λ b o k. ((λ i. agree b o k.0 i && (ap (within d lim) (priced_true st.trading h.opened_at b o trading k.0.price)) i), (λ q. k.1))) balanced ∙
      ap (sum_by standing) (sym (kept_kept po (reached d lim) st.orders)) in
      let fair : BestEntry st.next d n lim h tk = record {
        as_much_as_allowed = omega (arith, allowed-is, facts.rows_contracts d st.next f os, facts.fill_whole os n None 0 (lot_of (reached d lim) (book_against d st.orders) lot) (omega (arith, sized.1)) (omega arith));
        best = best_trades trading d pe po agree sided lot lim n None 0 st.next (omega (arith, sized.1)) (omega arith);
        within_bound = All-weaker (Takes d os) (λ r. within d lim r.price.value ≡ true) (λ r k.
            ap (within d lim) (sym k.1.3) ∙ (has_from_kept (reached d lim) (filter po st.orders) k.1.0 k.1.1).1) tk (facts.rows_taken d st.next f os);
      } in
      let answer : List Order → List Row = λ xs.
      taker_rows d st.next (fill rule xs n None 0) xs ++
      (remainder o (n - sum_by (fill rule xs n None 0) xs) a (reaches d p (away_best d st.away)) (or_else (away_best d st.away) 0) (t + 3000)).1 in
      subst (λ qs. BestEntry st.next d n (bound d p (away_best d qs)) h (t_rows (answer (against rule facts close st h s d p n sized.1)))) (sym s.quotes)
      (subst (λ xs. BestEntry st.next d n lim h (t_rows (answer xs))) (against_is rule facts close st h s d p n sized.1)
      (subst (λ rs. BestEntry st.next d n lim h rs) (sym rows_are) fair))

  -- ---- finish

  module _ (a : Auction) (is : st.auction ≡ Some a) (trading : st.trading ≡ true) where
    cap : Side → ℕ
    cap Buy = 99999
    cap Sell = 0

    finish_trades : BestTrades a.customer a.side h (filter (λ b. same_side b.side (other a.side)) h.orders) (taker_rows a.side a.customer (shares rule facts close st h s a is) (contra rule facts close st h s a is))
    unfolding cap
    finish_trades =
        let po : Order → Bool = is_contra rule facts close st h s a is in
        let whole : filter (reached a.side (cap a.side)) (filter po st.orders) ≡ filter po st.orders =
        kept_all (reached a.side (cap a.side)) (filter po st.orders) (all_kept_by po (λ o. reached a.side (cap a.side) o ≡ true) st.orders (All-weaker (Good st.trading) _ (λ o k. by a.side o (priced o.kind (subst (λ t. Fine t o.kind) trading k.fine))) st.orders s.good)) in
        subst (λ os. BestTrades a.customer a.side h (filter (λ b. same_side b.side (other a.side)) h.orders) (taker_rows a.side a.customer (fill rule os a.size.count (Some a.starter) (2 * a.size.count / 5)) os)) whole
        (best_trades trading a.side (λ b. same_side b.side (other a.side)) po (λ b o k. ap (λ x. same_side x (other a.side)) (sym k.side)) (λ o k. k) (lot_contra_all rule facts close st h s a is) (cap a.side)
        a.size.count (Some a.starter) (2 * a.size.count / 5) a.customer (omega (arith, (run rule facts close st h s a is).sized.1)) (fifth rule facts close st h s a is))
      where
        priced : (k : OrderKind) → Fine true k → price_of k ≤ 99999
        priced (Limit l) f = f
        priced MarketOnOpening f = omega arith

        by : (d : Side) (o : Order) → price_of o.kind ≤ 99999 → reached d (cap d) o ≡ true
        by Buy o l = le-leb (price_of o.kind) 99999 l
        by Sell o l = le-leb 0 (price_of o.kind) (omega arith)

    pub finished_fair : (t : ℕ) → BestAuction a.customer a.side a.size.count h (t_rows (finished rule st t a).rows)
    finished_fair t =
        let sh : Order → ℕ = shares rule facts close st h s a is in
        let fa : List Order = contra rule facts close st h s a is in
        let tk : List Row = taker_rows a.side a.customer sh fa in
        let trade_rows : t_rows tk ≡ tk = kept_all (λ r. is_trade r.kind) tk (All-weaker (Takes a.side fa) (λ r. is_trade r.kind ≡ true) (λ r k. k.0) tk (facts.rows_taken a.side a.customer sh fa)) in
        let after : List Order = live (map (λ o. cond (same_side o.side (other a.side)) (after_trade (sh o) o) o) (without a.customer st.orders)) in
        let rest : List Row = leftover after in
        let no_trades : t_rows rest ≡ [] = kept_none (λ r. is_trade r.kind) rest (All-map (λ r. is_trade r.kind ≡ false) (λ o. departure Withdrawn o.number 0 (standing o)) (filter (λ o. not (in_book o.role)) after) (all_of _ (filter (λ o. not (in_book o.role)) after) (λ o. refl))) in
        let rows_are : t_rows (tk ++ rest) ≡ tk = t_rows_append tk rest ∙ (λ i. trade_rows i ++ no_trades i) ∙ append-nil tk in
        subst (λ rs. BestAuction a.customer a.side a.size.count h rs) (sym rows_are)
        (record { whole = omega (arith, facts.rows_contracts a.side a.customer sh fa, all_shared rule facts close st h s a is); best = finish_trades })

  finish_fair_at : (k : Ticket) (t : ℕ) (x : Option Auction) → st.auction ≡ x → ((a : Auction) → x ≡ Some a → k.customer ≡ a.customer) → is_some x ≡ true →
      let ef : Effect = elim x [ Some a ↦ finished rule st t a | None ↦ effect_of st [] [] ] in
      CustomerOf h k.customer (λ b. BestAuction b.number b.side b.size h (t_rows ef.rows))
  finish_fair_at k t (Some a) is named e =
      let r = run rule facts close st h s a is in
      let b = r.entry.0 in
      let trading : st.trading ≡ true = go st.trading refl in (
        b,
        r.entry.1,
        r.entry.3 ∙ sym (named a refl),
        (subst (λ i. BestAuction i b.side b.size h (t_rows (finished rule st t a).rows)) (sym r.entry.3) (subst (λ d. BestAuction a.customer d b.size h (t_rows (finished rule st t a).rows)) (sym r.entry.4) (subst (λ n. BestAuction a.customer a.side n h (t_rows (finished rule st t a).rows)) (sym r.entry.5) (finished_fair a is trading t)))),
      )
    where
      go : (t : Bool) → st.trading ≡ t → t ≡ true
      go true q = refl
      go false q = let z = s.quiet q in let w : ◌≡◌ {A = ℕ} 0 1 = cc in absurd (zero_one w)
  finish_fair_at k t None is named e = absurd (both_ways false refl e)

  pub finish_fair : (k : Ticket) (t : Millis) (memory : List Row) → first_hit (checks st (finish k t memory)) ≡ None → CustomerOf h k.customer (λ b. BestAuction b.number b.side b.size h (t_rows (effect rule st (finish k t memory)).rows))
  finish_fair k t memory e =
      let f = finish_runs rule facts close st h s k t memory e in
      finish_fair_at k t.count st.auction refl (λ a q. f.2 ∙ sym (ap customer_number (sym q ∙ f.1))) (ap is_some f.1)
    where
      customer_number : Option Auction → ℕ
      customer_number x = elim x [ Some a ↦ a.customer | None ↦ 0 ]

  -- ---- opening

  module _ (before : st.trading ≡ false) where
    willing_is : (d : Side) (p : ℕ) (b : Entry) (o : Order) → Agrees st.trading h.opened_at b o → willing d p (of_entry h b) ≡ wills d p o
    willing_is d p b o k = (λ i. same_side (sym k.side i) d && willing_at d p (priced_false st.trading h.opened_at b o before k.price i))

    volume_is : (d : Side) (p : ℕ) → volume (of_entry h) d h.orders p ≡ volume of_order d st.orders p
    volume_is d p = matched_sum (λ b. willing d p (of_entry h b)) (wills d p) (balance h) standing (λ b k e. k) (λ b o k. (willing_is d p b o k.0, (λ e. k.1))) balanced

    volume_at_is : (p : ℕ) → volume_at h p ≡ matched_volume of_order st.orders p
    volume_at_is p = (λ i. min (volume_is Buy p i) (volume_is Sell p i))

    surplus_at_is : (p : ℕ) → surplus_at h p ≡ surplus of_order st.orders p
    surplus_at_is p = (λ i. distance (volume_is Buy p i) (volume_is Sell p i))

    willing_entry : (d : Side) (p n : ℕ) (o : Order) → Has st.orders o → o.number ≡ n → wills d p o ≡ true → (b : Entry) × Has h.orders b × (b.number ≡ n) × (willing d p (of_entry h b) ≡ true)
    willing_entry d p n o has e w =
        let b = all-has (λ o. (b : Entry) × Has h.orders b × Agrees st.trading h.opened_at b o) st.orders o (matched_entry s.matched) has in
        (b.0, b.1, sym b.2.number ∙ e, willing_is d p b.0 o b.2 ∙ w)

    opening_fair_at : (y : Option (ℕ × ℕ)) → top st.orders st.close ≡ y → BestOpening st.close h y (elim y [ Some x ↦ opening_rows rule st.orders x.0 | None ↦ [] ])
    opening_fair_at (Some x) is =
        let rows : List Row = opening_rows rule st.orders x.0 in
        let all = facts.opening_rows_of st.orders x.0 in
        let whole : t_rows rows ≡ rows = kept_all (λ r. is_trade r.kind) rows (All-weaker (Opens st.orders x.0) (λ r. is_trade r.kind ≡ true) (λ r k. k.0) rows all) in
        record {
          announced = ((facts.top_some st.orders st.close x is).1, (facts.top_some st.orders st.close x is).0 ∙ sym (volume_at_is x.0), (facts.top_some st.orders st.close x is).2);
          never_outdone = λ q grid out. facts.top_best st.orders st.close x is q grid (known q out);
          all_of_it = ap contracts_in whole ∙ facts.opening_contracts st.orders x.0 (lot_all rule facts close st h s before) (fine_all rule facts close st h s before) ∙ sym (volume_at_is x.0);
          one_price = subst (AllByRecursion (λ r. AtPrice (Some x) r.price.value)) (sym whole) (All-weaker (Opens st.orders x.0) (λ r. r.price.value ≡ x.0) (λ r k. k.1) rows all);
          buyers_willing = subst (AllByRecursion (λ r. WillingAt h Buy (Some x) r.first)) (sym whole) (All-weaker (Opens st.orders x.0) (λ r. WillingAt h Buy (Some x) r.first) (λ r k. willing_entry Buy x.0 r.first k.2.0 k.2.1 k.2.2 k.2.3) rows all);
          sellers_willing = subst (AllByRecursion (λ r. WillingAt h Sell (Some x) r.second)) (sym whole) (All-weaker (Opens st.orders x.0) (λ r. WillingAt h Sell (Some x) r.second) (λ r k. willing_entry Sell x.0 r.second k.3.0 k.3.1 k.3.2 k.3.3) rows all);
        }
      where
        known : (q : ℕ) → Outdone h st.close q (Some x) →
            (matched_volume of_order st.orders x.0 < matched_volume of_order st.orders q) ⊎
            (((matched_volume of_order st.orders x.0 ≡ matched_volume of_order st.orders q) × (surplus of_order st.orders q < surplus of_order st.orders x.0)) ⊎
            ((matched_volume of_order st.orders x.0 ≡ matched_volume of_order st.orders q) × (surplus of_order st.orders q ≡ surplus of_order st.orders x.0) × (distance q st.close < distance x.0 st.close)))
        known q (inl l) = inl (omega (arith, volume_at_is x.0, volume_at_is q))
        known q (inr (inl l)) = inr (inl (sym (volume_at_is x.0) ∙ l.0 ∙ volume_at_is q, omega (arith, surplus_at_is x.0, surplus_at_is q, l.1)))
        known q (inr (inr l)) = inr (inr (sym (volume_at_is x.0) ∙ l.0 ∙ volume_at_is q, sym (surplus_at_is q) ∙ l.1 ∙ surplus_at_is x.0, l.2))
    opening_fair_at None is = record {
      announced = tt;
      never_outdone = λ q grid out. facts.top_none st.orders st.close is q grid (omega (arith, volume_at_is q));
      all_of_it = refl;
      one_price = tt;
      buyers_willing = tt;
      sellers_willing = tt;
    }

  pub opening_fair : (pass : ℕ) (t : Millis) (w : Bool) (memory : List Row) → first_hit (checks st (opening pass t w memory)) ≡ None → BestOpening close h (top st.orders st.close) (effect rule st (opening pass t w memory)).rows
  opening_fair pass t w memory e =
      subst (λ c. BestOpening c h (top st.orders st.close) (effect rule st (opening pass t w memory)).rows) s.closes
      (opening_fair_at (opening_before rule facts close st h s pass t w memory e) (top st.orders st.close) refl)
