-- Opening keeps `Sound`.
use Rattle.std.proofs.Common.{◌≡◌, ℕ, ◌+◌, ◌<◌, ◌≤◌, Bool, true, false, cond, not, ◌&&◌, eqb, ltb, List, [], ◌∷◌, ◌++◌, map, is_some, Some, None, count_by, filter, Option, sym, refl, ap, subst, inl, inr, arith}
use Rattle.std.specs.List.{AllByRecursion}
use Rattle.std.proofs.lemmas.List.Sums.{sum_by-cons}
use Rattle.std.proofs.ByRecursion.{sum_by_le, all_kept_by, kept_by_passes, All-weaker, All-map}
use Rattle.std.proofs.lemmas.Bool.{ltb-true, ltb-false, both_ways, or_parts}
use Rattle.market.specs.Refusals.{first_hit}
use Rattle.market.specs.declared.auction.Auction.{Auction}
use Rattle.market.specs.declared.order.Order.{Order}
use Rattle.market.specs.declared.order.OrderKind.{OrderKind}
use Rattle.market.specs.declared.order.OrderKind.TheVariants.{Limit, MarketOnOpening}
use Rattle.market.specs.declared.order.Side.{Side}
use Rattle.market.specs.declared.order.Side.TheVariants.{Buy, Sell}
use Rattle.market.specs.declared.row.Row.{Row}
use Rattle.market.specs.declared.units.Millis.{Millis}
use Rattle.rules.specs.Allocation.{after_trade, live}
use Rattle.rules.specs.Calls.{checks, effect, opened, opening}
use Rattle.rules.specs.Ledger.{Entry, Ledger, first_of, named}
use Rattle.rules.specs.Opening.{opened_orders, opening_fill, opening_rows, opening_trade, top, with_limit}
use Rattle.rules.specs.Series.{State, left_under, on_opening}
use Rattle.rules.specs.Volume.{matched_volume, of_order}
use Rattle.market.specs.Words.{AddsUp, in_book, limit_of, or_else, price_of, standing}
use Rattle.sharing.specs.Sharing.{Sharing}
use Rattle.rules.proofs.Tally.{sum_map, all_both}
use Rattle.rules.proofs.Sound.{Matched, none, spent, stands_as, Roled, Running, Sound, Good, Fine, Priced, other_auction, Facts, Lot, wills}
use Rattle.rules.proofs.Matching.{lot_of, matched_kept, count_kept, kept_all, moved_accounts, matched_map, matched_to, all_from_kept}
use Rattle.rules.proofs.Plain.{posting, grid_fine}
use Rattle.rules.proofs.Enter.{lot_kept}
use Rattle.rules.proofs.Steps.{accepts, none_yet, step_conserved, step_unnamed, step_rising, step_numbered, running_keeps, matched_nil}

pub count_none : (q : Order → Bool) (os : List Order) → count_by q os ≡ 0 → AllByRecursion (λ o. q o ≡ false) os
count_none q [] e = tt
count_none q (o ∷ os) e = (go (q o) (count_by q os) (omega (arith, sum_by-cons (λ o. cond (q o) 1 0) o os)), count_none q os (omega (arith, sum_by-cons (λ o. cond (q o) 1 0) o os)))
  where
    go : (b : Bool) (n : ℕ) → ◌≡◌ {A = ℕ} (cond b 1 0 + n) 0 → b ≡ false
    go true n e = absurd (no n e)
      where
        no : (n : ℕ) → ◌≡◌ {A = ℕ} (1 + n) 0 → ⊥
        no n e = omega arith
    go false n e = refl

matched_and : {S : Entry → Type 0} {R : Entry → Order → Type 0} (P : Order → Type 0) {bs : List Entry} {os : List Order} → Matched S R bs os → AllByRecursion P os → Matched S (λ b o. R b o × P o) bs os
matched_and P none a = none
matched_and P (spent s m) a = spent s (matched_and P m a)
matched_and P (stands_as r m) a = stands_as (r, a.0) (matched_and P m a.1)

-- prices as trading begins
limit_only : (k : OrderKind) (x : Option ℕ) (d : ℕ) → on_opening k ≡ false → x ≡ limit_of k → or_else x d ≡ price_of k
limit_only (Limit l) x d e q = ap (λ y. or_else y d) q
limit_only MarketOnOpening x d e q = absurd (both_ways true e refl)

fine_only : (k : OrderKind) → on_opening k ≡ false → Fine false k → Fine true k
fine_only (Limit l) e f = f
fine_only MarketOnOpening e f = absurd (both_ways true e refl)

limit_now : (k : OrderKind) (x : Option ℕ) (p : ℕ) → x ≡ limit_of k → or_else x p ≡ price_of (elim k [ Limit l ↦ Limit l | MarketOnOpening ↦ Limit (record { value = p }) ])
limit_now (Limit l) x p q = ap (λ y. or_else y p) q
limit_now MarketOnOpening x p q = ap (λ y. or_else y p) q

fine_now : (k : OrderKind) (p : ℕ) → p ≤ 99999 → Fine false k → Fine true (elim k [ Limit l ↦ Limit l | MarketOnOpening ↦ Limit (record { value = p }) ])
fine_now (Limit l) p e f = f
fine_now MarketOnOpening p e f = e

pub priced_false : (t : Bool) (opened : Option ℕ) (b : Entry) (o : Order) → t ≡ false → Priced t opened b o → b.price ≡ limit_of o.kind
priced_false true opened b o e k = absurd (both_ways true e refl)
priced_false false opened b o e k = k

module _ (rule : Sharing) (facts : Facts rule) (close : ℕ) (st : State) (h : Ledger) (s : Sound close st h) (before : st.trading ≡ false) where
  pub fine_all : AllByRecursion (λ o. Fine false o.kind) st.orders
  fine_all = All-weaker (Good st.trading) (λ o. Fine false o.kind) (λ o g. subst (λ t. Fine t o.kind) before g.fine) st.orders s.good

  idle : st.auction ≡ None
  idle = s.quiet before

  pub lot_all : Lot st.orders
  lot_all =
      let booked : filter (λ o. in_book o.role) st.orders ≡ st.orders = kept_all (λ o. in_book o.role) st.orders (subst (λ x. AllByRecursion (Roled x) st.orders) idle s.roled) in
      subst Lot booked (lot_kept rule facts close st h s (λ o. in_book o.role) (omega (arith, s.books)))

  pub lot_willing : (d : Side) (p : ℕ) → Lot (filter (wills d p) st.orders)
  lot_willing d p = lot_of (wills d p) st.orders lot_all

  pub matched_few : (p : ℕ) → matched_volume of_order st.orders p ≤ 1599840
  matched_few p =
      let l = lot_willing Buy p in
      omega (arith, sum_by_le standing 9999 (filter (wills Buy p) st.orders) l.small, l.short)

  within_fill : (d : Side) (p : ℕ) → AllByRecursion (λ o. wills d p o ≡ true → opening_fill rule st.orders p d o ≤ standing o) st.orders
  within_fill d p = all_from_kept (wills d p) (λ o. opening_fill rule st.orders p d o ≤ standing o) st.orders (facts.fill_within (filter (wills d p) st.orders) (matched_volume of_order st.orders p) None 0 (lot_willing d p) (matched_few p) (omega arith))

  within_trade : (p : ℕ) → AllByRecursion (λ o. opening_trade rule st.orders p o ≤ standing o) st.orders
  within_trade p = all_both (λ o. wills Buy p o ≡ true → opening_fill rule st.orders p Buy o ≤ standing o) (λ o. wills Sell p o ≡ true → opening_fill rule st.orders p Sell o ≤ standing o) _ st.orders (λ o x y. by o.side o x y) (within_fill Buy p) (within_fill Sell p)
    where
      if : (b : Bool) (m n : ℕ) → (b ≡ true → m ≤ n) → cond b m 0 ≤ n
      if true m n k = k refl
      if false m n k = omega arith

      by : (d : Side) (o : Order) → (wills Buy p o ≡ true → opening_fill rule st.orders p Buy o ≤ standing o) → (wills Sell p o ≡ true → opening_fill rule st.orders p Sell o ≤ standing o) → cond (wills d p o) (opening_fill rule st.orders p d o) 0 ≤ standing o
      by Buy o x y = if (wills Buy p o) (opening_fill rule st.orders p Buy o) (standing o) x
      by Sell o x y = if (wills Sell p o) (opening_fill rule st.orders p Sell o) (standing o) y

  opening_at : (t : ℕ) (y : Option (ℕ × ℕ)) → top st.orders st.close ≡ y → (ltb 0 (count_by (λ o. on_opening o.kind) st.orders) && not (is_some y)) ≡ false →
      Sound close
      (record {
        number = st.number;
        close = st.close;
        trading = true;
        time = t;
        next = st.next;
        away = st.away;
        orders = elim y [ Some x ↦ opened_orders rule st.orders x.0 | None ↦ st.orders ];
        auction = st.auction;
      })
      (record { orders = h.orders ++ []; quotes = h.quotes; rows = h.rows ++ (elim y [ Some x ↦ opening_rows rule st.orders x.0 | None ↦ [] ]); opened_at = first_of y h.opened_at; customer = h.customer })
  opening_at t None is e =
      let none-on : count_by (λ o. on_opening o.kind) st.orders ≡ 0 = omega (arith, ltb-false 0 (count_by (λ o. on_opening o.kind) st.orders) (yes _ e)) in
      let limits : AllByRecursion (λ o. on_opening o.kind ≡ false) st.orders = count_none (λ o. on_opening o.kind) st.orders none-on in
      record {
        closes = s.closes;
        quotes = s.quotes;
        spanned = s.spanned;
        first = s.first;
        rising = step_rising close st h s [] tt;
        numbered = step_numbered close st h s st.next [] (omega arith) tt;
        unnamed = step_unnamed close st h s [] st.next (omega arith) (λ n l. refl);
        conserved = step_conserved close st h s [] st.orders [] (λ n p l. omega arith) tt;
        matched = matched_nil (matched_to (λ b u. u) (λ b o r. record { number = r.0.number; side = r.0.side; book = r.0.book; price = limit_only o.kind b.price (or_else h.opened_at 0) r.1 (priced_false st.trading h.opened_at b o before r.0.price) })
            (matched_and (λ o. on_opening o.kind ≡ false) s.matched limits));
        good = all_both (Good st.trading) (λ o. on_opening o.kind ≡ false) (Good true) st.orders (λ o g k. record { some_left = g.some_left; at_most = g.at_most; fine = fine_only o.kind k (subst (λ t. Fine t o.kind) before g.fine); adds = g.adds }) s.good limits;
        roled = s.roled;
        books = s.books;
        others = s.others;
        quiet = λ q. absurd (both_ways true q refl);
        running = running_keeps st.auction st.next st.next st.orders st.orders h.orders [] h.customer (omega arith) (λ n k p l. refl) s.running;
      }
    where
      yes : (b : Bool) → (b && true) ≡ false → b ≡ false
      yes true k = k
      yes false k = refl
  opening_at t (Some x) is e =
      let p : ℕ = x.0 in
      let d : Order → ℕ = opening_trade rule st.orders p in
      let g : Order → Order = λ o. with_limit rule st.orders p (after_trade (d o) o) in
      let rows : List Row = opening_rows rule st.orders p in
      let os : List Order = live (map g st.orders) in
      let span : p ≤ 99999 = grid_fine p (facts.top_some st.orders st.close x is).1 in
      let acc : (i : ℕ) → 0 < i → named i rows + left_under os i ≡ left_under st.orders i = (λ i q.
      omega (arith, facts.opening_named st.orders p i lot_all fine_all q, moved_accounts g d st.orders i (All-weaker (λ o. d o ≤ standing o) _ (λ o l. (refl, omega arith)) st.orders (within_trade p)))) in
      record {
        closes = s.closes;
        quotes = s.quotes;
        spanned = s.spanned;
        first = s.first;
        rising = step_rising close st h s [] tt;
        numbered = step_numbered close st h s st.next [] (omega arith) tt;
        unnamed = step_unnamed close st h s rows st.next (omega arith) (λ i l. omega (arith, s.first, acc i (omega (arith, s.first)), none_yet close st h s i l));
        conserved = step_conserved close st h s rows os [] (λ i q l. acc i q) tt;
        matched = matched_nil (matched_kept (λ o. ltb 0 (standing o)) (matched_map g (λ b o r. record { number = r.number; side = r.side; book = r.book; price = limit_now o.kind b.price p (priced_false st.trading h.opened_at b o before r.price) }) s.matched));
        good = all_both (λ o. ltb 0 (standing o) ≡ true) (λ o. (standing o ≤ 9999) × Fine true o.kind × AddsUp o) (Good true) os
            (λ o u v. record { some_left = ltb-true 0 (standing o) u; at_most = v.0; fine = v.1; adds = v.2 })
            (kept_by_passes (λ o. ltb 0 (standing o)) (map g st.orders))
            (all_kept_by (λ o. ltb 0 (standing o)) (λ o. (standing o ≤ 9999) × Fine true o.kind × AddsUp o) (map g st.orders)
            (All-map (λ o. (standing o ≤ 9999) × Fine true o.kind × AddsUp o) g st.orders (all_both (Good st.trading) (λ o. d o ≤ standing o) _ st.orders (λ o k l. (omega (arith, k.at_most), fine_now o.kind p span (subst (λ t. Fine t o.kind) before k.fine), omega (arith, k.adds, l))) s.good (within_trade p))));
        roled = all_kept_by (λ o. ltb 0 (standing o)) (Roled st.auction) (map g st.orders) (All-map (Roled st.auction) g st.orders (All-weaker (Roled st.auction) (λ o. Roled st.auction (g o)) (λ o r. roled_open st.auction o (d o) p r) st.orders s.roled));
        books = omega (arith, s.books, count_kept (λ o. ltb 0 (standing o)) (λ o. in_book o.role) (map g st.orders), sum_map (λ o. cond (in_book o.role) 1 0) g st.orders);
        others = omega (arith, s.others, count_kept (λ o. ltb 0 (standing o)) other_auction (map g st.orders), sum_map (λ o. cond (other_auction o) 1 0) g st.orders);
        quiet = λ q. absurd (both_ways true q refl);
        running = subst (λ y. Running y st.next os (h.orders ++ []) h.customer) (sym idle) tt;
      }
    where
      roled_open : (a : Option Auction) (o : Order) (q p : ℕ) → Roled a o → Roled a (with_limit rule st.orders p (after_trade q o))
      roled_open None o q p r = r
      roled_open (Some a) o q p (inl r) = inl r
      roled_open (Some a) o q p (inr r) = inr r

  pub opening_sound_in : (pass : ℕ) (t : Millis) (w : Bool) (memory : List Row) → first_hit (checks st (opening pass t w memory)) ≡ None → Sound close (effect rule st (opening pass t w memory)).state (posting rule st h (opening pass t w memory))
  opening_sound_in pass t w memory e =
      let c = accepts (checks st (opening pass t w memory)) e in
      opening_at t.count (top st.orders st.close) refl c.1.1.1.0

module _ (rule : Sharing) (facts : Facts rule) (close : ℕ) (st : State) (h : Ledger) (s : Sound close st h) where
  pub opening_before : (pass : ℕ) (t : Millis) (w : Bool) (memory : List Row) → first_hit (checks st (opening pass t w memory)) ≡ None → st.trading ≡ false
  opening_before pass t w memory e =
      let c = accepts (checks st (opening pass t w memory)) e in
      (or_parts (not (eqb pass st.number)) st.trading c.0).1

  pub opening_sound : (pass : ℕ) (t : Millis) (w : Bool) (memory : List Row) → first_hit (checks st (opening pass t w memory)) ≡ None → Sound close (effect rule st (opening pass t w memory)).state (posting rule st h (opening pass t w memory))
  opening_sound pass t w memory e = opening_sound_in rule facts close st h s (opening_before pass t w memory e) pass t w memory e
