-- The calls that share nothing keep `Sound`.
use Rattle.std.proofs.Common.{◌≡◌, ℕ, ◌+◌, ◌-◌, ◌<◌, ◌≤◌, Bool, true, false, cond, not, ◌&&◌, eqb, leb, List, [], ◌∷◌, ◌++◌, set, Some, None, count_by, Option, sym, refl, ap, ◌∙◌, subst, inl, arith}
use Rattle.std.proofs.lemmas.List.Sums.{sum_by-append}
use Rattle.std.proofs.ByRecursion.{all_kept_by, all-has, All-append, All-set}
use Rattle.std.proofs.lemmas.Bool.{eqb-true, leb-true, leb-false, ne_eqb, both_ways, not-false, and_parts, or_parts}
use Rattle.market.specs.Refusals.{first_hit}
use Rattle.market.specs.Spans.{on_grid, price_in_span, size_in_span}
use Rattle.market.specs.declared.auction.Auction.{Auction}
use Rattle.market.specs.declared.order.Account.{Account}
use Rattle.market.specs.declared.order.Order.{Order}
use Rattle.market.specs.declared.order.OrderKind.{OrderKind}
use Rattle.market.specs.declared.order.OrderKind.TheVariants.{Limit, MarketOnOpening}
use Rattle.market.specs.declared.order.Role.TheVariants.{Book}
use Rattle.market.specs.declared.order.Side.{Side}
use Rattle.market.specs.declared.quote.Quote.{Quote}
use Rattle.market.specs.declared.row.Row.{Row}
use Rattle.market.specs.declared.row.RowKind.TheVariants.{Withdrawn}
use Rattle.market.specs.declared.units.Cents.{Cents}
use Rattle.market.specs.declared.units.Contracts.{Contracts}
use Rattle.market.specs.declared.units.Millis.{Millis}
use Rattle.rules.specs.Calls.{Call, away, checks, effect, new_order, opened, place, withdraw, withdrawn_rows, without}
use Rattle.rules.specs.Ledger.{Entry, Ledger, customer_after, empty_ledger, entries, first_of, named, quotes_after}
use Rattle.rules.specs.Runs.{opens_at}
use Rattle.rules.specs.Series.{State, bad_quote, book_order, found, fresh, left_under, off_grid}
use Rattle.market.specs.Words.{departure, in_book, limit_of, standing}
use Rattle.sharing.specs.Sharing.{Sharing}
use Rattle.rules.proofs.Tally.{all_of}
use Rattle.rules.proofs.Sound.{none, stands_as, Roled, Running, Sound, Good, Fine, Priced, Spanned, other_auction}
use Rattle.rules.proofs.Matching.{left_here, matched_append, matched_kept, count_kept}
use Rattle.rules.proofs.Steps.{accepts, left_kept, found_has, without_accounts, grown_old, grown_new, orders_rising, orders_early, none_yet, some_order, step_conserved, step_unnamed, step_rising, step_numbered, running_keeps, book_unheld, matched_nil}

-- the ledger after an accepted call
abbrev pub posting : Sharing → State → Ledger → Call → Ledger
posting rule st h c = record {
  orders = h.orders ++ entries h c (effect rule st c).numbers;
  quotes = quotes_after h.quotes c;
  rows = h.rows ++ (effect rule st c).rows;
  opened_at = first_of (opens_at st c) h.opened_at;
  customer = customer_after h.customer c (effect rule st c).numbers;
}

pub fresh_sound : (number close : ℕ) → Sound close (fresh number close) empty_ledger
fresh_sound number close = record {
  closes = refl;
  quotes = refl;
  spanned = ((tt, tt), ((tt, tt), ((tt, tt), ((tt, tt), ((tt, tt), ((tt, tt), ((tt, tt), ((tt, tt), tt))))))));
  first = omega arith;
  rising = tt;
  numbered = tt;
  unnamed = λ n l. refl;
  conserved = tt;
  matched = none;
  good = tt;
  roled = tt;
  books = omega arith;
  others = omega arith;
  quiet = λ e. refl;
  running = tt;
}

-- ---- what the checks tell

pub size_fine : (n : ℕ) → not (size_in_span n) ≡ false → (0 < n) × (n ≤ 9999)
size_fine n e =
    let p = and_parts (leb 1 n) (leb n 9999) (not-false (size_in_span n) e) in
    (leb-true 1 n p.0, leb-true n 9999 p.1)

pub span_fine : (p : ℕ) → price_in_span p ≡ true → p ≤ 99999
span_fine p e = leb-true p 99999 (and_parts (leb 1 p) (leb p 99999) e).1

pub grid_fine : (p : ℕ) → on_grid p ≡ true → p ≤ 99999
grid_fine p e = span_fine p (and_parts (price_in_span p) _ e).0

kind_fine : (k : OrderKind) → off_grid k ≡ false → Fine false k
kind_fine (Limit p) e = grid_fine p.value (not-false (on_grid p.value) e)
kind_fine MarketOnOpening e = tt

pub quote_fine : (q : Option Cents) → bad_quote q ≡ false → Spanned q
quote_fine (Some p) e = span_fine p.value (not-false (price_in_span p.value) e)
quote_fine None e = tt

pub priced_before : (t : Bool) (opened : Option ℕ) (b : Entry) (o : Order) → t ≡ false → b.price ≡ limit_of o.kind → Priced t opened b o
priced_before true opened b o e k = absurd (both_ways true e refl)
priced_before false opened b o e k = k

pub fine_before : (t : Bool) (k : OrderKind) → t ≡ false → Fine false k → Fine t k
fine_before true k e f = absurd (both_ways true e refl)
fine_before false k e f = f

pub roled_new : (a : Option Auction) (next : ℕ) (os : List Order) (bs : List Entry) (c : Option Entry) (o : Order) → Running a next os bs c → in_book o.role ≡ true → o.number ≡ next → Roled a o
roled_new None next os bs c o r e k = e
roled_new (Some a) next os bs c o r e k = inl (e, (λ q. omega (arith, r.early.1)), (λ q. omega (arith, r.early.3)))

module _ (rule : Sharing) (close : ℕ) (st : State) (h : Ledger) (s : Sound close st h) where
  -- ---- away

  pub away_sound : (t : Millis) (k : ℕ) (b o : Option Cents) → first_hit (checks st (away t k b o)) ≡ None → Sound close (effect rule st (away t k b o)).state (posting rule st h (away t k b o))
  away_sound t k b o e =
      let c = accepts (checks st (away t k b o)) e in
      let q = or_parts (bad_quote b) (bad_quote o) c.1.1.0 in
      record {
        closes = s.closes;
        quotes = ap (λ qs. set qs (k - 1) (record { bid = b; offer = o })) s.quotes;
        spanned = All-set (λ (q : Quote). Spanned q.bid × Spanned q.offer) st.away (k - 1) (record { bid = b; offer = o }) (quote_fine b q.0, quote_fine o q.1) s.spanned;
        first = s.first;
        rising = step_rising close st h s [] tt;
        numbered = step_numbered close st h s st.next [] (omega arith) tt;
        unnamed = step_unnamed close st h s [] st.next (omega arith) (λ n l. refl);
        conserved = step_conserved close st h s [] st.orders [] (λ n p l. omega arith) tt;
        matched = matched_nil s.matched;
        good = s.good;
        roled = s.roled;
        books = s.books;
        others = s.others;
        quiet = s.quiet;
        running = running_keeps st.auction st.next st.next st.orders st.orders h.orders [] h.customer (omega arith) (λ n k p l. refl) s.running;
      }

  -- ---- place

  module _ (pass : ℕ) (t : Millis) (m : ℕ) (side : Side) (a : Account) (k : OrderKind) (n : Contracts) (e : first_hit (checks st (place pass t m side a k n)) ≡ None) where
    place_new : Order
    place_new = new_order st.next m side a k n.count Book

    pub place_sound : Sound close (effect rule st (place pass t m side a k n)).state (posting rule st h (place pass t m side a k n))
    unfolding place_new
    place_sound =
        let c = accepts (checks st (place pass t m side a k n)) e in
        let before : st.trading ≡ false = (or_parts (not (eqb pass st.number)) st.trading c.0).1 in
        let sized = size_fine n.count c.1.1.1.1.0 in
        let full = leb-false 128 (count_by (λ o. in_book o.role) st.orders) c.1.1.1.1.1.0 in
        let early = orders_early close st h s in
        let old = grown_old st.next st.orders (place_new ∷ []) early (omega arith, tt) in
        let new = grown_new st.next st.orders (place_new ∷ []) early (omega arith, tt) in
        record {
          closes = s.closes;
          quotes = s.quotes;
          spanned = s.spanned;
          first = omega (arith, s.first);
          rising = step_rising close st h s _ (omega (arith, s.first), tt);
          numbered = step_numbered close st h s (st.next + 1) _ (omega arith) (omega arith, tt);
          unnamed = step_unnamed close st h s [] (st.next + 1) (omega arith) (λ n l. refl);
          conserved = step_conserved close st h s [] (st.orders ++ (place_new ∷ [])) _ (λ i p l. omega (arith, old i l))
              ((omega arith, let x = new st.next (omega arith) in let y = left_here place_new [] st.next refl in omega arith), tt);
          matched = matched_append s.matched (stands_as (record { number = refl; side = refl; book = refl; price = priced_before st.trading h.opened_at _ place_new before refl }) none);
          good = All-append (Good st.trading) st.orders (place_new ∷ []) s.good (record { some_left = sized.0; at_most = sized.1; fine = fine_before st.trading k before (kind_fine k c.1.1.1.0); adds = omega arith }, tt);
          roled = All-append (Roled st.auction) st.orders (place_new ∷ []) s.roled (roled_new st.auction st.next st.orders h.orders h.customer place_new s.running refl refl, tt);
          books = omega (arith, sum_by-append (λ o. cond (in_book o.role) 1 0) st.orders (place_new ∷ []));
          others = omega (arith, s.others, sum_by-append (λ o. cond (other_auction o) 1 0) st.orders (place_new ∷ []));
          quiet = s.quiet;
          running = running_keeps st.auction st.next (st.next + 1) st.orders (st.orders ++ (place_new ∷ [])) h.orders _ h.customer (omega arith) (λ i k p l. old i l) s.running;
        }

  -- ---- withdraw

  module _ (t : Millis) (m n : ℕ) (memory : List Row) (e : first_hit (checks st (withdraw t m n memory)) ≡ None) where
    pub withdraw_sound : Sound close (effect rule st (withdraw t m n memory)).state (posting rule st h (withdraw t m n memory))
    withdraw_sound =
        let c = accepts (checks st (withdraw t m n memory)) e in
        let f = some_order (found (book_order m n) st.orders) c.1.1.1.1.0 in
        let o = f.0 in
        let has = found_has (book_order m n) st.orders o f.1 in
        let parts = and_parts (eqb o.number n && eqb o.member m) (in_book o.role) has.1 in
        let is : o.number ≡ n = eqb-true o.number n (and_parts (eqb o.number n) (eqb o.member m) parts.0).0 in
        let book = parts.1 in
        let acc : (i : ℕ) → 0 < i → named i (withdrawn_rows (found (book_order m n) st.orders)) + left_under (without n st.orders) i ≡ left_under st.orders i =
        (λ i p. subst (λ x. named i (withdrawn_rows x) + left_under (without n st.orders) i ≡ left_under st.orders i) (sym f.1)
        (subst (λ x. named i (departure Withdrawn o.number 0 (standing o) ∷ []) + left_under (without x st.orders) i ≡ left_under st.orders i) is
        (without_accounts Withdrawn 0 st.orders o (orders_rising close st h s) has.0 i p))) in
        let keep : Order → Bool = λ p. not (eqb p.number n) in
        let roled-o = all-has (Roled st.auction) st.orders o s.roled has.0 in
        let early = all-has (λ (o : Order). o.number < st.next) st.orders o (orders_early close st h s) has.0 in
        record {
          closes = s.closes;
          quotes = s.quotes;
          spanned = s.spanned;
          first = omega (arith, s.first);
          rising = step_rising close st h s [] tt;
          numbered = step_numbered close st h s (st.next + 0) [] (omega arith) tt;
          unnamed = step_unnamed close st h s _ (st.next + 0) (omega arith) (λ i l. omega (arith, s.first, acc i (omega (arith, s.first)), none_yet close st h s i (omega arith)));
          conserved = step_conserved close st h s _ (without n st.orders) [] (λ i p l. acc i p) tt;
          matched = matched_nil (matched_kept keep s.matched);
          good = all_kept_by keep (Good st.trading) st.orders s.good;
          roled = all_kept_by keep (Roled st.auction) st.orders s.roled;
          books = omega (arith, s.books, count_kept keep (λ o. in_book o.role) st.orders);
          others = omega (arith, s.others, count_kept keep other_auction st.orders);
          quiet = s.quiet;
          running = running_keeps st.auction st.next (st.next + 0) st.orders (without n st.orders) h.orders [] h.customer (omega arith)
              (λ i k p l. left_kept keep st.orders i (all_of (λ p. p.number ≡ i → keep p ≡ true) st.orders (λ p q. ap not (ne_eqb p.number n (λ w. book_unheld st.auction o roled-o book i k (is ∙ sym w ∙ q)))))) s.running;
        }
