-- Enter keeps `Sound`.
use Rattle.std.proofs.Common.{◌≡◌, ℕ, ◌+◌, ◌-◌, ◌<◌, ◌≤◌, min, Bool, true, false, cond, not, ◌&&◌, ◌||◌, eqb, List, [], ◌∷◌, ◌++◌, Some, None, sum_by, count_by, filter, Option, sym, refl, ap, ◌∙◌, subst, arith}
use Rattle.std.specs.List.{AllByRecursion}
use Rattle.std.proofs.lemmas.List.Sums.{sum_by-append, length-filter, count_by-le-length}
use Rattle.std.proofs.ByRecursion.{all_kept_by, kept_by_passes, All-weaker, All-append}
use Rattle.std.proofs.lemmas.Bool.{leb-false, ne_eqb, not-false, and_parts, or_parts}
use Rattle.market.specs.Refusals.{first_hit}
use Rattle.market.specs.Spans.{on_grid}
use Rattle.market.specs.declared.order.Account.{Account}
use Rattle.market.specs.declared.order.Order.{Order}
use Rattle.market.specs.declared.order.Role.TheVariants.{Book}
use Rattle.market.specs.declared.order.Side.{Side}
use Rattle.market.specs.declared.row.Row.{Row}
use Rattle.market.specs.declared.units.Cents.{Cents}
use Rattle.market.specs.declared.units.Contracts.{Contracts}
use Rattle.market.specs.declared.units.Millis.{Millis}
use Rattle.rules.specs.Allocation.{fill, taker_rows}
use Rattle.rules.specs.Calls.{checks, effect, enter, new_order, remainder}
use Rattle.rules.specs.Ledger.{Entry, Ledger, named, stands_at}
use Rattle.rules.specs.Prices.{away_best, bound, reaches}
use Rattle.rules.specs.Series.{State, book_against, left_under}
use Rattle.market.specs.Words.{auctioned, in_book, limit_at, market_maker, or_else, other, same_side, standing}
use Rattle.sharing.specs.Sharing.{Sharing}
use Rattle.rules.proofs.Tally.{sum_none, sum_under, all_both, all_of}
use Rattle.rules.proofs.Sound.{Agrees, Roled, Sound, Good, Fine, other_auction, Facts, Lot, reached}
use Rattle.rules.proofs.Matching.{lot_of, named_append, kept_kept, matched_append, all_from_kept, rising_kept, kept_none}
use Rattle.rules.proofs.Plain.{posting, size_fine, grid_fine, roled_new}
use Rattle.rules.proofs.Swaps.{priced_after}
use Rattle.rules.proofs.Trading.{traded, traded_accounts, traded_all, traded_good, traded_matched, traded_count, roled_trade, Rests, rests, rest_matched, away_below}
use Rattle.rules.proofs.Steps.{accepts, grown_old, grown_new, orders_rising, orders_early, none_yet, step_conserved, step_unnamed, step_rising, step_numbered, running_keeps, book_unheld}

pub all_none : (P : Order → Type 0) (os : List Order) (i : ℕ) → AllByRecursion (λ o. o.number ≡ i → ⊥) os → AllByRecursion P (filter (λ o. eqb o.number i) os)
all_none P os i h = subst (AllByRecursion P) (sym (kept_none (λ o. eqb o.number i) os (All-weaker (λ o. o.number ≡ i → ⊥) (λ o. eqb o.number i ≡ false) (λ o k. ne_eqb o.number i k) os h))) tt

module _ (rule : Sharing) (facts : Facts rule) (close : ℕ) (st : State) (h : Ledger) (s : Sound close st h) where
  pub lot_kept : (p : Order → Bool) → count_by p st.orders ≤ 160 → Lot (filter p st.orders)
  lot_kept p l = record {
    rising = rising_kept (λ (o : Order). o.number) p 0 st.orders (orders_rising close st h s);
    short = omega (arith, length-filter p st.orders);
    small = all_kept_by p (λ o. standing o ≤ 9999) st.orders (All-weaker (Good st.trading) (λ o. standing o ≤ 9999) (λ o g. g.at_most) st.orders s.good);
  }

  module _ (side : Side) (p n : ℕ) (small : n ≤ 9999) where
    abbrev pub best : Option ℕ
    best = away_best side st.away

    abbrev pub hits : Order → Bool
    hits o = same_side o.side (other side) && in_book o.role && reached side (bound side p best) o

    abbrev pub against : List Order
    against = filter hits st.orders

    abbrev pub fills : Order → ℕ
    fills = fill rule against n None 0

    pub against_is : filter (reached side (bound side p best)) (book_against side st.orders) ≡ against
    against_is = kept_kept (λ o. same_side o.side (other side) && in_book o.role) (reached side (bound side p best)) st.orders

    pub lot_contra : Lot (book_against side st.orders)
    lot_contra = lot_kept (λ o. same_side o.side (other side) && in_book o.role)
        (omega (arith, s.books, sum_under (λ o. cond (same_side o.side (other side) && in_book o.role) 1 0) (λ o. cond (in_book o.role) 1 0) st.orders (all_of _ st.orders (λ o. less (same_side o.side (other side)) (in_book o.role)))))
      where
        less : (a b : Bool) → ◌≤◌ (cond (a && b) 1 0) (cond b 1 0)
        less true b = omega arith
        less false true = omega arith
        less false false = omega arith

    pub lot_against : Lot against
    lot_against = subst Lot against_is (lot_of (reached side (bound side p best)) (book_against side st.orders) lot_contra)

    pub fits : AllByRecursion (λ o. hits o ≡ true → fills o ≤ standing o) st.orders
    fits = all_from_kept hits (λ o. fills o ≤ standing o) st.orders (facts.fill_within against n None 0 lot_against (omega arith) (omega arith))

    pub whole : sum_by fills against ≡ min n (sum_by standing against)
    whole = facts.fill_whole against n None 0 lot_against (omega arith) (omega arith)

  pub enter_sound : (pass : ℕ) (t : Millis) (m : ℕ) (side : Side) (a : Account) (p : Cents) (n : Contracts) (memory : List Row) → first_hit (checks st (enter pass t m side a p n memory)) ≡ None →
      Sound close (effect rule st (enter pass t m side a p n memory)).state (posting rule st h (enter pass t m side a p n memory))
  enter_sound pass t' m side a p' n' memory e =
      let t = t'.count in
      let p = p'.value in
      let n = n'.count in
      let c = accepts (checks st (enter pass t' m side a p' n' memory)) e in
      let is-trading : st.trading ≡ true = not-false st.trading (or_parts (not (eqb pass st.number)) (not st.trading) c.0).1 in
      let grid = grid_fine p (not-false (on_grid p) c.1.1.1.1.0) in
      let sized = size_fine n c.1.1.1.1.1.0 in
      let full = leb-false 128 (count_by (λ o. in_book o.role) st.orders) c.1.1.1.1.1.1.1.0 in
      let ag : List Order = against side p n sized.1 in
      let f : Order → ℕ = fills side p n sized.1 in
      let hit : Order → Bool = hits side p n sized.1 in
      let fit = fits side p n sized.1 in
      let o : Order = new_order st.next m side a (limit_at p) n Book in
      let reached = reaches side p (away_best side st.away) in
      let far = or_else (away_best side st.away) 0 in
      let all_of_it = whole side p n sized.1 in
      let rest : ℕ = n - sum_by f ag in
      let x : List Order × List Row = remainder o rest a reached far (t + 3000) in
      let r : Rests o rest (cond (reached && not (market_maker a)) far p) x = rests o rest far (t + 3000) s.first grid (away_below side st.away s.spanned) refl (omega arith) a reached in
      let kept : List Order = traded hit f st.orders fit in
      let rows : List Row = taker_rows side st.next f ag ++ x.1 in
      let early = orders_early close st h s in
      let kept-early = traded_all hit f st.orders fit (λ (o : Order). o.number < st.next) (λ o q k. k) early in
      let high : AllByRecursion (λ (o : Order). st.next ≤ o.number) x.0 = All-weaker _ (λ (o : Order). st.next ≤ o.number) (λ o k. omega (arith, k.0)) x.0 r.these in
      let old = grown_old st.next kept x.0 kept-early high in
      let new = grown_new st.next kept x.0 kept-early high in
      let taken-from : (i : ℕ) → (i ≡ st.next → ⊥) → named i (taker_rows side st.next f ag) ≡ sum_by f (filter (λ o. eqb o.number i) (filter hit st.orders)) =
      (λ i q. facts.rows_named side st.next f ag i q) in
      let acc : (i : ℕ) → 0 < i → i < st.next → named i rows + left_under (kept ++ x.0) i ≡ left_under st.orders i =
      (λ i q l. omega (arith, named_append i (taker_rows side st.next f ag) x.1, r.elsewhere i q (λ w. omega arith), old i l, taken-from i (λ w. omega arith), traded_accounts hit f st.orders fit i)) in
      let b : Entry = record { number = st.next; side = side; size = n; price = Some (stands_at side a p (away_best side h.quotes)); auction = false } in
      let price-is : stands_at side a p (away_best side h.quotes) ≡ cond (reached && not (market_maker a)) far p = ap (λ qs. stands_at side a p (away_best side qs)) s.quotes in
      let books-more : count_by (λ o. in_book o.role) x.0 ≤ 1 = omega (arith, r.few, count_by-le-length (λ o. in_book o.role) x.0) in
      let None-more = sum_none (λ o. cond (other_auction o) 1 0) x.0 (All-weaker _ (λ o. cond (other_auction o) 1 0 ≡ 0) (λ o k. ap (λ y. cond (not (in_book y || auctioned y)) 1 0) k.2) x.0 r.these) in
      record {
        closes = s.closes;
        quotes = s.quotes;
        spanned = s.spanned;
        first = omega (arith, s.first);
        rising = step_rising close st h s (b ∷ []) (omega (arith, s.first), tt);
        numbered = step_numbered close st h s (st.next + 1) (b ∷ []) (omega arith) (omega arith, tt);
        unnamed = step_unnamed close st h s rows (st.next + 1) (omega arith)
            (λ i l. omega (arith, s.first, named_append i (taker_rows side st.next f ag) x.1, r.elsewhere i (omega arith) (λ w. omega arith), taken-from i (λ w. omega arith), traded_accounts hit f st.orders fit i, none_yet close st h s i (omega arith)));
        conserved = step_conserved close st h s rows (kept ++ x.0) (b ∷ []) acc
            ((omega arith, omega (arith, all_of_it, named_append st.next (taker_rows side st.next f ag) x.1, facts.rows_taker side st.next f ag, r.account, new st.next (omega arith))), tt);
        matched = matched_append (traded_matched hit f st.orders fit st.trading h.opened_at h.orders s.matched)
            (rest_matched (Agrees st.trading h.opened_at) b x.0 r.few (All-weaker _ (Agrees st.trading h.opened_at b)
            (λ o k. record { number = k.0; side = k.1; book = ap in_book k.2; price = priced_after st.trading h.opened_at b o is-trading (price-is ∙ sym k.3) }) x.0 r.these));
        good = All-append (Good st.trading) kept x.0 (traded_good hit f st.orders fit st.trading s.good)
            (All-weaker _ (Good st.trading) (λ o k. record { some_left = k.4; at_most = omega (arith, k.5, sized.1); fine = subst (λ t. Fine t o.kind) (sym is-trading) k.6; adds = k.7 }) x.0 r.these);
        roled = All-append (Roled st.auction) kept x.0 (traded_all hit f st.orders fit (Roled st.auction) (λ o q k. roled_trade st.auction o q k) s.roled)
            (All-weaker _ (Roled st.auction) (λ o k. roled_new st.auction st.next st.orders h.orders h.customer o s.running (ap in_book k.2) k.0) x.0 r.these);
        books = omega (arith, full, books-more, traded_count hit f st.orders fit (λ o. in_book o.role) (λ o m. refl), sum_by-append (λ o. cond (in_book o.role) 1 0) kept x.0);
        others = omega (arith, s.others, None-more, traded_count hit f st.orders fit other_auction (λ o m. refl), sum_by-append (λ o. cond (other_auction o) 1 0) kept x.0);
        quiet = s.quiet;
        running = running_keeps st.auction st.next (st.next + 1) st.orders (kept ++ x.0) h.orders (b ∷ []) h.customer (omega arith)
            (λ i k q l. let none-taken = sum_none f (filter (λ o. eqb o.number i) (filter hit st.orders))
            (all_none (λ o. f o ≡ 0) (filter hit st.orders) i (all_both (λ o. hit o ≡ true) (Roled st.auction) (λ o. o.number ≡ i → ⊥) (filter hit st.orders)
            (λ o w v z. book_unheld st.auction o v (and_parts (same_side o.side (other side)) (in_book o.role) (and_parts (same_side o.side (other side) && in_book o.role) _ w).0).1 i k z)
            (kept_by_passes hit st.orders) (all_kept_by hit (Roled st.auction) st.orders s.roled))) in
            omega (arith, none-taken, old i l, traded_accounts hit f st.orders fit i)) s.running;
      }
