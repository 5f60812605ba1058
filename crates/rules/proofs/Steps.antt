-- Parts that the calls share.
use Rattle.std.proofs.Common.{◌≡◌, ℕ, ◌+◌, ◌-◌, ◌<◌, ◌≤◌, Bool, true, false, cond, not, ◌&&◌, ◌||◌, eqb, ◌⊎◌, List, [], ◌∷◌, ◌++◌, map, is_some, Some, None, sum_by, filter, Option, sym, refl, ap, ◌∙◌, subst, inl, inr, ⊎_elim, arith}
use Rattle.std.specs.List.{ContainsAt as Has, AllByRecursion}
use Rattle.std.proofs.lemmas.List.{append-nil}
use Rattle.std.proofs.ByRecursion.{kept_by_passes, all-has, All-weaker, All-append, has_append_left}
use Rattle.std.proofs.lemmas.Bool.{eqb-true, eqb-false, ne_eqb, both_ways, cases_eq, not-true}
use Rattle.market.specs.Refusals.{first_hit}
use Rattle.market.specs.declared.auction.Auction.{Auction}
use Rattle.market.specs.declared.order.Order.{Order}
use Rattle.market.specs.declared.row.Row.{Row}
use Rattle.market.specs.declared.row.RowKind.{RowKind}
use Rattle.rules.specs.Calls.{without}
use Rattle.rules.specs.Law.{Rising}
use Rattle.rules.specs.Ledger.{Entry, Ledger, named, names}
use Rattle.rules.specs.Series.{State, found, left_under}
use Rattle.market.specs.Words.{departure, in_book, standing}
use Rattle.rules.proofs.Tally.{sum_kept, sum_map, sum_same, sum_two, all_both, all_of}
use Rattle.rules.proofs.Sound.{Matched, Roled, Running, Sound}
use Rattle.rules.proofs.Matching.{left_none, left_append, left_here, left_past, named_append, kept_kept, kept_same, rising_above, rising_orders, matched_all, matched_with, rising_append, has_cons}

-- ---- tests

pub zero_one : ◌≡◌ {A = ℕ} 0 1 → ⊥
zero_one e = omega arith

pub accepts : (xs : List (ℕ × Bool)) → first_hit xs ≡ None → AllByRecursion (λ x. x.1 ≡ false) xs
accepts [] e = tt
accepts (x ∷ xs) e = go x.1 e (accepts xs)
  where
    go : (b : Bool) → cond b (Some x.0) (first_hit xs) ≡ None → (first_hit xs ≡ None → AllByRecursion (λ x. x.1 ≡ false) xs) → (b ≡ false) × AllByRecursion (λ x. x.1 ≡ false) xs
    go true k f = let z : ◌≡◌ {A = ℕ} 0 1 = cc in absurd (zero_one z)
    go false k f = (refl, f k)

-- ---- removals

pub left_kept : (p : Order → Bool) (os : List Order) (n : ℕ) → AllByRecursion (λ o. o.number ≡ n → p o ≡ true) os → left_under (filter p os) n ≡ left_under os n
left_kept p os n h =
    ap (sum_by (λ o. o.left.count)) (kept_kept p (λ o. eqb o.number n) os ∙ kept_same (λ o. p o && eqb o.number n) (λ o. eqb o.number n) os
    (All-weaker (λ o. o.number ≡ n → p o ≡ true) (λ o. (p o && eqb o.number n) ≡ eqb o.number n) (λ o k. go (p o) (eqb o.number n) (λ e. k (eqb-true o.number n e))) os h))
  where
    go : (a b : Bool) → (b ≡ true → a ≡ true) → (a && b) ≡ b
    go true b k = refl
    go false true k = k refl
    go false false k = refl

-- those that go and those that stay
pub left_split : (p : Order → Bool) (os : List Order) (n : ℕ) → left_under (filter p os) n + left_under (filter (λ o. not (p o)) os) n ≡ left_under os n
left_split p os n =
    let e₁ = sum_kept (λ o. o.left.count) (λ o. eqb o.number n) (filter p os) in
    let e₂ = sum_kept (λ o. cond (eqb o.number n) o.left.count 0) p os in
    let e₃ = sum_kept (λ o. o.left.count) (λ o. eqb o.number n) (filter (λ o. not (p o)) os) in
    let e₄ = sum_kept (λ o. cond (eqb o.number n) o.left.count 0) (λ o. not (p o)) os in
    let e₅ = sum_kept (λ o. o.left.count) (λ o. eqb o.number n) os in
    let e₆ = sum_two (λ o. cond (p o) (cond (eqb o.number n) o.left.count 0) 0) (λ o. cond (not (p o)) (cond (eqb o.number n) o.left.count 0) 0) (λ o. cond (eqb o.number n) o.left.count 0) os
    (all_of _ os (λ o. go (p o) (cond (eqb o.number n) o.left.count 0))) in
    omega arith
  where
    go : (b : Bool) (m : ℕ) → cond b m 0 + cond (not b) m 0 ≡ m
    go true m = omega arith
    go false m = omega arith

pub departures_named : (row : Order → Row) (os : List Order) (n : ℕ) → 0 < n → ((o : Order) → ((row o).first ≡ o.number) × ((row o).second ≡ 0) × ((row o).contracts.count ≡ standing o)) →
    named n (map row os) ≡ left_under os n
departures_named row os n pos h =
    let e₁ = sum_kept (λ r. r.contracts.count) (names n) (map row os) in
    let e₂ = sum_map (λ r. cond (names n r) r.contracts.count 0) row os in
    let e₃ = sum_kept (λ o. o.left.count) (λ o. eqb o.number n) os in
    let e₄ = sum_same (λ o. cond (names n (row o)) (row o).contracts.count 0) (λ o. cond (eqb o.number n) o.left.count 0) os (all_of _ os (λ o. point o)) in
    omega arith
  where
    go : (b : Bool) → (b || false) ≡ b
    go true = refl
    go false = refl

    zero_apart : eqb 0 n ≡ false
    zero_apart = ne_eqb 0 n (λ e. omega arith)

    point : (o : Order) → cond (names n (row o)) (row o).contracts.count 0 ≡ cond (eqb o.number n) o.left.count 0
    point o = (λ t. cond (eqb ((h o).0 t) n || eqb ((h o).1 t) n) ((h o).2 t) 0) ∙ ap (λ b. cond (eqb o.number n || b) (standing o) 0) zero_apart ∙ ap (λ b. cond b (standing o) 0) (go (eqb o.number n))

pub left_each : (low : ℕ) (os : List Order) → Rising (λ (o : Order). o.number) low os → AllByRecursion (λ o. left_under os o.number ≡ standing o) os
left_each low [] h = tt
left_each low (o ∷ os) h =
    let above = rising_above (λ (p : Order). p.number) o.number o.number os (omega arith) h.1 in (
      left_here o os o.number refl ∙ (let z = left_none os o.number (All-weaker (λ (p : Order). o.number < p.number) (λ p. p.number ≡ o.number → ⊥) (λ p l e. omega arith) os above) in omega arith),
      all_both (λ (p : Order). o.number < p.number) (λ p. left_under os p.number ≡ standing p) (λ p. left_under (o ∷ os) p.number ≡ standing p) os
          (λ p l e. left_past o os p.number (λ k. omega arith) ∙ e) above (left_each o.number os h.1),
    )

pub some_order : (x : Option Order) → not (is_some x) ≡ false → (o : Order) × (x ≡ Some o)
some_order (Some o) e = (o, refl)
some_order None e = absurd (both_ways true e refl)

pub found_has : (q : Order → Bool) (os : List Order) (o : Order) → found q os ≡ Some o → Has os o × (q o ≡ true)
found_has q [] o e = let z : ◌≡◌ {A = ℕ} 0 1 = cc in absurd (zero_one z)
found_has q (p ∷ os) o e = go (q p) refl e (found_has q os o)
  where
    go : (b : Bool) → q p ≡ b → cond b (Some p) (found q os) ≡ Some o → (found q os ≡ Some o → Has os o × (q o ≡ true)) → Has (p ∷ os) o × (q o ≡ true)
    go true t k f = let same : p ≡ o = cc in ((0, omega arith, λ d. same), sym (ap q same) ∙ t)
    go false t k f = let r = f k in (has_cons p os o r.0, r.1)

pub without_accounts : (kind : RowKind) (low : ℕ) (os : List Order) (o : Order) → Rising (λ (o : Order). o.number) low os → Has os o → (n : ℕ) → 0 < n →
    named n (departure kind o.number 0 (standing o) ∷ []) + left_under (without o.number os) n ≡ left_under os n
without_accounts kind low os o r h n pos = ⊎_elim here past (cases_eq o.number n)
  where
    row : Order → Row
    row p = departure kind p.number 0 (standing p)

    rows : named n (departure kind o.number 0 (standing o) ∷ []) ≡ left_under (o ∷ []) n
    rows = departures_named row (o ∷ []) n pos (λ p. (refl, refl, refl))

    here : o.number ≡ n → named n (departure kind o.number 0 (standing o) ∷ []) + left_under (without o.number os) n ≡ left_under os n
    here e =
        let a = left_here o [] n e in
        let b = left_none (without o.number os) n (All-weaker (λ p. not (eqb p.number o.number) ≡ true) (λ p. p.number ≡ n → ⊥) (λ p k q. eqb-false p.number o.number (not-true (eqb p.number o.number) k) (q ∙ sym e)) (without o.number os) (kept_by_passes _ os)) in
        let c = all-has (λ p. left_under os p.number ≡ standing p) os o (left_each low os r) h in
        let d : left_under os o.number ≡ left_under os n = ap (left_under os) e in
        omega (arith, rows)

    past : (o.number ≡ n → ⊥) → named n (departure kind o.number 0 (standing o) ∷ []) + left_under (without o.number os) n ≡ left_under os n
    past e =
        let a = left_past o [] n e in
        let b = left_kept (λ p. not (eqb p.number o.number)) os n (all_of (λ p. p.number ≡ n → not (eqb p.number o.number) ≡ true) os (λ p k. ap not (ne_eqb p.number o.number (λ q. e (sym q ∙ k))))) in
        omega (arith, rows)

-- ---- new orders

module _ (next : ℕ) (xs ys : List Order) (low : AllByRecursion (λ (o : Order). o.number < next) xs) (high : AllByRecursion (λ (o : Order). next ≤ o.number) ys) where
  pub grown_old : (n : ℕ) → n < next → left_under (xs ++ ys) n ≡ left_under xs n
  grown_old n l = let a = left_append xs ys n in let b = left_none ys n (All-weaker (λ (o : Order). next ≤ o.number) (λ o. o.number ≡ n → ⊥) (λ o k e. omega arith) ys high) in omega arith

  pub grown_new : (n : ℕ) → next ≤ n → left_under (xs ++ ys) n ≡ left_under ys n
  grown_new n l = let a = left_append xs ys n in let b = left_none xs n (All-weaker (λ (o : Order). o.number < next) (λ o. o.number ≡ n → ⊥) (λ o k e. omega arith) xs low) in omega arith

-- ---- what a step of the ledger keeps

module _ (close : ℕ) (st : State) (h : Ledger) (s : Sound close st h) where
  pub orders_rising : Rising (λ (o : Order). o.number) 0 st.orders
  orders_rising = rising_orders (λ b o a. a.number) 0 s.matched s.rising

  pub orders_positive : AllByRecursion (λ (o : Order). 0 < o.number) st.orders
  orders_positive = rising_above (λ (o : Order). o.number) 0 0 st.orders (omega arith) orders_rising

  pub orders_early : AllByRecursion (λ (o : Order). o.number < st.next) st.orders
  orders_early = matched_all (λ (o : Order). o.number < st.next) (λ b o r. subst (λ n. n < st.next) (sym r.0.number) r.1) (matched_with (λ (b : Entry). b.number < st.next) s.matched s.numbered)

  -- nothing stands under a number that is yet to come
  pub none_yet : (i : ℕ) → st.next ≤ i → left_under st.orders i ≡ 0
  none_yet i l = left_none st.orders i (All-weaker (λ (o : Order). o.number < st.next) (λ o. o.number ≡ i → ⊥) (λ o a b. omega arith) st.orders orders_early)

  pub step_conserved : (rows : List Row) (os : List Order) (bs : List Entry) → ((n : ℕ) → 0 < n → n < st.next → named n rows + left_under os n ≡ left_under st.orders n) →
      AllByRecursion (λ (b : Entry). (st.next ≤ b.number) × (named b.number rows + left_under os b.number ≡ b.size)) bs →
      AllByRecursion (λ (b : Entry). named b.number (h.rows ++ rows) + left_under os b.number ≡ b.size) (h.orders ++ bs)
  step_conserved rows os bs acc new =
      All-append (λ (b : Entry). named b.number (h.rows ++ rows) + left_under os b.number ≡ b.size) h.orders bs
      (all_both (λ (b : Entry). (0 < b.number) × (b.number < st.next)) (λ (b : Entry). named b.number h.rows + left_under st.orders b.number ≡ b.size) _ h.orders
      (λ b n e. let a = named_append b.number h.rows rows in let c = acc b.number n.0 n.1 in omega arith)
      (all_both (λ (b : Entry). 0 < b.number) (λ (b : Entry). b.number < st.next) (λ (b : Entry). (0 < b.number) × (b.number < st.next)) h.orders (λ b x y. (x, y))
      (rising_above (λ (b : Entry). b.number) 0 0 h.orders (omega arith) s.rising) s.numbered)
      s.conserved)
      (All-weaker (λ (b : Entry). (st.next ≤ b.number) × (named b.number rows + left_under os b.number ≡ b.size)) _
      (λ b e. let a = named_append b.number h.rows rows in let c = s.unnamed b.number e.0 in let d = e.1 in omega arith) bs new)

  pub step_unnamed : (rows : List Row) (next : ℕ) → st.next ≤ next → ((n : ℕ) → next ≤ n → named n rows ≡ 0) → (n : ℕ) → next ≤ n → named n (h.rows ++ rows) ≡ 0
  step_unnamed rows next l f n k = let a = named_append n h.rows rows in let b = s.unnamed n (omega arith) in let c = f n k in omega arith

  pub step_rising : (bs : List Entry) → Rising (λ (b : Entry). b.number) (st.next - 1) bs → Rising (λ (b : Entry). b.number) 0 (h.orders ++ bs)
  step_rising bs k = rising_append (λ (b : Entry). b.number) 0 (st.next - 1) h.orders bs s.rising (All-weaker (λ (b : Entry). b.number < st.next) (λ (b : Entry). b.number ≤ st.next - 1) (λ b l. omega arith) h.orders s.numbered) (omega arith) k

  pub step_numbered : (next : ℕ) (bs : List Entry) → st.next ≤ next → AllByRecursion (λ (b : Entry). b.number < next) bs → AllByRecursion (λ (b : Entry). b.number < next) (h.orders ++ bs)
  step_numbered next bs l k = All-append (λ (b : Entry). b.number < next) h.orders bs (All-weaker (λ (b : Entry). b.number < st.next) (λ (b : Entry). b.number < next) (λ b m. omega arith) h.orders s.numbered) k

-- the numbers of a running auction's two orders
abbrev pub Held : Option Auction → ℕ → Type 0
Held None n = ⊥
Held (Some a) n = (n ≡ a.customer) ⊎ (n ≡ a.starter)

pub running_keeps : (a : Option Auction) (next next' : ℕ) (os os' : List Order) (bs cs : List Entry) (c : Option Entry) → next ≤ next' →
    ((n : ℕ) → Held a n → 0 < n → n < next → left_under os' n ≡ left_under os n) → Running a next os bs c → Running a next' os' (bs ++ cs) c
running_keeps None next next' os os' bs cs c l f r = tt
running_keeps (Some a) next next' os os' bs cs c l f r = record {
  sized = r.sized;
  apart = r.apart;
  early = (r.early.0, omega (arith, r.early.1), r.early.2, omega (arith, r.early.3));
  customer_left = f a.customer (inl refl) r.early.0 r.early.1 ∙ r.customer_left;
  starter_left = f a.starter (inr refl) r.early.2 r.early.3 ∙ r.starter_left;
  entry = (r.entry.0, r.entry.1, has_append_left bs cs r.entry.0 r.entry.2, r.entry.3, r.entry.4, r.entry.5);
}

-- a book order is none of the two
pub book_unheld : (a : Option Auction) (o : Order) → Roled a o → in_book o.role ≡ true → (n : ℕ) → Held a n → o.number ≡ n → ⊥
book_unheld None o r e n k q = k
book_unheld (Some a) o (inl r) e n (inl k) q = r.1 (q ∙ k)
book_unheld (Some a) o (inl r) e n (inr k) q = r.2 (q ∙ k)
book_unheld (Some a) o (inr r) e n k q = both_ways (in_book o.role) r.0 e

pub matched_nil : {S : Entry → Type 0} {R : Entry → Order → Type 0} {bs : List Entry} {os : List Order} → Matched S R bs os → Matched S R (bs ++ []) os
matched_nil {S = S} {R = R} {bs = bs} {os = os} m = subst (λ cs. Matched S R cs os) (sym (append-nil bs)) m
