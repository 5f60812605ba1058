-- An order of an auction takes the place of another, or of none.
use Rattle.std.proofs.Common.{◌≡◌, ℕ, ◌+◌, ◌<◌, ◌≤◌, Bool, true, false, cond, not, ◌&&◌, ◌||◌, eqb, ltb, List, [], ◌∷◌, ◌++◌, is_some, Some, None, count_by, Option, sym, refl, ap, ◌∙◌, subst, arith}
use Rattle.std.specs.List.{AllByRecursion}
use Rattle.std.proofs.ByRecursion.{All-append, all_kept_by}
use Rattle.std.proofs.lemmas.List.Sums.{sum_by-cons}
use Rattle.std.proofs.lemmas.Bool.{and_parts, both_ways, eqb-true, eq-eqb, leb-true, leb-false, cond-false, cond_both}
use Rattle.market.specs.Words.{standing, in_book, auctioned, competing, or_else}
use Rattle.market.specs.declared.auction.Auction.{Auction}
use Rattle.market.specs.declared.order.Order.{Order}
use Rattle.market.specs.declared.order.Role.{Role}
use Rattle.market.specs.declared.order.Role.TheVariants.{Book, Auctioned, Starter, Competing}
use Rattle.rules.specs.Calls.{without, without_old}
use Rattle.rules.specs.Series.{State, found, auction_full, competing_order, replaced, starter_order}
use Rattle.rules.proofs.Matching.{count_kept}
use Rattle.rules.proofs.Tally.{sum_kept, sum_two, sum_under, all_of}
use Rattle.book.specs.Records.{auction_contra, rises}
use Rattle.series.specs.Held.{belongs, starting, starters_order, starter_stands, held_well}
use Rattle.series.proofs.Holding.{held_parts, held_from}
use Rattle.series.proofs.Starters.{stands_kept, stands_pushed, stands_last, starter_parts, others, found_passes, not_competing}
use Rattle.series.proofs.Starting.{belongs_other}

-- ---- there is room for the new order

-- an order that is found and taken off counts no more
module _ (p q : Order → Bool) (implies : (x : Order) → p x ≡ true → q x ≡ true) where
  found_less : (os : List Order) (o : Order) → found p os ≡ Some o → count_by q (without o.number os) + 1 ≤ count_by q os
  found_less [] o e = let z : ◌≡◌ {A = ℕ} 0 1 = cc in absurd (let w : ⊥ = omega arith in w)
  found_less (x ∷ xs) o e = go (p x) refl e (found_less xs o)
    where
      go : (b : Bool) → p x ≡ b → cond b (Some x) (found p xs) ≡ Some o → (found p xs ≡ Some o → count_by q (without o.number xs) + 1 ≤ count_by q xs) → count_by q (without o.number (x ∷ xs)) + 1 ≤ count_by q (x ∷ xs)
      go true k f rec =
          let same : x ≡ o = ap (λ (y : Option Order). or_else y x) f in
          let gone : not (eqb x.number o.number) ≡ false = ap not (eq-eqb x.number o.number (ap (λ (y : Order). y.number) same)) in
          let less : without o.number (x ∷ xs) ≡ without o.number xs = cond-false (not (eqb x.number o.number)) (x ∷ without o.number xs) (without o.number xs) gone in
          let one : ◌≡◌ {A = ℕ} (cond (q x) 1 0) 1 = ap (λ (b : Bool). cond {A = ℕ} b 1 0) (implies x k) in
          omega (arith, ap (count_by q) less, count_kept (λ (y : Order). not (eqb y.number o.number)) q xs, sum_by-cons (λ (y : Order). cond (q y) 1 0) x xs)
      go false k f rec =
          let w = without o.number xs in
          let most : count_by q (without o.number (x ∷ xs)) ≤ cond (q x) 1 0 + count_by q w =
          cond_both (not (eqb x.number o.number)) (x ∷ w) w (λ (l : List Order). count_by q l ≤ cond (q x) 1 0 + count_by q w)
          (λ _. omega (arith, sum_by-cons (λ (y : Order). cond (q y) 1 0) x w)) (λ _. omega arith) in
          omega (arith, rec f, sum_by-cons (λ (y : Order). cond (q y) 1 0) x xs)

competing_parts : (m n : ℕ) (o : Order) → competing_order m n o ≡ true → (o.number ≡ n) × (competing o.role ≡ true)
competing_parts m n o h =
    let b = and_parts (eqb o.number n && eqb o.member m) (competing o.role) h in
    (eqb-true o.number n (and_parts (eqb o.number n) (eqb o.member m) b.0).0, b.1)

competing_contra : (m n : ℕ) (o : Order) → competing_order m n o ≡ true → auction_contra o ≡ true
competing_contra m n o h = go o.role (competing_parts m n o h).1
  where
    go : (r : Role) → competing r ≡ true → not (in_book r || auctioned r) ≡ true
    go Book k = absurd (both_ways false refl k)
    go Auctioned k = absurd (both_ways false refl k)
    go Starter k = absurd (both_ways false refl k)
    go Competing k = refl

pub improving_room : (m : ℕ) (r : Option ℕ) (st : State) → count_by auction_contra st.orders ≤ 32 → (not (is_some r) && auction_full st) ≡ false → (is_some r && not (is_some (replaced m r st))) ≡ false →
    count_by auction_contra (without_old (replaced m r st) st.orders) < 32
improving_room m None st le full gone = leb-false 32 (count_by auction_contra st.orders) full
improving_room m (Some n) st le full gone = go (found (competing_order m n) st.orders) refl gone
  where
    go : (y : Option Order) → found (competing_order m n) st.orders ≡ y → not (is_some y) ≡ false → count_by auction_contra (without_old y st.orders) < 32
    go (Some o) e h = omega (arith, found_less (competing_order m n) auction_contra (competing_contra m n) st.orders o e)
    go None e h = absurd (both_ways true h refl)

one_less : (e : Bool) (r : Role) (x y : Bool) → cond {A = ℕ} (not e) (cond {A = ℕ} (not (in_book r || auctioned r)) 1 0) 0 + cond {A = ℕ} (e && starting r && x && y) 1 0 ≤ cond {A = ℕ} (not (in_book r || auctioned r)) 1 0
one_less true Book x y = omega arith
one_less true Auctioned x y = omega arith
one_less true Starter true true = omega arith
one_less true Starter true false = omega arith
one_less true Starter false y = omega arith
one_less true Competing x y = omega arith
one_less false Book x y = omega arith
one_less false Auctioned x y = omega arith
one_less false Starter x y = omega arith
one_less false Competing x y = omega arith

without_starter : (a : Auction) (os : List Order) → count_by auction_contra (without a.starter os) + count_by (starters_order a) os ≤ count_by auction_contra os
without_starter a os =
    let f : Order → ℕ = λ x. cond (not (eqb x.number a.starter)) (cond (auction_contra x) 1 0) 0 in
    let g : Order → ℕ = λ x. cond (starters_order a x) 1 0 in
    omega (
      arith,
      sum_kept (λ (x : Order). cond (auction_contra x) 1 0) (λ (x : Order). not (eqb x.number a.starter)) os,
      sum_two f g (λ (x : Order). f x + g x) os (all_of (λ (x : Order). f x + g x ≡ f x + g x) os (λ x. refl)),
      sum_under (λ (x : Order). f x + g x) (λ (x : Order). cond (auction_contra x) 1 0) os (all_of (λ (x : Order). f x + g x ≤ cond (auction_contra x) 1 0) os (λ x. one_less (eqb x.number a.starter) x.role (not (is_some x.exposed)) (ltb 0 (standing x)))),
    )

found_none : (p q : Order → Bool) → ((x : Order) → q x ≡ true → p x ≡ true) → (os : List Order) → found p os ≡ None → count_by q os ≡ 0
found_none p q implies [] e = refl
found_none p q implies (x ∷ xs) e = go (p x) refl e (found_none p q implies xs)
  where
    none : (b : Bool) → (b ≡ true → p x ≡ true) → p x ≡ false → cond {A = ℕ} b 1 0 ≡ 0
    none true k f = absurd (both_ways (p x) f (k refl))
    none false k f = refl

    go : (c : Bool) → p x ≡ c → cond c (Some x) (found p xs) ≡ None → (found p xs ≡ None → count_by q xs ≡ 0) → count_by q (x ∷ xs) ≡ 0
    go true k f rec = let z : ◌≡◌ {A = ℕ} 0 1 = cc in absurd (let w : ⊥ = omega arith in w)
    go false k f rec = omega (arith, rec f, none (q x) (implies x) k, sum_by-cons (λ (y : Order). cond (q y) 1 0) x xs)

pub bettering_room : (st : State) (a : Auction) → starter_stands (Some a) st.orders ≡ true → count_by auction_contra st.orders ≤ 32 → count_by auction_contra (without_old (starter_order st a) st.orders) < 32
bettering_room st a h le = go (starter_order st a) refl
  where
    go : (y : Option Order) → starter_order st a ≡ y → count_by auction_contra (without_old y st.orders) < 32
    go (Some o) e =
        let n : o.number ≡ a.starter = eqb-true o.number a.starter (found_passes (λ x. eqb x.number a.starter) st.orders o e) in
        let c = leb-true 1 (count_by (starters_order a) st.orders) h in
        subst (λ (k : ℕ). count_by auction_contra (without k st.orders) < 32) (sym n) (omega (arith, without_starter a st.orders))
    go None e =
        let c = leb-true 1 (count_by (starters_order a) st.orders) h in
        absurd (let w : ⊥ = omega (arith, found_none (λ x. eqb x.number a.starter) (starters_order a) (λ x k. (starter_parts a x k).0) st.orders e) in w)

-- ---- the invariant of the series

all_without : (P : Order → Type 0) (old : Option Order) (os : List Order) → AllByRecursion P os → AllByRecursion P (without_old old os)
all_without P (Some o) os h = all_kept_by (λ x. not (eqb x.number o.number)) P os h
all_without P None os h = h

-- an improvement leaves the starter's order
stands_improved : (m : ℕ) (r : Option ℕ) (st : State) (top : ℕ) → rises 0 st.orders top ≡ true → (au : Option Auction) → starter_stands au st.orders ≡ true → starter_stands au (without_old (replaced m r st) st.orders) ≡ true
stands_improved m None st top up au h = h
stands_improved m (Some n) st top up au h = go (found (competing_order m n) st.orders) refl
  where
    go : (y : Option Order) → found (competing_order m n) st.orders ≡ y → starter_stands au (without_old y st.orders) ≡ true
    go None e = h
    go (Some o) e =
        stands_kept au (λ x. not (eqb x.number o.number)) st.orders (λ a. others (competing_order m n) o.number
        (λ x k. (competing_parts m n x k).0 ∙ sym (competing_parts m n o (found_passes (competing_order m n) st.orders o e)).0) (starters_order a)
        (λ x k r. both_ways (competing x.role) (not_competing x.role (starter_parts a x r).1) (competing_parts m n x k).1)
        0 st.orders top o up e) h

pub held_improved : (m : ℕ) (r : Option ℕ) (st : State) (top : ℕ) (au : Option Auction) (x : Order) → rises 0 st.orders top ≡ true → is_some au ≡ true → auctioned x.role ≡ false → held_well au st.orders ≡ true →
    held_well au (without_old (replaced m r st) st.orders ++ (x ∷ [])) ≡ true
held_improved m r st top None x up runs role h = absurd (both_ways false refl runs)
held_improved m r st top (Some a) x up runs role h =
    let b = held_parts (Some a) st.orders h in
    let old = replaced m r st in
    held_from (Some a) (without_old old st.orders ++ (x ∷ [])) b.0
    (All-append (λ (o : Order). belongs (Some a) o ≡ true) (without_old old st.orders) (x ∷ []) (all_without (λ (o : Order). belongs (Some a) o ≡ true) old st.orders b.1) (belongs_other a x role, tt))
    (stands_pushed (Some a) (without_old old st.orders) x (stands_improved m r st top up (Some a) b.2))

-- the auction with another starter's order
abbrev pub with_starter : Auction → ℕ → Auction
with_starter a n = record { customer = a.customer; starter = n; member = a.member; side = a.side; size = a.size; end = a.end }

pub held_bettered : (a : Auction) (n : ℕ) (old : Option Order) (os : List Order) (x : Order) → auctioned x.role ≡ false → starters_order (with_starter a n) x ≡ true → held_well (Some a) os ≡ true → held_well (Some (with_starter a n)) (without_old old os ++ (x ∷ [])) ≡ true
held_bettered a n old os x role begins h =
    let b = held_parts (Some a) os h in
    let new = with_starter a n in
    held_from (Some new) (without_old old os ++ (x ∷ [])) b.0
    (All-append (λ (o : Order). belongs (Some new) o ≡ true) (without_old old os) (x ∷ []) (all_without (λ (o : Order). belongs (Some new) o ≡ true) old os b.1) (belongs_other new x role, tt))
    (stands_last new (without_old old os) x begins)
