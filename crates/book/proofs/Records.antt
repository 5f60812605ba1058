-- Laws of the list of live records.
use Rattle.std.proofs.Common.{◌≡◌, ℕ, ◌+◌, ◌≤◌, min, Bool, true, cond, not, ◌||◌, eqb, ltb, leb, List, [], ◌∷◌, ◌++◌, length, get_or, count_by, filter, sym, refl, ap, subst, arith, length-take}
use Rattle.std.specs.List.{list_all, AllByRecursion}
use Rattle.std.proofs.ByRecursion.{all_kept_by, All-weaker, All-take}
use Rattle.std.proofs.lemmas.List.Elements.{All-from_recursion, recursion_from_All}
use Rattle.std.proofs.lemmas.List.Sums.{AllPass-from_list_all, list_all-from_AllPass, sum_by-cons, count_by-le-length, length-filter}
use Rattle.std.proofs.lemmas.Bool.{and_parts, and_from, lt-ltb, ltb-true, leb-true, le-leb, eq-eqb, eqb-true, cond_both}
use Rattle.market.specs.Words.{standing, in_book, auctioned}
use Rattle.market.specs.declared.order.Order.{Order}
use Rattle.market.specs.declared.order.Role.{Role}
use Rattle.market.specs.declared.order.Role.TheVariants.{Book, Auctioned, Starter, Competing}
use Rattle.rules.specs.Allocation.{after_trade}
use Rattle.rules.specs.Law.{Rising}
use Rattle.rules.proofs.Matching.{count_kept}
use Rattle.book.specs.Orders.{orders}
use Rattle.book.specs.Records.{balanced, booked, auction_contra, customers, rises, Live}
use Rattle.book.specs.Settling.{by_place, settled_up_to, traded_up_to}
use Rattle.book.specs.declared.table.Table.{Table}

module _ {X : Type 0} (p : X → Bool) where
  pub pass_all : (xs : List X) → list_all p xs ≡ true → AllByRecursion (λ x. p x ≡ true) xs
  pass_all xs h = recursion_from_All (λ x. p x ≡ true) xs (AllPass-from_list_all p xs h)

  pub all_passes : (xs : List X) → AllByRecursion (λ x. p x ≡ true) xs → list_all p xs ≡ true
  all_passes xs h = list_all-from_AllPass p xs (All-from_recursion (λ x. p x ≡ true) xs h)

-- what a balanced record says in numbers
pub balance : (o : Order) → balanced o ≡ true → (o.left.count + o.traded.count + o.gone.count ≡ o.size.count) × (o.size.count ≤ 9999)
balance o h =
    let b = and_parts (eqb (o.left.count + o.traded.count + o.gone.count) o.size.count) (leb o.size.count 9999) h in
    (eqb-true _ _ b.0, leb-true _ _ b.1)

pub balanced_from : (o : Order) → o.left.count + o.traded.count + o.gone.count ≡ o.size.count → o.size.count ≤ 9999 → balanced o ≡ true
balanced_from o e l = and_from _ _ (eq-eqb _ _ e) (le-leb _ _ l)

pub small_left : (o : Order) → balanced o ≡ true → standing o ≤ 9999
small_left o h = let b = balance o h in omega arith

pub rises_push : (low : ℕ) (os : List Order) (top : ℕ) (o : Order) → rises low os top ≡ true → o.number ≡ top → rises low (os ++ (o ∷ [])) (top + 1) ≡ true
rises_push low [] top o h e =
    let lt = ltb-true low top h in
    and_from (ltb low o.number) (ltb o.number (top + 1)) (lt-ltb low o.number (omega arith)) (lt-ltb o.number (top + 1) (omega arith))
rises_push low (x ∷ os) top o h e =
    let b = and_parts (ltb low x.number) (rises x.number os top) h in
    and_from (ltb low x.number) (rises x.number (os ++ (o ∷ [])) (top + 1)) b.0 (rises_push x.number os top o b.1 e)

-- from a lower start, to a higher top
pub rises_wider : (low low' : ℕ) (os : List Order) (top top' : ℕ) → low ≤ low' → top' ≤ top → rises low' os top' ≡ true → rises low os top ≡ true
rises_wider low low' [] top top' le ge h = let lt = ltb-true low' top' h in lt-ltb low top (omega arith)
rises_wider low low' (o ∷ os) top top' le ge h =
    let b = and_parts (ltb low' o.number) (rises o.number os top') h in
    let lt = ltb-true low' o.number b.0 in
    and_from (ltb low o.number) (rises o.number os top) (lt-ltb low o.number (omega arith)) (rises_wider o.number o.number os top top' (omega arith) ge b.1)

pub rises_kept : (p : Order → Bool) (low : ℕ) (os : List Order) (top : ℕ) → rises low os top ≡ true → rises low (filter p os) top ≡ true
rises_kept p low [] top h = h
rises_kept p low (o ∷ os) top h =
    let b = and_parts (ltb low o.number) (rises o.number os top) h in
    let lt = ltb-true low o.number b.0 in
    let more = rises_kept p o.number os top b.1 in
    cond_both (p o) (o ∷ filter p os) (filter p os) (λ l. rises low l top ≡ true)
    (λ _. and_from (ltb low o.number) (rises o.number (filter p os) top) b.0 more)
    (λ _. rises_wider low o.number (filter p os) top top (omega arith) (omega arith) more)

pub rising_from : (low : ℕ) (os : List Order) (top : ℕ) → rises low os top ≡ true → Rising (λ (o : Order). o.number) low os
rising_from low [] top h = tt
rising_from low (o ∷ os) top h =
    let b = and_parts (ltb low o.number) (rises o.number os top) h in
    (ltb-true low o.number b.0, rising_from o.number os top b.1)

-- in the book, the customer's of an auction, or another of an auction
pub count_three : (os : List Order) → count_by booked os + count_by auction_contra os + count_by customers os ≡ length os
count_three [] = refl
count_three (o ∷ os) =
    let one : cond (booked o) 1 0 + cond (auction_contra o) 1 0 + cond (customers o) 1 0 ≡ 1 = go o.role in
    omega (arith, sum_by-cons (λ (x : Order). cond (booked x) 1 0) o os, sum_by-cons (λ (x : Order). cond (auction_contra x) 1 0) o os, sum_by-cons (λ (x : Order). cond (customers x) 1 0) o os, count_three os)
  where
    go : (r : Role) → cond (in_book r) 1 0 + cond (not (in_book r || auctioned r)) 1 0 + cond (auctioned r) 1 0 ≡ 1
    go Book = refl
    go Auctioned = refl
    go Starter = refl
    go Competing = refl

pub live_kept : (p : Order → Bool) (os : List Order) (next : ℕ) → Live os next → Live (filter p os) next
live_kept p os next l =
    let few = l.few in
    let books = l.books in
    let rivals = l.rivals in
    let customer = l.customer in
    record {
      few = omega (arith, length-filter p os, count_by-le-length p os);
      sound = all_kept_by p (λ (o : Order). balanced o ≡ true) os l.sound;
      rising = rises_kept p 0 os next l.rising;
      books = omega (arith, count_kept p booked os);
      rivals = omega (arith, count_kept p auction_contra os);
      customer = omega (arith, count_kept p customers os);
      numbers = l.numbers;
    }

pub live_small : (os : List Order) (next : ℕ) → Live os next → AllByRecursion (λ o. standing o ≤ 9999) os
live_small os next l = All-weaker (λ (o : Order). balanced o ≡ true) (λ (o : Order). standing o ≤ 9999) small_left os l.sound

-- no number is past the last
pub live_upto : (os : List Order) (next : ℕ) → Live os next → Live os 65536
live_upto os next l = record { few = l.few; sound = l.sound; rising = rises_wider 0 0 os 65536 next (omega arith) l.numbers l.rising; books = l.books; rivals = l.rivals; customer = l.customer; numbers = omega arith }

-- ---- orders that change and keep their numbers and roles

module _ (g : ℕ → Order → Order) (number : (k : ℕ) (o : Order) → (g k o).number ≡ o.number) (role : (k : ℕ) (o : Order) → (g k o).role ≡ o.role)
    (sound : (k : ℕ) (o : Order) → balanced o ≡ true → balanced (g k o) ≡ true) where
  length_changed : (k : ℕ) (os : List Order) → length (by_place g k os) ≡ length os
  length_changed k [] = refl
  length_changed k (o ∷ os) = omega (arith, length_changed (k + 1) os)

  sound_changed : (k : ℕ) (os : List Order) → AllByRecursion (λ o. balanced o ≡ true) os → AllByRecursion (λ o. balanced o ≡ true) (by_place g k os)
  sound_changed k [] h = tt
  sound_changed k (o ∷ os) h = (sound k o h.0, sound_changed (k + 1) os h.1)

  rises_changed : (k low : ℕ) (os : List Order) (top : ℕ) → rises low os top ≡ true → rises low (by_place g k os) top ≡ true
  rises_changed k low [] top h = h
  rises_changed k low (o ∷ os) top h =
      let b = and_parts (ltb low o.number) (rises o.number os top) h in
      and_from (ltb low (g k o).number) (rises (g k o).number (by_place g (k + 1) os) top)
      (subst (λ (n : ℕ). ltb low n ≡ true) (sym (number k o)) b.0)
      (subst (λ (n : ℕ). rises n (by_place g (k + 1) os) top ≡ true) (sym (number k o)) (rises_changed (k + 1) o.number os top b.1))

  count_changed : (h : Role → Bool) (k : ℕ) (os : List Order) → count_by (λ o. h o.role) (by_place g k os) ≡ count_by (λ o. h o.role) os
  count_changed h k [] = refl
  count_changed h k (o ∷ os) =
      let one : ◌≡◌ {A = ℕ} (cond (h (g k o).role) 1 0) (cond (h o.role) 1 0) = ap (λ (r : Role). cond {A = ℕ} (h r) 1 0) (role k o) in
      omega (arith, sum_by-cons (λ (x : Order). cond (h x.role) 1 0) (g k o) (by_place g (k + 1) os), sum_by-cons (λ (x : Order). cond (h x.role) 1 0) o os, one, count_changed h (k + 1) os)

  pub live_changed : (os : List Order) (next : ℕ) → Live os next → Live (by_place g 0 os) next
  live_changed os next l =
      let few = l.few in
      let books = l.books in
      let rivals = l.rivals in
      let customer = l.customer in
      record {
        few = omega (arith, length_changed 0 os);
        sound = sound_changed 0 os l.sound;
        rising = rises_changed 0 0 os next l.rising;
        books = omega (arith, count_changed in_book 0 os);
        rivals = omega (arith, count_changed (λ r. not (in_book r || auctioned r)) 0 os);
        customer = omega (arith, count_changed auctioned 0 os);
        numbers = l.numbers;
      }

-- trades keep a record balanced
pub balanced_traded : (n : ℕ) (o : Order) → balanced o ≡ true → balanced (after_trade (min n (standing o)) o) ≡ true
balanced_traded n o h = let b = balance o h in balanced_from (after_trade (min n (standing o)) o) (omega arith) b.1

pub live_settled : (p : Order → Bool) (os : List Order) (next : ℕ) (fills : List ℕ) → Live os next → Live (settled_up_to p os fills) next
live_settled p os next fills l =
    let g : ℕ → Order → Order = λ k. traded_up_to p (get_or fills k 0) in
    live_kept (λ o. ltb 0 (standing o)) (by_place g 0 os) next
    (live_changed g
    (λ k o. cond_both (p o) (after_trade (min (get_or fills k 0) (standing o)) o) o (λ (x : Order). x.number ≡ o.number) (λ _. refl) (λ _. refl))
    (λ k o. cond_both (p o) (after_trade (min (get_or fills k 0) (standing o)) o) o (λ (x : Order). x.role ≡ o.role) (λ _. refl) (λ _. refl))
    (λ k o h. cond_both (p o) (after_trade (min (get_or fills k 0) (standing o)) o) o (λ (x : Order). balanced x ≡ true) (λ _. balanced_traded (get_or fills k 0) o h) (λ _. h))
    os next l)

pub table_live : (t : Table) → Live (orders t) t.next
table_live t =
    let few = t.few in
    record {
      few = omega (arith, length-take t.count t.records);
      sound = All-take (λ (o : Order). balanced o ≡ true) t.count t.records (pass_all balanced t.records t.sound);
      rising = t.rising;
      books = t.books;
      rivals = t.rivals;
      customer = t.customer;
      numbers = t.numbers;
    }
