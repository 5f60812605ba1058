-- Laws of the table's records.
use Rattle.std.proofs.Common.{◌≡◌, ℕ, ◌+◌, ◌<◌, ◌≤◌, min, Bool, true, cond, not, ◌&&◌, ◌||◌, eqb, ltb, leb, List, [], ◌∷◌, ◌++◌, map, get_or, count_by, take, drop, refl, ap, subst, arith}
use Rattle.std.specs.List.{list_all, AllByRecursion}
use Rattle.std.proofs.ByRecursion.{All-append, All-take, All-weaker, all_kept_by}
use Rattle.std.proofs.lemmas.List.{take-append-drop}
use Rattle.std.proofs.lemmas.List.Sums.{sum_by-append}
use Rattle.std.proofs.lemmas.Bool.{and_from, and_parts, ltb-true, le-leb, eq-eqb, eqb-true, cond_both}
use Rattle.market.specs.Words.{standing, in_book, auctioned, limit_at, price_of}
use Rattle.market.specs.declared.order.Order.{Order}
use Rattle.market.specs.declared.order.OrderKind.{OrderKind}
use Rattle.market.specs.declared.order.OrderKind.TheVariants.{Limit, MarketOnOpening}
use Rattle.market.specs.declared.order.Role.{Role}
use Rattle.market.specs.declared.order.Role.TheVariants.{Book, Auctioned, Starter, Competing}
use Rattle.rules.specs.Allocation.{after_trade}
use Rattle.book.specs.Orders.{orders as records_of}
use Rattle.book.specs.declared.table.Table.{Table as RecordTable}
use Rattle.book.specs.Records.{balanced, free_record, booked, auction_contra, customers, Live}
use Rattle.book.specs.Settling.{by_place, settled_up_to, traded_up_to}
use Rattle.book.proofs.Records.{all_passes, count_three, live_changed, pass_all, rises_push}
use Rattle.book.proofs.Records.{table_live as records_live}
use Rattle.order_table.specs.Changes.{role_room}
use Rattle.rules.specs.Opening.{limited_at}
use Rattle.order_table.specs.Orders.{orders, next_number}
use Rattle.order_table.specs.Records.{priced, sound_record}
use Rattle.order_table.specs.declared.table.Table.{Table}

-- ---- a table

pub table_live : (t : Table) → Live (orders t) (next_number t)
table_live t = records_live t.records

pub table_priced : (t : Table) → AllByRecursion (λ o. priced o ≡ true) (orders t)
table_priced t = All-take (λ (o : Order). priced o ≡ true) t.records.count t.records.records (pass_all priced t.records.records t.prices)

free_priced : (o : Order) → free_record o ≡ true → priced o ≡ true
free_priced o h = let e : price_of o.kind ≡ 0 = eqb-true (price_of o.kind) 0 (and_parts (eqb o.number 0 && eqb o.size.count 0) (eqb (price_of o.kind) 0) h).1 in le-leb _ _ (omega arith)

-- where the live records are priced, all are: the others are free
pub all_priced : (r : RecordTable) → AllByRecursion (λ o. priced o ≡ true) (records_of r) → list_all priced r.records ≡ true
all_priced r h =
    let rest : AllByRecursion (λ o. priced o ≡ true) (drop r.count r.records) = All-weaker (λ (o : Order). free_record o ≡ true) (λ (o : Order). priced o ≡ true) free_priced (drop r.count r.records) (pass_all free_record (drop r.count r.records) r.free) in
    all_passes priced r.records
    (subst (AllByRecursion (λ (o : Order). priced o ≡ true)) (take-append-drop r.count r.records) (All-append (λ (o : Order). priced o ≡ true) (take r.count r.records) (drop r.count r.records) h rest))

-- ---- one record

-- what makes a record sound, in numbers
pub record Numbers (o : Order) : Type 0 where
  pub sum : o.left.count + o.traded.count + o.gone.count ≡ o.size.count
  pub size : o.size.count ≤ 9999
  pub price : price_of o.kind ≤ 99999

pub sound_from : (o : Order) → Numbers o → sound_record o ≡ true
sound_from o n = and_from (balanced o) (priced o) (and_from _ _ (eq-eqb _ _ n.sum) (le-leb _ _ n.size)) (le-leb _ _ n.price)

-- one more order
pub live_push : (os : List Order) (next : ℕ) → Live os next → (x : Order) → x.number ≡ next → next < 65536 → balanced x ≡ true → role_room x.role os ≡ true → Live (os ++ (x ∷ [])) (next + 1)
live_push os next l x e lt sound room =
    let r = rooms x.role room in
    let books : count_by booked (os ++ (x ∷ [])) ≤ 128 = omega (arith, sum_by-append (λ (o : Order). cond (booked o) 1 0) os (x ∷ []), r.0) in
    let rivals : count_by auction_contra (os ++ (x ∷ [])) ≤ 32 = omega (arith, sum_by-append (λ (o : Order). cond (auction_contra o) 1 0) os (x ∷ []), r.1) in
    let customer : count_by customers (os ++ (x ∷ [])) ≤ 1 = omega (arith, sum_by-append (λ (o : Order). cond (customers o) 1 0) os (x ∷ []), r.2) in
    record {
      few = omega (arith, count_three (os ++ (x ∷ [])));
      sound = All-append (λ (o : Order). balanced o ≡ true) os (x ∷ []) l.sound (sound, tt);
      rising = rises_push 0 os next x l.rising e;
      books = books;
      rivals = rivals;
      customer = customer;
      numbers = omega arith;
    }
  where
    rooms : (r : Role) → role_room r os ≡ true → (count_by booked os + cond (in_book r) 1 0 ≤ 128) × (count_by auction_contra os + cond (not (in_book r || auctioned r)) 1 0 ≤ 32) × (count_by customers os + cond (auctioned r) 1 0 ≤ 1)
    rooms Book h = let n = ltb-true _ _ h in let a = l.rivals in let b = l.customer in (omega arith, omega arith, omega arith)
    rooms Auctioned h = let n = ltb-true _ _ h in let a = l.rivals in let b = l.books in (omega arith, omega arith, omega arith)
    rooms Starter h = let n = ltb-true _ _ h in let a = l.books in let b = l.customer in (omega arith, omega arith, omega arith)
    rooms Competing h = let n = ltb-true _ _ h in let a = l.books in let b = l.customer in (omega arith, omega arith, omega arith)

-- ---- prices

module _ (g : ℕ → Order → Order) (price : (k : ℕ) (o : Order) → priced o ≡ true → priced (g k o) ≡ true) where
  pub priced_changed : (k : ℕ) (os : List Order) → AllByRecursion (λ o. priced o ≡ true) os → AllByRecursion (λ o. priced o ≡ true) (by_place g k os)
  priced_changed k [] h = tt
  priced_changed k (o ∷ os) h = (price k o h.0, priced_changed (k + 1) os h.1)

pub priced_settled : (p : Order → Bool) (os : List Order) (fills : List ℕ) → AllByRecursion (λ o. priced o ≡ true) os → AllByRecursion (λ o. priced o ≡ true) (settled_up_to p os fills)
priced_settled p os fills h =
    let g : ℕ → Order → Order = λ k. traded_up_to p (get_or fills k 0) in
    all_kept_by (λ o. ltb 0 (standing o)) (λ o. priced o ≡ true) (by_place g 0 os)
    (priced_changed g
    (λ k o h. cond_both (p o) (after_trade (min (get_or fills k 0) (standing o)) o) o (λ (x : Order). priced x ≡ true) (λ _. h) (λ _. h))
    0 os h)

-- ---- limits

pub by_place_map : (f : Order → Order) (k : ℕ) (os : List Order) → by_place (λ _. f) k os ≡ map f os
by_place_map f k [] = refl
by_place_map f k (o ∷ os) = ap (λ xs. f o ∷ xs) (by_place_map f (k + 1) os)

pub live_limited : (p : ℕ) (os : List Order) (next : ℕ) → Live os next → Live (map (limited_at p) os) next
live_limited p os next l =
    subst (λ (xs : List Order). Live xs next) (by_place_map (limited_at p) 0 os)
    (live_changed (λ _. limited_at p) (λ k o. refl) (λ k o. refl) (λ k o h. h) os next l)

priced_limit : (p : ℕ) → p ≤ 99999 → (k : OrderKind) → leb (price_of k) 99999 ≡ true → leb (price_of (elim k [ Limit l ↦ Limit l | MarketOnOpening ↦ limit_at p ])) 99999 ≡ true
priced_limit p le (Limit l) h = h
priced_limit p le MarketOnOpening h = le-leb _ _ le

pub priced_limited : (p : ℕ) → p ≤ 99999 → (os : List Order) → AllByRecursion (λ o. priced o ≡ true) os → AllByRecursion (λ o. priced o ≡ true) (map (limited_at p) os)
priced_limited p le [] h = tt
priced_limited p le (o ∷ os) h = (priced_limit p le o.kind h.0, priced_limited p le os h.1)
