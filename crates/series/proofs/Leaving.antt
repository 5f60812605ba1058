-- Orders leave, and the starter's order stays.
use Rattle.std.proofs.Common.{◌≡◌, ℕ, ◌≤◌, Bool, true, not, ◌&&◌, eqb, ltb, List, ◌++◌, length, drop, Some, filter, Option, Ok, Err, Result, MatchResult, refl, subst, arith}
use Rattle.std.specs.Result.{IsOk}
use Rattle.std.proofs.lemmas.Bool.{and_parts, both_ways, eqb-true, ltb-true}
use Rattle.market.proofs.Tables.{hit}
use Rattle.market.specs.Words.{in_book}
use Rattle.market.specs.declared.auction.Auction.{Auction}
use Rattle.market.specs.declared.order.Order.{Order}
use Rattle.market.specs.declared.refusal.Refusal.{Refusal}
use Rattle.market.specs.declared.row.Row.{Row}
use Rattle.rules.specs.Calls.{without}
use Rattle.rules.specs.Series.{found, book_order, due}
use Rattle.rules.proofs.Tally.{all_of}
use Rattle.order_table.specs.Departures.{Wrote}
use Rattle.book.specs.Records.{rises}
use Rattle.series.specs.Held.{starters_order, held_well}
use Rattle.series.proofs.Holding.{held_parts, held_kept}
use Rattle.series.proofs.Starters.{stands_kept, starter_parts, lasting, others, not_booked}

-- a member's order of the book is withdrawn
pub held_withdrawn : (au : Option Auction) (os : List Order) (top m n : ℕ) (o : Order) → rises 0 os top ≡ true → found (book_order m n) os ≡ Some o → held_well au os ≡ true → held_well au (without n os) ≡ true
held_withdrawn au os top m n o up e h =
    let besides : Order → Bool = λ x. not (eqb x.number n) in
    held_kept au os besides h
    (stands_kept au besides os (λ a. others (book_order m n) n (λ x k. eqb-true x.number n (number_role x k).0) (starters_order a)
    (λ x k r. both_ways (in_book x.role) (not_booked x.role (starter_parts a x r).1) (number_role x k).1) 0 os top o up e)
    (held_parts au os h).2)
  where
    number_role : (x : Order) → book_order m n x ≡ true → (eqb x.number n ≡ true) × (in_book x.role ≡ true)
    number_role x k =
        let b = and_parts (eqb x.number n && eqb x.member m) (in_book x.role) k in
        ((and_parts (eqb x.number n) (eqb x.member m) b.0).0, b.1)

-- the orders whose exposure has ended leave
pub held_lasting : (au : Option Auction) (os : List Order) (t : ℕ) → held_well au os ≡ true → held_well au (filter (λ o. not (due t o.exposed)) os) ≡ true
held_lasting au os t h =
    let stays : Order → Bool = λ x. not (due t x.exposed) in
    held_kept au os stays h
    (stands_kept au stays os (λ a. all_of (λ (x : Order). starters_order a x ≡ true → stays x ≡ true) os (λ x k. lasting t x.exposed (starter_parts a x k).2)) (held_parts au os h).2)

-- rows that fit are written
pub fits : (rows before after : List Row) (r : Result ℕ Refusal) → length rows ≤ length before → Wrote rows before after r → IsOk r
fits rows before after (Ok n) le w = refl
fits rows before after (Err e) le w =
    let over = ltb-true (length before) (length rows) (hit 7 (ltb (length before) (length rows)) _ w.answer_is) in
    absurd (let w : ⊥ = omega arith in w)

-- how many rows are written, and where
pub fitted : (rows before after : List Row) (r : Result ℕ Refusal) (n : ℕ) → r ≡ Ok n → Wrote rows before after r → (n ≡ length rows) × (after ≡ rows ++ drop n before)
fitted rows before after r n e w = subst (λ (x : Result ℕ Refusal). MatchResult x (λ k. (k ≡ length rows) × (after ≡ rows ++ drop k before)) (λ _. after ≡ before)) e w.rows_are
