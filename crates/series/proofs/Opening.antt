-- Before the opening every order is in the book, and an opening leaves it so.
use Rattle.std.proofs.Common.{◌≡◌, ℕ, ◌≤◌, true, false, ltb, List, length, Some, None, Option, sym, refl, ap, subst, arith}
use Rattle.std.proofs.ByRecursion.{All-map, all_kept_by}
use Rattle.std.proofs.lemmas.List.Sums.{length-filter}
use Rattle.std.proofs.lemmas.Bool.{both_ways}
use Rattle.market.specs.Words.{in_book, standing}
use Rattle.market.specs.declared.auction.Auction.{Auction}
use Rattle.market.specs.declared.order.Order.{Order}
use Rattle.rules.specs.Allocation.{after_trade}
use Rattle.rules.specs.Opening.{top, opening_trade}
use Rattle.rules.specs.Opening.{limited_at}
use Rattle.rules.proofs.Matching.{kept_all}
use Rattle.rules.proofs.Plain.{grid_fine}
use Rattle.rules.proofs.Tops.{top_some}
use Rattle.sharing.specs.Sharing.{Sharing}
use Rattle.book.specs.Records.{booked, Live}
use Rattle.series.specs.Held.{held_well}
use Rattle.series.specs.Openings.{Priced, orders_opened}
use Rattle.series.specs.Phases.{opened, running}
use Rattle.series.specs.declared.phase.Phase.{Phase}
use Rattle.series.specs.declared.phase.Phase.TheVariants.{PreOpening, Trading}
use Rattle.series.proofs.Holding.{held_parts, held_from}

-- before the opening no auction runs
pub quiet_before : (p : Phase) → opened p ≡ false → running p ≡ None
quiet_before PreOpening e = refl
quiet_before (Trading au) e = absurd (both_ways true e refl)

-- without an auction the book has all orders
pub few_orders : (au : Option Auction) (os : List Order) (next : ℕ) → au ≡ None → Live os next → held_well au os ≡ true → length os ≤ 128
few_orders au os next e l h =
    let books = l.books in
    let b = held_parts None os (subst (λ (x : Option Auction). held_well x os ≡ true) e h) in
    omega (arith, length-filter booked os, ap length (kept_all booked os b.1))

pub priced_top : (os : List Order) (close : ℕ) (opening : Option (ℕ × ℕ)) → opening ≡ top os close → Priced opening
priced_top os close (Some x) e = grid_fine x.0 (top_some os close x (sym e)).1
priced_top os close None e = tt

held_opened : (rule : Sharing) (os : List Order) (opening : Option (ℕ × ℕ)) → held_well None os ≡ true → held_well None (orders_opened rule os opening) ≡ true
held_opened rule os None h = h
held_opened rule os (Some x) h =
    let p = x.0 in
    let g : Order → Order = λ o. limited_at p (after_trade (opening_trade rule os p o) o) in
    held_from None (orders_opened rule os (Some x)) refl
    (all_kept_by (λ (o : Order). ltb 0 (standing o)) (λ (o : Order). in_book o.role ≡ true) _
    (All-map (λ (o : Order). in_book o.role ≡ true) g os (held_parts None os h).1))
    refl

pub held_after : (rule : Sharing) (au : Option Auction) (os after : List Order) (opening : Option (ℕ × ℕ)) → au ≡ None → held_well au os ≡ true → after ≡ orders_opened rule os opening → held_well None after ≡ true
held_after rule au os after opening e h f =
    subst (λ (xs : List Order). held_well None xs ≡ true) (sym f) (held_opened rule os opening (subst (λ (x : Option Auction). held_well x os ≡ true) e h))
