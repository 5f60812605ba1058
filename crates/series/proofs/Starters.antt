-- The starter's order stands while its auction runs.
use Rattle.std.proofs.Common.{◌≡◌, ℕ, ◌<◌, ◌≤◌, Bool, true, false, cond, not, ◌&&◌, eqb, ltb, List, [], ◌∷◌, ◌++◌, map, is_some, Some, None, count_by, filter, Option, refl, ap, subst, arith}
use Rattle.std.specs.List.{AllByRecursion}
use Rattle.std.proofs.ByRecursion.{All-weaker}
use Rattle.std.proofs.lemmas.List.Sums.{sum_by-append}
use Rattle.std.proofs.lemmas.Bool.{and_parts, and_from, both_ways, ltb-true, leb-true, le-leb}
use Rattle.std.proofs.lemmas.Bool.Decides.{nat_tests}
use Rattle.market.specs.Words.{standing, in_book, competing, or_else}
use Rattle.market.specs.declared.auction.Auction.{Auction}
use Rattle.market.specs.declared.order.Order.{Order}
use Rattle.market.specs.declared.order.Role.{Role}
use Rattle.market.specs.declared.order.Role.TheVariants.{Book, Auctioned, Starter, Competing}
use Rattle.market.specs.declared.units.Millis.{Millis}
use Rattle.rules.specs.Series.{found, due}
use Rattle.rules.proofs.Tally.{sum_kept, sum_map, sum_under}
use Rattle.book.specs.Records.{rises}
use Rattle.series.specs.Held.{starting, starters_order, starter_stands}

under : (a b : Bool) → (a ≡ true → b ≡ true) → cond {A = ℕ} a 1 0 ≤ cond {A = ℕ} b (cond a 1 0) 0
under true true k = omega arith
under true false k = absurd (both_ways false refl (k refl))
under false true k = omega arith
under false false k = omega arith

over : (a b : Bool) → (a ≡ true → b ≡ true) → cond {A = ℕ} a 1 0 ≤ cond {A = ℕ} b 1 0
over true true k = omega arith
over true false k = absurd (both_ways false refl (k refl))
over false true k = omega arith
over false false k = omega arith

module _ (q : Order → Bool) where
  count_keeps : (p : Order → Bool) (os : List Order) → AllByRecursion (λ x. q x ≡ true → p x ≡ true) os → count_by q os ≤ count_by q (filter p os)
  count_keeps p os h =
      omega (
        arith,
        sum_kept (λ (x : Order). cond (q x) 1 0) p os,
        sum_under (λ (x : Order). cond (q x) 1 0) (λ (x : Order). cond (p x) (cond (q x) 1 0) 0) os (All-weaker (λ (x : Order). q x ≡ true → p x ≡ true) (λ (x : Order). cond (q x) 1 0 ≤ cond (p x) (cond (q x) 1 0) 0) (λ x k. under (q x) (p x) k) os h),
      )

  count_maps : (g : Order → Order) (os : List Order) → AllByRecursion (λ x. q x ≡ true → q (g x) ≡ true) os → count_by q os ≤ count_by q (map g os)
  count_maps g os h =
      omega (
        arith,
        sum_map (λ (x : Order). cond (q x) 1 0) g os,
        sum_under (λ (x : Order). cond (q x) 1 0) (λ (x : Order). cond (q (g x)) 1 0) os (All-weaker (λ (x : Order). q x ≡ true → q (g x) ≡ true) (λ (x : Order). cond (q x) 1 0 ≤ cond (q (g x)) 1 0) (λ x k. over (q x) (q (g x)) k) os h),
      )

pub stands_kept : (au : Option Auction) (p : Order → Bool) (os : List Order) → ((a : Auction) → AllByRecursion (λ x. starters_order a x ≡ true → p x ≡ true) os) → starter_stands au os ≡ true → starter_stands au (filter p os) ≡ true
stands_kept None p os k h = refl
stands_kept (Some a) p os k h = let c = leb-true 1 (count_by (starters_order a) os) h in le-leb 1 (count_by (starters_order a) (filter p os)) (omega (arith, count_keeps (starters_order a) p os (k a)))

pub stands_mapped : (au : Option Auction) (g : Order → Order) (os : List Order) → ((a : Auction) → AllByRecursion (λ x. starters_order a x ≡ true → starters_order a (g x) ≡ true) os) → starter_stands au os ≡ true → starter_stands au (map g os) ≡ true
stands_mapped None g os k h = refl
stands_mapped (Some a) g os k h = let c = leb-true 1 (count_by (starters_order a) os) h in le-leb 1 (count_by (starters_order a) (map g os)) (omega (arith, count_maps (starters_order a) g os (k a)))

pub stands_pushed : (au : Option Auction) (os : List Order) (x : Order) → starter_stands au os ≡ true → starter_stands au (os ++ (x ∷ [])) ≡ true
stands_pushed None os x h = refl
stands_pushed (Some a) os x h = let c = leb-true 1 (count_by (starters_order a) os) h in le-leb 1 (count_by (starters_order a) (os ++ (x ∷ []))) (omega (arith, sum_by-append (λ (o : Order). cond (starters_order a o) 1 0) os (x ∷ [])))

pub stands_last : (a : Auction) (os : List Order) (x : Order) → starters_order a x ≡ true → starter_stands (Some a) (os ++ (x ∷ [])) ≡ true
stands_last a os x h =
    let one : ◌≡◌ {A = ℕ} (cond (starters_order a x) 1 0) 1 = ap (λ (b : Bool). cond {A = ℕ} b 1 0) h in
    le-leb 1 (count_by (starters_order a) (os ++ (x ∷ []))) (omega (arith, sum_by-append (λ (o : Order). cond (starters_order a o) 1 0) os (x ∷ [])))

pub starter_parts : (a : Auction) (o : Order) → starters_order a o ≡ true → (eqb o.number a.starter ≡ true) × (starting o.role ≡ true) × (not (is_some o.exposed) ≡ true) × (ltb 0 (standing o) ≡ true)
starter_parts a o h =
    let b = and_parts (eqb o.number a.starter && starting o.role && not (is_some o.exposed)) (ltb 0 (standing o)) h in
    let d = and_parts (eqb o.number a.starter && starting o.role) (not (is_some o.exposed)) b.0 in
    let e = and_parts (eqb o.number a.starter) (starting o.role) d.0 in
    (e.0, e.1, d.1, b.1)

pub starter_from : (a : Auction) (o : Order) → eqb o.number a.starter ≡ true → starting o.role ≡ true → not (is_some o.exposed) ≡ true → ltb 0 (standing o) ≡ true → starters_order a o ≡ true
starter_from a o n r e l = and_from _ _ (and_from _ _ (and_from _ _ n r) e) l

-- an order that is not exposed is never due
pub lasting : (t : ℕ) (e : Option Millis) → not (is_some e) ≡ true → not (due t e) ≡ true
lasting t (Some x) h = absurd (both_ways false refl h)
lasting t None h = refl

-- numbers are used once
above : (low : ℕ) (os : List Order) (top : ℕ) → rises low os top ≡ true → AllByRecursion (λ x. low < x.number) os
above low [] top h = tt
above low (o ∷ os) top h =
    let b = and_parts (ltb low o.number) (rises o.number os top) h in
    let lt = ltb-true low o.number b.0 in
    (lt, All-weaker (λ (x : Order). o.number < x.number) (λ (x : Order). low < x.number) (λ x k. omega arith) os (above o.number os top b.1))

unlike : (a b : ℕ) → a < b → not (eqb a b) ≡ true
unlike a b lt = grind (arith, nat_tests)

unlike' : (a b : ℕ) → b < a → not (eqb a b) ≡ true
unlike' a b lt = grind (arith, nat_tests)

module _ (p : Order → Bool) (n : ℕ) (num : (x : Order) → p x ≡ true → x.number ≡ n) where
  found_above : (low : ℕ) (os : List Order) (top : ℕ) (o : Order) → rises low os top ≡ true → found p os ≡ Some o → low < n
  found_above low [] top o h e = let z : ◌≡◌ {A = ℕ} 0 1 = cc in absurd (let w : ⊥ = omega arith in w)
  found_above low (x ∷ xs) top o h e =
      let b = and_parts (ltb low x.number) (rises x.number xs top) h in
      go (p x) refl e (ltb-true low x.number b.0) (found_above x.number xs top o b.1)
    where
      go : (c : Bool) → p x ≡ c → cond c (Some x) (found p xs) ≡ Some o → low < x.number → (found p xs ≡ Some o → x.number < n) → low < n
      go true k f lt rec = omega (arith, num x k)
      go false k f lt rec = omega (arith, rec f)

  pub others : (q : Order → Bool) → ((x : Order) → p x ≡ true → q x ≡ true → ⊥) → (low : ℕ) (os : List Order) (top : ℕ) (o : Order) → rises low os top ≡ true → found p os ≡ Some o → AllByRecursion (λ x. q x ≡ true → not (eqb x.number n) ≡ true) os
  others q no_both low [] top o h e = tt
  others q no_both low (x ∷ xs) top o h e =
      let b = and_parts (ltb low x.number) (rises x.number xs top) h in
      go (p x) refl e (above x.number xs top b.1) (found_above x.number xs top o b.1) (others q no_both x.number xs top o b.1)
    where
      go : (c : Bool) → p x ≡ c → cond c (Some x) (found p xs) ≡ Some o → AllByRecursion (λ y. x.number < y.number) xs → (found p xs ≡ Some o → x.number < n) → (found p xs ≡ Some o → AllByRecursion (λ y. q y ≡ true → not (eqb y.number n) ≡ true) xs) →
          (q x ≡ true → not (eqb x.number n) ≡ true) × AllByRecursion (λ y. q y ≡ true → not (eqb y.number n) ≡ true) xs
      go true k f hi lt rec = (λ r. absurd (no_both x k r), All-weaker (λ (y : Order). x.number < y.number) (λ (y : Order). q y ≡ true → not (eqb y.number n) ≡ true) (λ y l _. unlike' y.number n (omega (arith, num x k))) xs hi)
      go false k f hi lt rec = (λ _. unlike x.number n (lt f), rec f)

pub found_passes : (p : Order → Bool) (os : List Order) (o : Order) → found p os ≡ Some o → p o ≡ true
found_passes p [] o e = let z : ◌≡◌ {A = ℕ} 0 1 = cc in absurd (let w : ⊥ = omega arith in w)
found_passes p (x ∷ xs) o e = go (p x) refl e (found_passes p xs o)
  where
    go : (c : Bool) → p x ≡ c → cond c (Some x) (found p xs) ≡ Some o → (found p xs ≡ Some o → p o ≡ true) → p o ≡ true
    go true k f rec = subst (λ (y : Order). p y ≡ true) (ap (λ (y : Option Order). or_else y x) f) k
    go false k f rec = rec f

pub not_booked : (r : Role) → starting r ≡ true → in_book r ≡ false
not_booked Book h = absurd (both_ways false refl h)
not_booked Auctioned h = refl
not_booked Starter h = refl
not_booked Competing h = refl

pub not_competing : (r : Role) → starting r ≡ true → competing r ≡ false
not_competing Book h = refl
not_competing Auctioned h = refl
not_competing Starter h = refl
not_competing Competing h = absurd (both_ways false refl h)
