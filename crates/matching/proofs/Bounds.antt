-- What is known of an input that the checks accept, and parts of lists.
use Rattle.std.proofs.Common.{◌≡◌, ℕ, ◌-◌, ◌≤◌, Bool, true, false, not, ◌&&◌, leb, List, [], ◌∷◌, ◌++◌, length, take, drop, None, count_by, refl, ap, ◌∙◌, arith}
use borrow.Rule.Slice.PartMut.{put_mid}
use Rattle.std.proofs.lemmas.List.{append-nil, drop_all, drop_at, length-drop, length-take-le}
use Rattle.std.proofs.lemmas.Bool.{and_parts, leb-true}
use Rattle.market.specs.Refusals.{first_hit}
use Rattle.market.specs.declared.order.Order.{Order}
use Rattle.matching.specs.Matching.{opening_checks}
use Rattle.matching.specs.Taking.{taking_checks}
use Rattle.book.specs.declared.allocation.Taking.{Taking}

-- a single check that does not hit
unhit : (n : ℕ) (b : Bool) → None ≡ first_hit ((n, not b) ∷ []) → b ≡ true
unhit n true e = refl
unhit n false e = let z : ◌≡◌ {A = ℕ} 0 1 = cc in absurd (omega arith)

pub record TakingBounds (os : List Order) (p : Order → Bool) (t : Taking) (rows : ℕ) : Type 0 where
  pub claims : count_by p os ≤ 160
  pub rows_fit : count_by p os ≤ rows
  pub amounts : t.amount.count ≤ 1599840
  pub guarantees : t.guarantee.count ≤ 9999

pub taking_bounds : (os : List Order) (p : Order → Bool) (t : Taking) (rows : ℕ) → None ≡ first_hit (taking_checks os p t rows) → TakingBounds os p t rows
taking_bounds os p t rows e =
    let all = unhit 7 _ e in
    let b = and_parts (leb (count_by p os) 160 && leb (count_by p os) rows) (leb t.amount.count 1599840 && leb t.guarantee.count 9999) all in
    let x = and_parts (leb (count_by p os) 160) (leb (count_by p os) rows) b.0 in
    let y = and_parts (leb t.amount.count 1599840) (leb t.guarantee.count 9999) b.1 in
    record { claims = leb-true _ _ x.0; rows_fit = leb-true _ _ x.1; amounts = leb-true _ _ y.0; guarantees = leb-true _ _ y.1 }

pub record OpeningBounds (orders p rows : ℕ) : Type 0 where
  pub claims : orders ≤ 160
  pub rows_fit : orders ≤ rows
  pub price : p ≤ 99999

pub opening_bounds : (orders p rows : ℕ) → None ≡ first_hit (opening_checks orders p rows) → OpeningBounds orders p rows
opening_bounds orders p rows e =
    let all = unhit 7 _ e in
    let b = and_parts (leb orders 160 && leb orders rows) (leb p 99999) all in
    let x = and_parts (leb orders 160) (leb orders rows) b.0 in
    record { claims = leb-true _ _ x.0; rows_fit = leb-true _ _ x.1; price = leb-true _ _ b.1 }

-- what is written over the part of a list from a place to its end
pub rest_written : {X : Type 0} (xs ys : List X) (start n : ℕ) → start ≤ n → n ≡ length xs → drop start (put_mid start (n - start) xs ys) ≡ ys
rest_written xs ys start n le e =
    drop_at (take start xs) (ys ++ drop (n - start) (drop start xs)) start (length-take-le start xs (omega arith))
    ∙ ap (λ zs. ys ++ zs) (drop_all (n - start) (drop start xs) (omega (arith, length-drop start xs)))
    ∙ append-nil ys
