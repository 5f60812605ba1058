use Rattle.std.proofs.Common.{◌≡◌, ℕ, ◌+◌, Bool, true, false, cond, ltb, List, [], ◌∷◌, count_by, ◌||◌, sym, refl, ap, ◌∙◌, zero-add, arith, rules, tests}
use Rattle.std.specs.List.{list_any}
use Rattle.std.proofs.lemmas.Bool.{lt-ltb}
use Rattle.std.proofs.lemmas.Iterator.{YieldsList-from_slice}
use Rattle.std.proofs.lemmas.Iterator.Search.{any_from_yields_List}
use Rattle.std.proofs.lemmas.List.Sums.{sum_by-cons}
use Rattle.market.specs.declared.order.Order.{Order}
use Rattle.rules.specs.Series.{on_opening}
use Rattle.series.proofs.series.opening_checks.has_on_opening.Goals as goal

abbrev waits : Order → Bool
waits o = on_opening o.kind

-- some order passes a test exactly where their count is not 0
any_is : (os : List Order) → list_any waits os ≡ ltb 0 (count_by waits os)
any_is [] = refl
any_is (o ∷ os) = ap (λ (b : Bool). waits o || b) (any_is os) ∙ go (waits o) refl
  where
    one : (b : Bool) → waits o ≡ b → count_by waits (o ∷ os) ≡ cond b 1 0 + count_by waits os
    one b e = sum_by-cons (λ (x : Order). cond {A = ℕ} (waits x) 1 0) o os ∙ ap (λ (x : Bool). cond {A = ℕ} x 1 0 + count_by waits os) e

    go : (b : Bool) → waits o ≡ b → (b || ltb 0 (count_by waits os)) ≡ ltb 0 (count_by waits (o ∷ os))
    go true e = sym (lt-ltb 0 (count_by waits (o ∷ os)) (omega (arith, one true e)))
    go false e = ap (ltb 0) (sym (one false e ∙ zero-add (count_by waits os)))

pub returns : goal.returns
returns c =
    let os = c.args.orders.now in
    any_from_yields_List waits _ _ c.any.result c.any.ensures.ran (YieldsList-from_slice os cc) (λ x b q k. search (rules, tests)) ∙ any_is os
