-- Searches that go on from one another.
use Rattle.std.proofs.Common.{◌≡◌, ℕ, ◌+◌, ◌<◌, Bool, true, false, cond, not, eqb, List, ◌++◌, length, get_or, drop, Option, Some, None, fold, sym, ap, ◌∙◌}
use Rattle.std.specs.Option.{option_eq}
use Rattle.std.proofs.lemmas.List.{append_assoc, at_drop_more}
use Rattle.std.proofs.lemmas.List.Sums.{fold-append}
use Rattle.std.proofs.lemmas.Bool.{cond-true, cond-false}
use Rattle.market.specs.declared.order.Side.{Side}
use Rattle.book.specs.declared.ladder.Step.{Step}
use Rattle.book.specs.declared.opening_price.search.Search.{Search}
use Rattle.book.specs.Candidates.{beside}
use Rattle.book.specs.Rating.{better_on}
use Rattle.book.specs.Search.{Tried, beside_steps}
use Rattle.book.proofs.Walking.{no_step}

pub tried_then : (a b c : Search) (xs ys : List ℕ) → Tried a b xs → Tried b c ys → Tried a c (xs ++ ys)
tried_then a b c xs ys h k = record {
  opening = k.opening ∙ h.opening;
  best = k.best ∙ (λ t. fold (better_on (h.opening t)) (h.best t) ys) ∙ sym (fold-append (better_on a.opening.now) a.best.price xs ys);
}

kept_or : (b c : Bool) → not b ≡ c → b ≡ not c
kept_or true c e = ap not e
kept_or false c e = ap not e

-- ---- a search beside the limits of a side, k of which are behind it

module _ (side : Side) (xs : List Step) (before : Search) where
  pub record Trying (now : Search) (last : Option ℕ) (k : ℕ) : Type 0 where
    pub tried : List ℕ
    pub so_far : Tried before now tried
    pub to_do : tried ++ beside_steps side last (drop k xs) ≡ beside_steps side None xs

  module _ (now : Search) (last : Option ℕ) (k : ℕ) (w : Trying now last k) where
    module _ (lt : k < length xs) where
      abbrev price : ℕ
      price = (get_or xs k no_step).price

      step : beside_steps side last (drop k xs) ≡ cond (option_eq eqb last (Some price)) (beside_steps side last (drop (k + 1) xs)) (beside side price ++ beside_steps side (Some price) (drop (k + 1) xs))
      step = at_drop_more (λ (ys : List Step). beside_steps side last ys) xs k no_step lt

      -- at the same price as the last limit nothing is tried
      pub trying_same : not (option_eq eqb last (Some price)) ≡ false → Trying now last (k + 1)
      trying_same e = record {
        tried = w.tried;
        so_far = w.so_far;
        to_do = ap (λ ys. w.tried ++ ys) (sym (step ∙ cond-true (option_eq eqb last (Some price)) _ _ (kept_or _ false e))) ∙ w.to_do;
      }

      pub trying_next : not (option_eq eqb last (Some price)) ≡ true → (next : Search) → Tried now next (beside side price) → Trying next (Some price) (k + 1)
      trying_next ne next t = record {
        tried = w.tried ++ beside side price;
        so_far = tried_then before now next w.tried (beside side price) w.so_far t;
        to_do =
            append_assoc w.tried (beside side price) (beside_steps side (Some price) (drop (k + 1) xs))
            ∙ ap (λ ys. w.tried ++ ys) (sym (step ∙ cond-false (option_eq eqb last (Some price)) _ _ (kept_or _ true ne)))
            ∙ w.to_do;
      }
