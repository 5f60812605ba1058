-- Rows written one after the other to the front of lent memory.
use Rattle.std.proofs.Common.{◌≡◌, ℕ, ◌+◌, ◌<◌, ◌≤◌, List, [], ◌∷◌, ◌++◌, length, take, drop, set, sym, ap, ◌∙◌, subst, ap₂, arith}
use Rattle.std.proofs.lemmas.List.{append-nil, append_assoc, length-append, length-take-le, length-set, take_more_set, take-append-drop, drop-set-lt, drop-drop}
use Rattle.market.specs.declared.row.Row.{Row}

-- of all rows some are still to do, `count` are written, and those behind are as they were
pub record Writing (all old todo rows : List Row) (count : ℕ) : Type 0 where
  pub front : take count rows ++ todo ≡ all
  pub rest : drop count rows ≡ drop count old
  pub long : length rows ≡ length old
  pub inside : count ≤ length rows

module _ (all old rows : List Row) (count : ℕ) where
  pub writing_same : (todo todo' : List Row) → todo ≡ todo' → Writing all old todo rows count → Writing all old todo' rows count
  writing_same todo todo' e w = subst (λ (rs : List Row). Writing all old rs rows count) e w

  pub writing_room : (r : Row) (todo : List Row) → Writing all old (r ∷ todo) rows count → length all ≤ length old → count < length rows
  writing_room r todo w fits =
      let inside = w.inside in
      let long = w.long in
      omega (arith, ap length w.front, length-append (take count rows) (r ∷ todo), length-take-le count rows inside)

  pub writing_one : (r : Row) (todo : List Row) → Writing all old (r ∷ todo) rows count → count < length rows → Writing all old todo (set rows count r) (count + 1)
  writing_one r todo w room = record {
    front = ap (λ zs. zs ++ todo) (take_more_set rows count r room) ∙ append_assoc (take count rows) (r ∷ []) todo ∙ w.front;
    rest = drop-set-lt (count + 1) rows count r (omega arith) ∙ sym (drop-drop 1 count rows) ∙ ap (drop 1) w.rest ∙ drop-drop 1 count old;
    long = length-set rows count r ∙ w.long;
    inside = omega (arith, length-set rows count r);
  }

  pub writing_all : Writing all old [] rows count → (count ≡ length all) × (rows ≡ all ++ drop count old)
  writing_all w =
      let front : take count rows ≡ all = sym (append-nil (take count rows)) ∙ w.front in
      (sym (length-take-le count rows w.inside) ∙ ap length front, sym (take-append-drop count rows) ∙ ap₂ ◌++◌ front w.rest)
