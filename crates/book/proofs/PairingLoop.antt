-- A loop that writes the rows of a pairing from the front.
use Rattle.std.proofs.Common.{◌≡◌, ℕ, ◌+◌, ◌-◌, ◌<◌, ◌≤◌, min, ltb, List, [], ◌∷◌, ◌++◌, map, length, get_or, take, drop, set, sym, refl, ap, ◌∙◌, subst, ap₂, subst₂, arith}
use Rattle.std.proofs.lemmas.List.{append-nil, append_assoc, length-append, length-map, length-take-le, length-set, take_more_set, take-append-drop, drop-set-lt, drop-drop}
use Rattle.std.proofs.lemmas.Bool.{cond-true, lt-ltb}
use Rattle.market.specs.Words.{trade}
use Rattle.market.specs.declared.order.Side.TheVariants.{Buy}
use Rattle.market.specs.declared.row.Row.{Row}
use Rattle.rules.specs.Opening.{intervals, paired}
use Rattle.book.specs.Pairing.{filled_pair, pairing_rows}
use Rattle.book.specs.declared.pairing.Filled.{Filled}
use Rattle.book.proofs.InTurn.{row_of, pair_up, pair_step, pair_none, drop_buyer, paired_is, paired_length}

-- `count` rows are written, and bs and ss are still to be paired
pub record Writing (p : ℕ) (all old rows : List Row) (count : ℕ) (bs ss : List (ℕ × ℕ)) : Type 0 where
  pub written : take count rows ++ pair_up p bs ss ≡ all
  pub rest : drop count rows ≡ drop count old
  pub long : length rows ≡ length old
  pub inside : count ≤ length rows

writing_none : (p : ℕ) (old : List Row) (bs ss : List (ℕ × ℕ)) → Writing p (paired p (intervals 0 bs) (intervals 0 ss)) old old 0 bs ss
writing_none p old bs ss = record { written = sym (paired_is p bs 0 ss); rest = refl; long = refl; inside = omega arith }

writing_buyer : {p : ℕ} {all old rows : List Row} {count : ℕ} {bs ss : List (ℕ × ℕ)} → (n : ℕ) → Writing p all old rows count ((n, 0) ∷ bs) ss → Writing p all old rows count bs ss
writing_buyer {p} {rows = rows} {count = count} {bs} {ss} n w = record { written = ap (λ z. take count rows ++ z) (sym (drop_buyer p n bs ss)) ∙ w.written; rest = w.rest; long = w.long; inside = w.inside }

module _ {p : ℕ} {all old rows : List Row} {count n x m y : ℕ} {bs ss : List (ℕ × ℕ)} (k : ℕ) (least : k ≡ min x y) (w : Writing p all old rows count ((n, x) ∷ bs) ((m, y) ∷ ss)) where
  stepped : take count rows ++ (row_of p n m k ++ pair_up p ((n, x - k) ∷ bs) ((m, y - k) ∷ ss)) ≡ all
  stepped =
      ap (λ z. take count rows ++ (row_of p n m z ++ pair_up p ((n, x - z) ∷ bs) ((m, y - z) ∷ ss))) least ∙
      ap (λ z. take count rows ++ z) (sym (pair_step p n x m y bs ss)) ∙ w.written

  row_is : 0 < k → row_of p n m k ≡ trade Buy n m p k ∷ []
  row_is l = cond-true (ltb 0 k) (trade Buy n m p k ∷ []) [] (lt-ltb 0 k l)

  one_more : 0 < k → take count rows ++ (trade Buy n m p k ∷ pair_up p ((n, x - k) ∷ bs) ((m, y - k) ∷ ss)) ≡ all
  one_more l = ap (λ r. take count rows ++ (r ++ pair_up p ((n, x - k) ∷ bs) ((m, y - k) ∷ ss))) (sym (row_is l)) ∙ stepped

  -- there is room for one more row
  writing_room : 0 < k → length all ≤ length old → count < length rows
  writing_room l fits =
      omega (arith, w.inside, w.long, ap length (one_more l), length-append (take count rows) (trade Buy n m p k ∷ pair_up p ((n, x - k) ∷ bs) ((m, y - k) ∷ ss)), length-take-le count rows w.inside)

  writing_adds : 0 < k → length all ≤ length old → Writing p all old (set rows count (trade Buy n m p k)) (count + 1) ((n, x - k) ∷ bs) ((m, y - k) ∷ ss)
  writing_adds l fits =
      let room = writing_room l fits in record {
        written =
            ap (λ z. z ++ pair_up p ((n, x - k) ∷ bs) ((m, y - k) ∷ ss)) (take_more_set rows count (trade Buy n m p k) room) ∙
            append_assoc (take count rows) (trade Buy n m p k ∷ []) (pair_up p ((n, x - k) ∷ bs) ((m, y - k) ∷ ss)) ∙ one_more l;
        rest =
            drop-set-lt (count + 1) rows count (trade Buy n m p k) (omega arith) ∙ sym (drop-drop 1 count rows) ∙ ap (drop 1) w.rest ∙ drop-drop 1 count old;
        long = length-set rows count (trade Buy n m p k) ∙ w.long;
        inside = omega (arith, length-set rows count (trade Buy n m p k));
      }

-- no more to pair: the rows are written, and those behind are as they were
writing_done : {p : ℕ} {all old rows : List Row} {count : ℕ} {bs ss : List (ℕ × ℕ)} → Writing p all old rows count bs ss → pair_up p bs ss ≡ [] → (rows ≡ all ++ drop (length all) old) × (count ≡ length all)
writing_done {all = all} {old} {rows} {count} w none =
    let front : take count rows ≡ all = sym (append-nil (take count rows)) ∙ ap (λ z. take count rows ++ z) (sym none) ∙ w.written in
    let long : count ≡ length all = sym (length-take-le count rows w.inside) ∙ ap length front in
    (sym (take-append-drop count rows) ∙ ap₂ ◌++◌ front (w.rest ∙ ap (λ z. drop z old) long), long)

-- ---- the first of the sellers that are left has sold some already

-- k contracts less for the first
abbrev pub used_up : ℕ → List (ℕ × ℕ) → List (ℕ × ℕ)
used_up k [] = []
used_up k (x ∷ xs) = (x.0, x.1 - k) ∷ xs

used_none : (xs : List (ℕ × ℕ)) → used_up 0 xs ≡ xs
used_none [] = refl
used_none (x ∷ xs) = ap (λ k. (x.0, k) ∷ xs) {x = x.1 - 0} {y = x.1} (omega arith)

abbrev pub unsold : ℕ → List Filled → List (ℕ × ℕ)
unsold sold sellers = used_up sold (map filled_pair sellers)

-- the default at which the code reads a filled order
abbrev pub no_filled : Filled
no_filled = record { number = 0; contracts = record { count = 0 } }

-- no more rows than there is room for
pub rows_fit : (p : ℕ) (buyers sellers : List Filled) (room : ℕ) → length buyers + length sellers ≤ room → length (pairing_rows p buyers sellers) ≤ room
rows_fit p buyers sellers room l =
    omega (arith, paired_length p 0 (map filled_pair buyers) (map filled_pair sellers), length-map buyers filled_pair, length-map sellers filled_pair)

-- bs are still to be paired, with the sellers that are left, the first of which has sold `sold` contracts
pub record Going (p : ℕ) (all old rows : List Row) (count : ℕ) (bs : List (ℕ × ℕ)) (left : List Filled) (sold : ℕ) : Type 0 where
  pub writing : Writing p all old rows count bs (unsold sold left)
  pub fits : sold ≤ (get_or left 0 no_filled).contracts.count

pub going_none : (p : ℕ) (old : List Row) (bs ss : List Filled) → Going p (pairing_rows p bs ss) old old 0 (map filled_pair bs) ss 0
going_none p old bs ss = record {
  writing = subst (Writing p (pairing_rows p bs ss) old old 0 (map filled_pair bs)) (sym (used_none (map filled_pair ss))) (writing_none p old (map filled_pair bs) (map filled_pair ss));
  fits = omega arith;
}

drop_both : {X : Type 0} (xs ys : List X) (c d : ℕ) → c ≤ d → drop c xs ≡ drop c ys → drop d xs ≡ drop d ys
drop_both xs ys c d l e =
    ap (λ k. drop k xs) {x = d} {y = c + (d - c)} (omega arith) ∙ sym (drop-drop (d - c) c xs) ∙ ap (drop (d - c)) e ∙ drop-drop (d - c) c ys ∙ ap (λ k. drop k ys) {x = c + (d - c)} {y = d} (omega arith)

pub going_outside : {p : ℕ} {all old rows now : List Row} {count more : ℕ} {bs cs : List (ℕ × ℕ)} {left then : List Filled} {sold here : ℕ} →
    Going p all old rows count cs then here → count ≤ more → Going p all rows now more bs left sold → Going p all old now more bs left sold
going_outside {old = old} {rows} {count = count} {more} g l k = record {
  writing = record {
    written = k.writing.written;
    rest = k.writing.rest ∙ drop_both rows old count more l g.writing.rest;
    long = k.writing.long ∙ g.writing.long;
    inside = k.writing.inside;
  };
  fits = k.fits;
}

module _ {p : ℕ} {all old rows : List Row} {count n x : ℕ} {bs : List (ℕ × ℕ)} {left : List Filled} {sold : ℕ} (s : Filled) (later : List Filled) (e : left ≡ s ∷ later) (going : Going p all old rows count ((n, x) ∷ bs) left sold) where
  g : Going p all old rows count ((n, x) ∷ bs) (s ∷ later) sold
  g = subst (λ ss. Going p all old rows count ((n, x) ∷ bs) ss sold) e going

  pub going_fits : sold ≤ s.contracts.count
  going_fits = g.fits

  module _ (k : ℕ) (least : k ≡ min x (s.contracts.count - sold)) (some : 0 < k) (room : length all ≤ length old) where
    pub going_room : count < length rows
    going_room = writing_room k least g.writing some room

    -- one more row
    pub going_on : (y z : ℕ) (r : Row) → y ≡ x - k → z ≡ sold + k → r ≡ trade Buy n s.number p k → Going p all old (set rows count r) (count + 1) ((n, y) ∷ bs) left z
    going_on y z r d f t =
        let low = going_fits in
        let rest : s.contracts.count - sold - k ≡ s.contracts.count - z = omega arith in
        subst (λ ss. Going p all old (set rows count r) (count + 1) ((n, y) ∷ bs) ss z) (sym e) (record {
          writing = subst (λ q. Writing p all old (set rows count q) (count + 1) ((n, y) ∷ bs) ((s.number, s.contracts.count - z) ∷ map filled_pair later)) (sym t)
              (subst₂ (λ u v. Writing p all old (set rows count (trade Buy n s.number p k)) (count + 1) ((n, u) ∷ bs) ((s.number, v) ∷ map filled_pair later)) (sym d) rest (writing_adds k least g.writing some room));
          fits = omega arith;
        })

-- the first buyer is served
pub going_served : {p : ℕ} {all old rows : List Row} {count n x sold : ℕ} {bs : List (ℕ × ℕ)} {left : List Filled} → x ≡ 0 → Going p all old rows count ((n, x) ∷ bs) left sold → Going p all old rows count bs left sold
going_served {p} {all} {old} {rows} {count} {n} {x} {sold} {bs} {left} e g = record {
  writing = writing_buyer n (subst (λ z. Writing p all old rows count ((n, z) ∷ bs) (unsold sold left)) e g.writing);
  fits = g.fits;
}

-- all sellers are paired
pub going_sold : {p : ℕ} {all old rows : List Row} {count sold : ℕ} {bs : List (ℕ × ℕ)} {left : List Filled} → Going p all old rows count bs left sold → left ≡ [] → (rows ≡ all ++ drop count old) × (count ≡ length all)
going_sold {p} {all} {old} {rows} {count} {sold} {bs} {left} g e =
    let d = writing_done g.writing (ap (λ ss. pair_up p bs (unsold sold ss)) e ∙ pair_none p bs) in
    (d.0 ∙ ap (λ k. all ++ drop k old) (sym d.1), d.1)
