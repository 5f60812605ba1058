-- The finish of an auction, from what each step of the code leaves.
use Rattle.std.proofs.Common.{◌≡◌, ℕ, ◌+◌, ◌-◌, ◌≤◌, Bool, true, false, cond, not, ◌&&◌, ◌||◌, eqb, ltb, leb, List, [], ◌∷◌, ◌++◌, map, length, take, drop, Some, None, count_by, filter, sym, refl, ap, ◌∙◌, subst, arith}
use borrow.Rule.Slice.PartMut.{put_mid}
use Rattle.std.proofs.ByRecursion.{all_kept_by, All-weaker, kept_by_passes}
use Rattle.std.proofs.lemmas.List.{append-nil, drop_all, drop-drop, length-append, length-drop, take_rest}
use Rattle.std.proofs.lemmas.Bool.{and_parts, both_ways, cond_both, leb-true, not_from_true}
use Rattle.market.specs.Spans.{size_in_span}
use Rattle.market.specs.Words.{same_side, other, in_book, auctioned, standing}
use Rattle.market.specs.declared.auction.Auction.{Auction}
use Rattle.market.specs.declared.order.Order.{Order}
use Rattle.market.specs.declared.order.Role.{Role}
use Rattle.market.specs.declared.order.Role.TheVariants.{Book, Auctioned, Starter, Competing}
use Rattle.market.specs.declared.order.Side.{Side}
use Rattle.market.specs.declared.order.Side.TheVariants.{Buy, Sell}
use Rattle.market.specs.declared.row.Row.{Row}
use Rattle.rules.specs.Allocation.{after_trade, live}
use Rattle.rules.specs.Calls.{against_customer, without, withdrawn_row}
use Rattle.rules.proofs.Matching.{count_kept, kept_kept, kept_same}
use Rattle.rules.proofs.Tally.{all_of, all_both, sum_map, sum_two, sum_under}
use Rattle.sharing.specs.Sharing.{Sharing}
use Rattle.book.specs.Filters.{passes}
use Rattle.order_table.specs.Orders.{orders}
use Rattle.book.specs.Records.{booked, auction_contra, Live}
use Rattle.book.specs.declared.select.Filter.TheVariants.{Contra, Outside, InBook}
use Rattle.order_table.specs.declared.table.Table.{Table}
use Rattle.book.specs.Taking.{trades_of}
use Rattle.matching.specs.Taking.{Took}
use Rattle.matching.specs.declared.take.Taken.{Taken}
use Rattle.matching.specs.declared.take.Taker.{Taker}
use Rattle.series.specs.Finishing.{customer_taker, finish_fill, finish_left, finish_rows, finish_orders, Finished}
use Rattle.series.specs.Held.{auctioned_by, held_well}
use Rattle.series.proofs.Entering.{rows_behind}
use Rattle.series.proofs.Holding.{held_parts, held_from}

-- ---- an order may leave before the trades or after

and_swap : (a b : Bool) → (a && b) ≡ (b && a)
and_swap true true = refl
and_swap true false = refl
and_swap false true = refl
and_swap false false = refl

kept_swap : {X : Type 0} (p q : X → Bool) (xs : List X) → filter q (filter p xs) ≡ filter p (filter q xs)
kept_swap p q xs = kept_kept p q xs ∙ kept_same (λ x. p x && q x) (λ x. q x && p x) xs (all_of _ xs (λ x. and_swap (p x) (q x))) ∙ sym (kept_kept q p xs)

kept_map : {X : Type 0} (q : X → Bool) (g : X → X) → ((x : X) → q (g x) ≡ q x) → (xs : List X) → filter q (map g xs) ≡ map g (filter q xs)
kept_map q g e [] = refl
kept_map {X} q g e (x ∷ xs) =
    ap (λ (b : Bool). cond b (g x ∷ filter q (map g xs)) (filter q (map g xs))) (e x)
    ∙ ap (λ (ys : List X). cond (q x) (g x ∷ ys) ys) (kept_map q g e xs)
    ∙ go (q x)
  where
    go : (b : Bool) → cond b (g x ∷ map g (filter q xs)) (map g (filter q xs)) ≡ map g (cond b (x ∷ filter q xs) (filter q xs))
    go true = refl
    go false = refl

module _ (p : Order → Bool) (f : Order → ℕ) (n : ℕ) (os : List Order) where
  abbrev traded : Order → Order
  traded o = cond (p o) (after_trade (f o) o) o

  without_traded : without n (live (map traded os)) ≡ live (map traded (without n os))
  without_traded =
      kept_swap (λ o. ltb 0 (standing o)) (λ o. not (eqb o.number n)) (map traded os)
      ∙ ap live (kept_map (λ o. not (eqb o.number n)) traded (λ o. cond_both (p o) (after_trade (f o) o) o (λ (x : Order). not (eqb x.number n) ≡ not (eqb o.number n)) (λ _. refl) (λ _. refl)) os)

  outside_left : count_by (passes Outside) (live (map traded (without n os))) ≤ count_by (passes Outside) (without n os)
  outside_left =
      omega (
        arith,
        count_kept (λ o. ltb 0 (standing o)) (passes Outside) (map traded (without n os)),
        sum_map (λ (o : Order). cond (passes Outside o) 1 0) traded (without n os),
        sum_under (λ (o : Order). cond (passes Outside (traded o)) 1 0) (λ (o : Order). cond (passes Outside o) 1 0) (without n os) (all_of _ (without n os) (λ o. cond_both (p o) (after_trade (f o) o) o (λ (x : Order). cond {A = ℕ} (passes Outside x) 1 0 ≤ cond {A = ℕ} (passes Outside o) 1 0) (λ _. omega arith) (λ _. omega arith))),
      )

-- ---- rows behind others, in the rest of the lent memory

rest_put : (between last second : List Row) (k w : ℕ) → k ≤ length between → last ≡ second ++ drop w (take (length between - k) (drop k between)) → put_mid k (length between - k) between last ≡ take k between ++ (second ++ drop (k + w) between)
rest_put between last second k w le e =
    let rest = length between - k in
    ap (λ (rs : List Row). take k between ++ (last ++ rs)) (drop_all rest (drop k between) (omega (arith, length-drop k between)))
    ∙ ap (λ (rs : List Row). take k between ++ rs) (append-nil last ∙ e ∙ ap (λ (rs : List Row). second ++ drop w rs) (take_rest between k) ∙ ap (λ (rs : List Row). second ++ rs) (drop-drop w k between))

-- ---- the steps

module _ (rule : Sharing) (a : Auction) (before middle besides : Table) (old between : List Row) (taken : Taken) (taker : Taker) (whose : taker ≡ customer_taker a) (taking : Took rule (passes (Contra a.side)) taker before middle old between taken)
    (kept : orders besides ≡ without a.customer (orders middle)) where
  took : Took rule (passes (Contra a.side)) (customer_taker a) before middle old between taken
  took = subst (λ (t : Taker). Took rule (passes (Contra a.side)) t before middle old between taken) whose taking

  pub besides_are : orders besides ≡ finish_left rule (orders before) a
  besides_are = kept ∙ ap (without a.customer) took.left ∙ without_traded (against_customer a) (finish_fill rule (orders before) a) a.customer (orders before)

  pub outside_few : count_by (passes Outside) (orders besides) ≤ count_by (passes Outside) (without a.customer (orders before))
  outside_few = omega (arith, ap (count_by (passes Outside)) besides_are, outside_left (against_customer a) (finish_fill rule (orders before) a) a.customer (orders before))

  pub finished_so : (after : Table) (left : List Order) (last new : List Row) (w : ℕ) → besides.records.next ≡ middle.records.next → left ≡ orders besides → taken.rows ≤ length between → w ≡ length (map withdrawn_row (filter (passes Outside) left)) →
      last ≡ map withdrawn_row (filter (passes Outside) left) ++ drop w (take (length between - taken.rows) (drop taken.rows between)) → new ≡ put_mid taken.rows (length between - taken.rows) between last →
      orders after ≡ filter (passes InBook) (orders besides) → after.records.next ≡ besides.records.next → Finished rule a before after old new (taken.rows + w)
  finished_so after left last new w nexts is inside counted written put booked next =
      let first = trades_of rule (orders before) (passes (Contra a.side)) (customer_taker a) in
      let second = map withdrawn_row (filter (passes Outside) left) in
      let same : left ≡ finish_left rule (orders before) a = is ∙ besides_are in
      let rows_are : first ++ second ≡ finish_rows rule (orders before) a = ap (λ (xs : List Order). first ++ map withdrawn_row (filter (passes Outside) xs)) same in
      record {
        counted = omega (arith, took.counted, counted, length-append first second, ap length rows_are);
        written = rows_behind first second old between new taken.rows (taken.rows + w) took.counted (ap (λ (k : ℕ). taken.rows + k) counted) took.written (put ∙ rest_put between last second taken.rows w inside written)
            ∙ ap (λ (rs : List Row). rs ++ drop (taken.rows + w) old) rows_are;
        left = booked ∙ ap (filter (passes InBook)) besides_are;
        numbers = next ∙ nexts ∙ took.numbers;
      }

-- ---- what a running auction says of the orders

opposed : (x y : Side) → same_side x y ≡ true → same_side x (other y) ≡ false
opposed Buy Buy e = refl
opposed Buy Sell e = absurd (both_ways false refl e)
opposed Sell Buy e = absurd (both_ways false refl e)
opposed Sell Sell e = refl

one_or_none : (z : Bool) → cond {A = ℕ} z 1 0 ≤ 1
one_or_none true = omega arith
one_or_none false = omega arith

-- an order on the other side is not the customer's
contra_is : (r : Role) (b : Bool) (x y : Side) → (not (auctioned r) || (same_side x y && b)) ≡ true → cond {A = ℕ} (same_side x (other y)) 1 0 ≤ cond {A = ℕ} (in_book r) 1 0 + cond {A = ℕ} (not (in_book r || auctioned r)) 1 0
contra_is Book b x y h = omega (arith, one_or_none (same_side x (other y)))
contra_is Starter b x y h = omega (arith, one_or_none (same_side x (other y)))
contra_is Competing b x y h = omega (arith, one_or_none (same_side x (other y)))
contra_is Auctioned b x y h = subst (λ (z : Bool). cond {A = ℕ} z 1 0 ≤ 0 + 0) (sym (opposed x y (and_parts (same_side x y) b h).0)) (omega arith)

-- an order outside the book that is not the customer's is against it
outside_is : (r : Role) (s b : Bool) → (not (auctioned r) || (s && b)) ≡ true → not b ≡ true → cond {A = ℕ} (not (in_book r)) 1 0 ≤ cond {A = ℕ} (not (in_book r || auctioned r)) 1 0
outside_is Book s b h k = omega arith
outside_is Starter s b h k = omega arith
outside_is Competing s b h k = omega arith
outside_is Auctioned s b h k = absurd (both_ways (not b) (not_from_true b (and_parts s b h).1) k)

module _ (a : Auction) (os : List Order) (next : ℕ) (ok : Live os next) (held : held_well (Some a) os ≡ true) where
  pub auction_sized : a.size.count ≤ 9999
  auction_sized =
      let span = (and_parts (size_in_span a.size.count) (leb a.end.count 86393000) (held_parts (Some a) os held).0).0 in
      leb-true a.size.count 9999 (and_parts (leb 1 a.size.count) (leb a.size.count 9999) span).1

  pub contra_few : count_by (passes (Contra a.side)) os ≤ 160
  contra_few =
      let books = ok.books in
      let rivals = ok.rivals in
      let both : Order → ℕ = λ o. cond (booked o) 1 0 + cond (auction_contra o) 1 0 in
      omega (
        arith,
        sum_under (λ (o : Order). cond (passes (Contra a.side) o) 1 0) both os (All-weaker (λ (o : Order). auctioned_by a o ≡ true) (λ (o : Order). cond (passes (Contra a.side) o) 1 0 ≤ both o) (λ o h. contra_is o.role (eqb o.number a.customer) o.side a.side h) os (held_parts (Some a) os held).1),
        sum_two (λ (o : Order). cond (booked o) 1 0) (λ (o : Order). cond (auction_contra o) 1 0) both os (all_of _ os (λ o. refl)),
      )

  pub others_few : count_by (passes Outside) (without a.customer os) ≤ 32
  others_few =
      let rivals = ok.rivals in
      let q : Order → Bool = λ o. not (eqb o.number a.customer) in
      omega (
        arith,
        sum_under (λ (o : Order). cond (passes Outside o) 1 0) (λ (o : Order). cond (auction_contra o) 1 0) (filter q os)
            (all_both (λ (o : Order). auctioned_by a o ≡ true) (λ (o : Order). q o ≡ true) (λ (o : Order). cond (passes Outside o) 1 0 ≤ cond (auction_contra o) 1 0) (filter q os)
            (λ o h k. outside_is o.role (same_side o.side a.side) (eqb o.number a.customer) h k)
            (all_kept_by q (λ (o : Order). auctioned_by a o ≡ true) os (held_parts (Some a) os held).1)
            (kept_by_passes q os)),
        count_kept q auction_contra os,
      )

pub held_finished : (rule : Sharing) (os after : List Order) (a : Auction) → after ≡ finish_orders rule os a → held_well None after ≡ true
held_finished rule os after a e =
    subst (λ (xs : List Order). held_well None xs ≡ true) (sym e) (held_from None (finish_orders rule os a) refl (kept_by_passes (λ o. in_book o.role) (finish_left rule os a)) refl)
