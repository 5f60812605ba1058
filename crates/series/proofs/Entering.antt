-- The entry of an order, from what each step of the code leaves.
use Rattle.std.proofs.Common.{◌≡◌, ℕ, ◌+◌, ◌-◌, ◌<◌, ◌≤◌, Bool, true, false, cond, ◌&&◌, eqb, ltb, List, [], ◌∷◌, ◌++◌, map, length, take, drop, Some, None, sum_by, count_by, filter, Option, sym, refl, ap, ◌∙◌, subst, arith}
use Rattle.std.specs.List.{AllByRecursion}
use Rattle.std.proofs.ByRecursion.{All-map, All-weaker}
use Rattle.std.proofs.lemmas.List.{append_assoc, append-nil, length-append, take_at}
use Rattle.std.proofs.lemmas.Slice.{drop-append-drop}
use Rattle.std.proofs.lemmas.Bool.{and_from, cond_both, cond-false, eq-eqb, lt-ltb}
use Rattle.market.specs.Refusals.{first_hit}
use Rattle.market.specs.Words.{same_side, other, in_book, market_maker, price_of, limit_at, or_else, departure, standing}
use Rattle.market.specs.declared.auction.Auction.{Auction}
use Rattle.market.specs.declared.order.Account.{Account}
use Rattle.market.specs.declared.order.Order.{Order}
use Rattle.market.specs.declared.order.OrderKind.{OrderKind}
use Rattle.market.specs.declared.order.Role.{Role}
use Rattle.market.specs.declared.order.Role.TheVariants.{Book}
use Rattle.market.specs.declared.order.Side.{Side}
use Rattle.market.specs.declared.row.Row.{Row}
use Rattle.market.specs.declared.row.RowKind.TheVariants.{Returned}
use Rattle.market.specs.declared.units.Cents.{Cents}
use Rattle.market.specs.declared.units.Contracts.{Contracts}
use Rattle.market.specs.declared.units.Millis.{Millis}
use Rattle.rules.specs.Allocation.{after_trade, live}
use Rattle.rules.specs.Calls.{checks, enter, entered, new_order, remainder, resting}
use Rattle.rules.specs.Prices.{away_best, bound, reaches, within}
use Rattle.rules.specs.Runs.{accepted, nothing}
use Rattle.rules.specs.Series.{State}
use Rattle.rules.proofs.Matching.{count_kept}
use Rattle.rules.proofs.Tally.{all_of, sum_map, sum_under}
use Rattle.sharing.specs.Sharing.{Sharing}
use Rattle.order_table.specs.Changes.{admissible, role_room}
use Rattle.book.specs.Filters.{passes}
use Rattle.order_table.specs.Orders.{orders}
use Rattle.book.specs.Records.{booked}
use Rattle.order_table.specs.Records.{sound_record}
use Rattle.book.specs.declared.select.Filter.TheVariants.{Reachable}
use Rattle.order_table.specs.declared.table.Table.{Table}
use Rattle.order_table.proofs.Records.{sound_from}
use Rattle.book.specs.Taking.{left_of, trades_of}
use Rattle.matching.specs.Taking.{Took}
use Rattle.matching.specs.declared.take.Taken.{Taken}
use Rattle.matching.specs.declared.take.Taker.{Taker}
use Rattle.series.specs.Answers.{Answers}
use Rattle.series.specs.Entering.{reachable, entry_fill, entry_remainder, entry_rows, entry_orders, Enterable, Admitted}
use Rattle.series.specs.Held.{belongs, starting, starters_order, held_well}
use Rattle.series.proofs.Answering.{accepts_rows, changed, changed_is}
use Rattle.series.proofs.Holding.{held_parts, held_from, held_kept, held_pushed}
use Rattle.series.proofs.Starters.{starter_parts, not_booked, stands_kept, stands_mapped}

-- a price, or another where there is none
-- rows written behind others
pub rows_behind : (first second old between new : List Row) (k count : ℕ) → k ≡ length first → count ≡ k + length second → between ≡ first ++ drop k old → new ≡ take k between ++ (second ++ drop count between) → new ≡ (first ++ second) ++ drop count old
rows_behind first second old between new k count long counted was is =
    is
    ∙ ap (λ (rs : List Row). take k rs ++ (second ++ drop count rs)) was
    ∙ ap (λ (rs : List Row). rs ++ (second ++ drop count (first ++ drop k old))) (take_at first (drop k old) k (sym long))
    ∙ ap (λ (rs : List Row). first ++ (second ++ rs)) (drop-append-drop k old first count (omega arith) (sym long))
    ∙ sym (append_assoc first second (drop count old))

-- only orders of the book can be reached
pub reachable_few : (s : Side) (reach : Cents) (os : List Order) → count_by (passes (Reachable s reach)) os ≤ count_by booked os
reachable_few s reach os =
    sum_under (λ (o : Order). cond (passes (Reachable s reach) o) 1 0) (λ (o : Order). cond (booked o) 1 0) os
    (all_of _ os (λ o. less (same_side o.side (other s)) (in_book o.role) (within s reach.value (price_of o.kind))))
  where
    less : (x y z : Bool) → cond {A = ℕ} (x && y && z) 1 0 ≤ cond {A = ℕ} y 1 0
    less true true true = omega arith
    less true true false = omega arith
    less true false z = omega arith
    less false y z = omega arith

-- trades put nothing into the book
pub booked_left : (p : Order → Bool) (f : Order → ℕ) (os : List Order) → count_by booked (live (map (λ o. cond (p o) (after_trade (f o) o) o) os)) ≤ count_by booked os
booked_left p f os =
    let g : Order → Order = λ o. cond (p o) (after_trade (f o) o) o in
    omega (
      arith,
      count_kept (λ o. ltb 0 (standing o)) booked (map g os),
      sum_map (λ (o : Order). cond (booked o) 1 0) g os,
      sum_under (λ (o : Order). cond (booked (g o)) 1 0) (λ (o : Order). cond (booked o) 1 0) os (all_of _ os (λ o. cond_both (p o) (after_trade (f o) o) o (λ (x : Order). cond {A = ℕ} (booked x) 1 0 ≤ cond {A = ℕ} (booked o) 1 0) (λ _. omega arith) (λ _. omega arith))),
    )

-- a remainder is no order, or one that rests at its limit or at the away best
pub remainder_cases : (Q : List Order → Type 0) (o : Order) (rest : ℕ) (a : Account) (reached : Bool) (far end : ℕ) → Q [] → Q (resting o rest o.kind None ∷ []) →
    Q (resting o rest (limit_at far) (Some (record { count = end })) ∷ []) → Q (remainder o rest a reached far end).0
remainder_cases Q o rest a reached far end none stands exposed = go (eqb rest 0) reached (market_maker a)
  where
    go : (x y z : Bool) → Q (cond {A = List Order × List Row} x ([], []) (cond y (cond z ([], departure Returned o.number 0 rest ∷ []) (resting o rest (limit_at far) (Some (record { count = end })) ∷ [], [])) (resting o rest o.kind None ∷ [], []))).0
    go true y z = none
    go false true true = none
    go false true false = exposed
    go false false z = stands

-- a remainder that stands can be added to the table
module _ (o : Order) (before : Table) (order : Enterable o before) (os : List Order) (next : ℕ) (same : next ≡ before.records.next) (room : count_by booked os ≤ count_by booked (orders before)) where
  fits_one : (rest : ℕ) (k : OrderKind) (e : Option Millis) → rest ≤ o.size.count → price_of k ≤ 99999 → admissible (resting o rest k e) os next ≡ true
  fits_one rest k e le price =
      let gone = order.gone in
      let enough = order.room in
      and_from (eqb o.number next && sound_record (resting o rest k e)) (role_room o.role os)
      (and_from (eqb o.number next) (sound_record (resting o rest k e)) (eq-eqb o.number next (order.number ∙ sym same)) (sound_from (resting o rest k e) (record { sum = omega arith; size = order.size; price = price })))
      (subst (λ (r : Role). role_room r os ≡ true) (sym order.role) (lt-ltb (count_by booked os) 128 (omega arith)))

  pub remainder_fits : (stand : List Order) (rest : ℕ) (a : Account) (reached : Bool) (far end : ℕ) → stand ≡ (remainder o rest a reached far end).0 → rest ≤ o.size.count → far ≤ 99999 →
      AllByRecursion (λ x. admissible x os next ≡ true) stand
  remainder_fits stand rest a reached far end is le small =
      subst (AllByRecursion (λ (x : Order). admissible x os next ≡ true)) (sym is)
      (remainder_cases (AllByRecursion (λ (x : Order). admissible x os next ≡ true)) o rest a reached far end tt
      (fits_one rest o.kind None le order.price, tt)
      (fits_one rest (limit_at far) (Some (record { count = end })) le small, tt))

abbrev pub taker_of : Order → Taker
taker_of o = record { side = o.side; number = o.number; taking = record { amount = o.size; marked = None; guarantee = record { count = 0 } } }

module _ (rule : Sharing) (o : Order) (best : Option ℕ) (end : ℕ) (before middle : Table) (old between : List Row) (taken : Taken) where
  abbrev reached_by : ℕ → Order → Bool
  reached_by v x = same_side x.side (other o.side) && in_book x.role && within o.side v (price_of x.kind)

  -- what is taken within the bound
  pub took_within : (reach limit : Cents) → limit.value ≡ price_of o.kind → reach.value ≡ bound o.side limit.value best → Took rule (passes (Reachable o.side reach)) (taker_of o) before middle old between taken →
      Took rule (reachable rule (orders before) o best end) (taker_of o) before middle old between taken
  took_within reach limit e f t = subst (λ (v : ℕ). Took rule (reached_by v) (taker_of o) before middle old between taken) (f ∙ ap (λ (p : ℕ). bound o.side p best) e) t

  module _ (took : Took rule (reachable rule (orders before) o best end) (taker_of o) before middle old between taken) where
    -- the remainder that the code finds
    remainder_is : (left : ℕ) → left ≡ o.size.count - taken.traded.count → remainder o left o.account (reaches o.side (price_of o.kind) best) (or_else best 0) end ≡ entry_remainder rule (orders before) o best end
    remainder_is left e = ap (λ (n : ℕ). remainder o n o.account (reaches o.side (price_of o.kind) best) (or_else best 0) end) (e ∙ ap (λ (n : ℕ). o.size.count - n) took.traded)

    pub admitted : (after : Table) (new : List Row) (stand : List Order) (back : List Row) (count left : ℕ) → left ≡ o.size.count - taken.traded.count →
        stand ≡ (remainder o left o.account (reaches o.side (price_of o.kind) best) (or_else best 0) end).0 → back ≡ (remainder o left o.account (reaches o.side (price_of o.kind) best) (or_else best 0) end).1 →
        orders after ≡ orders middle ++ stand → after.records.next ≡ middle.records.next + 1 → count ≡ taken.rows + length back → new ≡ take taken.rows between ++ (back ++ drop count between) →
        Admitted rule o best end before after old new count
    admitted after new stand back count left left_is stand-is back_is records numbers counted written =
        let whole = remainder_is left left_is in
        let e : stand ≡ (entry_remainder rule (orders before) o best end).0 = stand-is ∙ ap (λ (x : List Order × List Row). x.0) whole in
        let f : back ≡ (entry_remainder rule (orders before) o best end).1 = back_is ∙ ap (λ (x : List Order × List Row). x.1) whole in
        let rest = entry_remainder rule (orders before) o best end in
        let first = trades_of rule (orders before) (reachable rule (orders before) o best end) (taker_of o) in
        record {
          counted = omega (arith, counted, took.counted, ap length f, length-append first rest.1);
          written = rows_behind first back old between new taken.rows count took.counted counted took.written written ∙ ap (λ (rs : List Row). (first ++ rs) ++ drop count old) f;
          left = records ∙ ap (λ (xs : List Order). xs ++ stand) took.left ∙ ap (λ (xs : List Order). left_of rule (orders before) (reachable rule (orders before) o best end) (taker_of o) ++ xs) e;
          numbers = numbers ∙ ap (λ (n : ℕ). n + 1) took.numbers;
        }

-- ---- what a series holds then

-- a taker in the book does not meet the starter
unmet : (x : Bool) (r : Role) (y : Bool) → starting r ≡ true → (x && in_book r && y) ≡ false
unmet false r y h = refl
unmet true r y h = ap (λ (b : Bool). b && y) (not_booked r h)

belongs_after : (au : Option Auction) (n : ℕ) (o : Order) → belongs au (after_trade n o) ≡ belongs au o
belongs_after None n o = refl
belongs_after (Some a) n o = refl

module _ (au : Option Auction) (p : Order → Bool) (f : Order → ℕ) (out : (x : Order) → starting x.role ≡ true → p x ≡ false) where
  abbrev traded : Order → Order
  traded o = cond (p o) (after_trade (f o) o) o

  still_belongs : (o : Order) → belongs au o ≡ true → belongs au (traded o) ≡ true
  still_belongs o k = cond_both (p o) (after_trade (f o) o) o (λ (x : Order). belongs au x ≡ true) (λ _. belongs_after au (f o) o ∙ k) (λ _. k)

  still_stands : (a : Auction) (x : Order) → starters_order a x ≡ true → starters_order a (traded x) ≡ true
  still_stands a x k = subst (λ (y : Order). starters_order a y ≡ true) (sym (cond-false (p x) (after_trade (f x) x) x (out x (starter_parts a x k).1))) k

  -- trades that do not meet the starter
  held_traded : (os : List Order) → held_well au os ≡ true → held_well au (live (map traded os)) ≡ true
  held_traded os h =
      let b = held_parts au os h in
      let all = All-map (λ (o : Order). belongs au o ≡ true) traded os (All-weaker (λ (o : Order). belongs au o ≡ true) (λ (o : Order). belongs au (traded o) ≡ true) still_belongs os b.1) in
      let m = stands_mapped au traded os (λ a. all_of (λ (x : Order). starters_order a x ≡ true → starters_order a (traded x) ≡ true) os (still_stands a)) b.2 in
      held_kept au (map traded os) (λ o. ltb 0 (standing o)) (held_from au (map traded os) b.0 all m)
      (stands_kept au (λ o. ltb 0 (standing o)) (map traded os) (λ a. all_of (λ (x : Order). starters_order a x ≡ true → ltb 0 (standing x) ≡ true) (map traded os) (λ x k. (starter_parts a x k).3)) m)

pub held_entered : (au : Option Auction) (rule : Sharing) (os after : List Order) (o : Order) (best : Option ℕ) (end number m : ℕ) (s : Side) (a : Account) (p : Cents) (n : Contracts) → o ≡ new_order number m s a (limit_at p.value) n.count Book → held_well au os ≡ true → after ≡ entry_orders rule os o best end → held_well au after ≡ true
held_entered au rule os after o best end number m s a price n new h is =
    let role = ap (λ (x : Order). x.role) new in
    let p = reachable rule os o best end in
    let f = entry_fill rule os o best end in
    let rest : ℕ = o.size.count - sum_by f (filter p os) in
    let kept : List Order = live (map (λ x. cond (p x) (after_trade (f x) x) x) os) in
    let k = held_traded au p f (λ x out. unmet (same_side x.side (other o.side)) x.role (within o.side (bound o.side (price_of o.kind) best) (price_of x.kind)) out) os h in
    subst (λ (xs : List Order). held_well au xs ≡ true) (sym is)
    (remainder_cases (λ (xs : List Order). held_well au (kept ++ xs) ≡ true) o rest o.account (reaches o.side (price_of o.kind) best) (or_else best 0) end
    (subst (λ (xs : List Order). held_well au xs ≡ true) (sym (append-nil kept)) k)
    (held_pushed au kept (resting o rest o.kind None) k role)
    (held_pushed au kept (resting o rest (limit_at (or_else best 0)) (Some (record { count = end }))) k role))

-- ---- the call

pub enterable : (o : Order) (table : Table) (number m : ℕ) (s : Side) (a : Account) (p : Cents) (n : Contracts) → o ≡ new_order number m s a (limit_at p.value) n.count Book → number ≡ table.records.next → table.records.next ≤ 65535 →
    p.value ≤ 99999 → n.count ≤ 9999 → count_by booked (orders table) < 128 → Enterable o table
enterable o table number m s a p n is next numbers price size room = record {
  number = ap (λ (x : Order). x.number) is ∙ next;
  numbers = numbers;
  size = omega (arith, ap (λ (x : Order). x.size.count) is, size);
  gone = ap (λ (x : Order). x.gone.count) is;
  role = ap (λ (x : Order). x.role) is;
  price = omega (arith, ap (λ (x : Order). price_of x.kind) is, price);
  room = room;
}

pub enters : (rule : Sharing) (st : State) (pass : ℕ) (t : Millis) (m : ℕ) (s : Side) (a : Account) (p : Cents) (n : Contracts) (rows new : List Row) (before after : Table) (o : Order) (best : Option ℕ) (number count : ℕ) →
    None ≡ first_hit (checks st (enter pass t m s a p n rows)) → orders before ≡ st.orders → before.records.next ≡ st.next → number ≡ st.next → o ≡ new_order number m s a (limit_at p.value) n.count Book →
    best ≡ away_best s st.away → Admitted rule o best (t.count + 3000) before after rows new count →
    Answers rule st (changed st t.count after.records.next (orders after) st.auction) new (accepted count (number ∷ []) None) nothing (enter pass t m s a p n rows)
enters rule st pass t m s a p n rows new before after o best number count e lists nexts numbers is bests k =
    let end : ℕ = t.count + 3000 in
    let order_is : o ≡ new_order st.next m s a (limit_at p.value) n.count Book = is ∙ ap (λ (x : ℕ). new_order x m s a (limit_at p.value) n.count Book) numbers in
    let rows_are : entry_rows rule (orders before) o best end ≡ (entered rule st t.count m s a p.value n.count).rows = λ i. entry_rows rule (lists i) (order_is i) (bests i) end in
    let left-are : entry_orders rule (orders before) o best end ≡ (entered rule st t.count m s a p.value n.count).state.orders = λ i. entry_orders rule (lists i) (order_is i) (bests i) end in
    subst (λ (x : ℕ). Answers rule st (changed st t.count after.records.next (orders after) st.auction) new (accepted count (x ∷ []) None) nothing (enter pass t m s a p n rows)) (sym numbers)
    (accepts_rows rule st (enter pass t m s a p n rows) (changed st t.count after.records.next (orders after) st.auction) new count nothing e
    (changed_is st t.count 1 after.records.next (orders after) (entered rule st t.count m s a p.value n.count).state.orders st.auction (k.numbers ∙ ap (λ (x : ℕ). x + 1) nexts) (k.left ∙ left-are))
    (k.counted ∙ ap length rows_are)
    (k.written ∙ ap (λ (rs : List Row). rs ++ drop count rows) rows_are)
    refl)
