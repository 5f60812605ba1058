use Rattle.std.proofs.Common.{◌≡◌, ◌++◌, length, map, filter, sym, ap, ◌∙◌, ap₂, rules, tests}
use Rattle.std.specs.List.{zip}
use Rattle.std.proofs.lemmas.List.{length-map, take-append-drop}
use Rattle.std.proofs.lemmas.Iterator.{YieldsList-from_slice, YieldsList-from_zip}
use Rattle.std.proofs.lemmas.Iterator.Consumers.{YieldsList-at, YieldsList-from_filter, YieldsList-end}
use Rattle.book.proofs.Trades.{row_of, rows_of, trades}
use Rattle.book.proofs.rows.write_trades.Goals as goal

-- the loop ran through the ranked orders that trade
all_yielded : (c : goal.In-None) → map (λ p. (p.0.now, p.1.now)) c.loop-r.yielded ≡ filter trades (zip c.args.ranked.now c.args.shares.now)
all_yielded c =
    let l = c.loop-r in
    let pairs = YieldsList-from_zip (YieldsList-at c.zip.ensures.first (YieldsList-from_slice c.args.ranked.now cc)) (YieldsList-from_slice {s = c.zip.result.b} c.args.shares.now cc) in
    (YieldsList-end
    (YieldsList-at c.into_iter-r-iterator.ensures.into_iter_gives
    (YieldsList-from_filter _ trades (YieldsList-at c.filter-r-items.ensures.source pairs) c.filter-r-items.ensures.closure (λ x r q k. search (rules, tests))))
    l.yielded l.r-iterator l.yielded_by c.next.result c.next.new.self c.in-None.is c.next.ensures.steps).0

pub returns-clause-counted : goal.returns-clause-counted
returns-clause-counted c =
    let a = c.args in
    let l = c.loop-r in
    let rows = ap (map (row_of a.side a.taker a.orders.now)) (all_yielded c) ∙ rows_of a.side a.taker a.orders.now a.ranked.now a.shares.now in
    l.invariant.2 ∙ sym (length-map l.yielded (λ p. (p.0.now, p.1.now))) ∙ sym (length-map (map (λ p. (p.0.now, p.1.now)) l.yielded) (row_of a.side a.taker a.orders.now)) ∙ ap length rows

pub returns-clause-written : goal.returns-clause-written
returns-clause-written c =
    let a = c.args in
    let l = c.loop-r in
    let rows = ap (map (row_of a.side a.taker a.orders.now)) (all_yielded c) ∙ rows_of a.side a.taker a.orders.now a.ranked.now a.shares.now in
    sym (take-append-drop l.count l.rows) ∙ ap₂ ◌++◌ (l.invariant.0 ∙ rows) l.invariant.1
