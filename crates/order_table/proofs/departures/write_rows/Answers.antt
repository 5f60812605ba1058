use Rattle.std.proofs.Common.{◌≡◌, ℕ, ◌+◌, ◌<◌, List, [], ◌∷◌, ◌++◌, map, length, get_or, drop, filter, sym, ap, ◌∙◌, arith, rules, tests}
use lib.ListN.{length-map}
use Rattle.std.proofs.lemmas.Iterator.{YieldsList-from_slice}
use Rattle.std.proofs.lemmas.Iterator.Consumers.{YieldsList-at, YieldsList-from_enumerate, YieldsList-from_filter}
use Rattle.std.proofs.lemmas.List.{at_drop_more, drop_all, get_or_default, length_push}
use Rattle.std.proofs.lemmas.List.FromFn.{get_or-enumerate_from, length-enumerate_from}
use Rattle.std.proofs.lemmas.List.Sums.{length-filter}
use Rattle.market.specs.declared.order.Order.{Order}
use Rattle.market.specs.declared.row.Row.{Row}
use Rattle.book.specs.Filters.{passes}
use Rattle.book.specs.Places.{no_order}
use Rattle.order_table.specs.Departures.{departure_row}
use Rattle.order_table.proofs.Turns.{turn_of, end_of}
use Rattle.order_table.proofs.Writing.{writing_same, writing_room, writing_one, writing_all}
use Rattle.order_table.proofs.departures.write_rows.Goals as goal

pub loop-i-preserved : goal.loop-i-preserved
loop-i-preserved c =
    let a = c.args in
    let l = c.loop-i in
    let i = c.in-Some.i in
    let o = c.in-Some.order.now in
    let n : ℕ = length l.yielded in
    let row = departure_row a.departure in
    let ks : List Order = filter (passes a.filter) a.orders.now in
    let t = turn_of l.yielded _ l.yielded_by _ _ (i, c.in-Some.order) c.in-Some.is c.next.ensures.steps
    (YieldsList-at c.into_iter-i-iterator.ensures.into_iter_gives (YieldsList-from_enumerate (YieldsList-at c.enumerate-i-items.ensures.source (YieldsList-from_filter _ (passes a.filter) (YieldsList-from_slice a.orders.now cc) c.filter.ensures.closure (λ x r q k. search (rules, tests)))) (cc))) in
    let lt : n < length ks = omega (arith, t.0, length-enumerate_from 0 ks) in
    let e = t.1 ∙ get_or-enumerate_from 0 ks n (i, o) lt in
    let place : i ≡ n = omega (arith, ap (λ (x : ℕ × Order). x.0) e) in
    let order : o ≡ get_or ks n no_order = ap (λ (x : ℕ × Order). x.1) e ∙ get_or_default ks n o no_order lt in
    let next = map row (drop (n + 1) ks) in
    let first : map row (drop n ks) ≡ c.row.result ∷ next = at_drop_more (map row) ks n no_order lt ∙ ap (λ (r : Row). r ∷ next) (sym (c.row.ensures ∙ ap row order)) in
    let one = writing_same (map row ks) a.rows.now l.rows n (map row (drop n ks)) (c.row.result ∷ next) first l.invariant in
    let room = writing_room (map row ks) a.rows.now l.rows n c.row.result next one (omega (arith, length-map ks row, length-filter (passes a.filter) a.orders.now, c.requires)) in
    rw (length_push l.yielded (i, c.in-Some.order), place)
    (writing_one (map row ks) a.rows.now l.rows n c.row.result next one room)

pub returns : goal.returns
returns c =
    let a = c.args in
    let l = c.loop-i in
    let n : ℕ = length l.yielded in
    let row = departure_row a.departure in
    let ks : List Order = filter (passes a.filter) a.orders.now in
    let t = end_of l.yielded _ l.yielded_by _ _ c.in-None.is c.next.ensures.steps
    (YieldsList-at c.into_iter-i-iterator.ensures.into_iter_gives (YieldsList-from_enumerate (YieldsList-at c.enumerate-i-items.ensures.source (YieldsList-from_filter _ (passes a.filter) (YieldsList-from_slice a.orders.now cc) c.filter.ensures.closure (λ x r q k. search (rules, tests)))) (cc))) in
    let long : n ≡ length ks = omega (arith, t.1, length-enumerate_from 0 ks) in
    let done = writing_all (map row ks) a.rows.now l.rows n
    (writing_same (map row ks) a.rows.now l.rows n (map row (drop n ks)) [] (ap (map row) (drop_all n ks (omega (arith, long)))) l.invariant) in
    done.1 ∙ ap (λ (k : ℕ). map row ks ++ drop k a.rows.now) (long ∙ length-filter (passes a.filter) a.orders.now)
