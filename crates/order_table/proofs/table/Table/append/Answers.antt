use Rattle.std.proofs.Common.{◌≡◌, ◌<◌, true, [], ◌∷◌, sym, subst, arith}
use Rattle.std.specs.List.{AllByRecursion}
use Rattle.std.proofs.ByRecursion.{All-append}
use Rattle.std.proofs.lemmas.Bool.{and_parts}
use Rattle.market.specs.declared.order.Order.{Order}
use Rattle.book.specs.Records.{balanced}
use Rattle.order_table.specs.Orders.{orders, next_number}
use Rattle.order_table.specs.Records.{priced}
use Rattle.order_table.proofs.Records.{all_priced, live_push, table_live, table_priced}
use Rattle.order_table.proofs.table.Table.append.Goals as goal

pub append-requires-clause-live : goal.append-requires-clause-live
append-requires-clause-live c =
    let t = c.args.self.now in
    let o = c.args.order in
    let e : o.number ≡ next_number t = omega arith in
    let lt : next_number t < 65536 = omega arith in
    live_push (orders t) (next_number t) (table_live t) o e lt (and_parts (balanced o) (priced o) (sym c.if-not-is_sound.ensures)).0 (sym c.if-not-has_room.ensures)

pub invariant_of-self : goal.invariant_of-self
invariant_of-self c =
    let t = c.args.self.now in
    let o = c.args.order in
    let fine : priced o ≡ true = (and_parts (balanced o) (priced o) (sym c.if-not-is_sound.ensures)).1 in
    record { prices = all_priced c.append.new.self (subst (AllByRecursion (λ (x : Order). priced x ≡ true)) (sym c.append.ensures.records) (All-append (λ (x : Order). priced x ≡ true) (orders t) (o ∷ []) (table_priced t) (fine, tt))) }
