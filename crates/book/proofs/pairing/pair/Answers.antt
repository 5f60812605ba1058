use Rattle.std.proofs.Common.{◌≡◌, ◌∷◌, length, arith, rules}
use Rattle.std.proofs.lemmas.List.{drop_all}
use Rattle.book.proofs.PairingLoop.{rows_fit, going_none, going_outside, going_served, going_fits, going_room, going_on, going_sold}
use Rattle.book.proofs.pairing.pair.Goals as goal

pub pairing-init : goal.pairing-init
pairing-init c = going_none c.args.price.value c.args.rows.now c.args.buyers.now c.args.sellers.now

pub pairing-preserved : goal.pairing-preserved
pairing-preserved c = going_outside c.pairing.invariant c.loop-unpaired.invariant.1 (going_served (omega (arith, c.loop-unpaired-test.false)) c.loop-unpaired.invariant.0)

pub bounds-rows-count : goal.bounds-rows-count
bounds-rows-count c =
    let g = c.loop-unpaired.invariant.0 in
    let s = c.in-Some.seller.now in
    let later = c.in-Some.later.now in
    let left : c.loop-unpaired.rest.now ≡ s ∷ later = search rules in
    going_room s later left g c.min-n.result.count (omega (arith, c.min-n.ensures, c.sub.ensures))
    (omega (arith, going_fits s later left g, c.min-n.ensures, c.sub.ensures, c.if-sold-seller.false, c.loop-unpaired-test.true))
    (rows_fit c.args.price.value c.args.buyers.now c.args.sellers.now (length c.pairing.rows) (omega (arith, c.pairing.invariant.writing.long, c.requires)))

pub loop-unpaired-preserved : goal.loop-unpaired-preserved
loop-unpaired-preserved c =
    let g = c.loop-unpaired.invariant.0 in
    let s = c.in-Some.seller.now in
    let later = c.in-Some.later.now in
    let left : c.loop-unpaired.rest.now ≡ s ∷ later = search rules in (
      going_on s later left g c.min-n.result.count (omega (arith, c.min-n.ensures, c.sub.ensures))
          (omega (arith, going_fits s later left g, c.min-n.ensures, c.sub.ensures, c.if-sold-seller.false, c.loop-unpaired-test.true))
          (rows_fit c.args.price.value c.args.buyers.now c.args.sellers.now (length c.pairing.rows) (omega (arith, c.pairing.invariant.writing.long, c.requires)))
          c.sub_assign.new.self.count c.add-sold.result.count c.trade.result c.sub_assign.ensures.after c.add-sold.ensures c.trade.ensures,
      omega (arith, c.loop-unpaired.invariant.1),
    )

pub returns-in_default-clause-written : goal.returns-in_default-clause-written
returns-in_default-clause-written c =
    let none : length c.loop-unpaired.rest.now ≡ 0 = search rules in
    (going_sold (going_outside c.pairing.invariant c.loop-unpaired.invariant.1 c.loop-unpaired.invariant.0) (drop_all 0 c.loop-unpaired.rest.now (omega arith))).0
