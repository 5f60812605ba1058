use Rattle.std.proofs.Common.{◌≡◌, ◌+◌, ◌-◌, ◌^◌, ◌<◌, ◌≤◌, eqb, map, length, take, drop, sum, ap, ◌∙◌, arith}
use Rattle.std.proofs.lemmas.List.{length-map, length-take, length-drop, take_all}
use Rattle.std.specs.List.{prefix_len}
use Rattle.market.specs.Words.{standing}
use Rattle.rules.specs.Allocation.{mark_among}
use Rattle.sharing.specs.Asked.{counts}
use Rattle.book.specs.Claims.{claimants}
use Rattle.book.specs.Places.{at, TrueRank}
use Rattle.book.specs.Ranking.{priority_at_place}
use Rattle.book.proofs.Dividing.{all_part, claims_long, claims_sum, few_contracts, level_found, part_claimed, part_held, part_orders}
use Rattle.book.proofs.Levels.{Level, Allocating, allocating_more}
use borrow.Rule.Slice.PartMut.{put_mid}
use Rattle.book.proofs.allocation.share_levels.Given as given
use Rattle.book.proofs.allocation.share_levels.Goals as goal

pub invariant_of-level : goal.invariant_of-level
invariant_of-level g c =
    let a = c.args.all.now in
    let from = c.loop-start.start in
    let n = from + c.level_len.result - from in
    let long = length-take n (drop from a.ranked.now) in
    let left = length-drop from a.ranked.now in
    let few = a.few in
    let amount = a.amount in
    record {
      ranks = all_part (TrueRank a.orders.now) from n a.ranked.now a.ranks;
      claimed = part_claimed a.orders.now a.ranked.now a.claims.now a.claimed from n;
      few = omega arith;
      small = all_part (λ x. x.count ≤ 9999) from n a.claims.now a.small;
      amount = omega (arith, c.saturating_sub.ensures);
      guarantee = a.guarantee;
    }

-- what a level claims fits
level_fits : (g : given.Over) (c : goal.After-struct_known-1 g) →
    sum (counts (take (c.loop-start.start + c.level_len.result - c.loop-start.start) (drop c.loop-start.start c.args.all.now.claims.now))) < 2 ^ 32
level_fits g c =
    let a = c.args.all.now in
    let from = c.loop-start.start in
    let n = from + c.level_len.result - from in
    let few = a.few in
    omega (arith, claims_sum _ (omega (arith, length-take n (drop from a.claims.now), length-drop from a.claims.now, claims_long a.orders.now a.ranked.now a.claims.now a.claimed)) (all_part (λ x. x.count ≤ 9999) from n a.claims.now a.small))

-- one level more
level_more : (g : given.Over) (c : goal.After-struct_known-1 g) →
    Allocating (g.R.SharingRule.shared c.args.rule.now) (claimants c.args.all.now) c.args.all.now.taking.amount.count c.args.all.now.taking.marked c.args.all.now.taking.guarantee.count
    (put_mid c.loop-start.start (c.loop-start.start + c.level_len.result - c.loop-start.start) c.loop-start.shares c.share.new.shares) (c.loop-start.start + c.level_len.result) (c.loop-start.ahead + c.sum_of-ahead.result.count)
level_more g c =
    let a = c.args.all.now in
    let l = c.loop-start in
    let os = a.orders.now in
    let rs = a.ranked.now in
    let t = a.taking in
    let to = l.start + c.level_len.result in
    let n = to - l.start in
    let rule = g.R.SharingRule.shared c.args.rule.now in
    let es = c.level_len.ensures in
    let rest : take (length rs - l.start) (drop l.start rs) ≡ drop l.start rs = take_all (length rs - l.start) (drop l.start rs) (omega (arith, length-drop l.start rs)) in
    let is = es.is ∙ ap (λ xs. prefix_len (λ r. eqb r.priority (priority_at_place xs 0)) xs) rest in
    let within = es.within in
    let left = length-drop l.start rs in
    let same = part_orders os rs a.claims.now a.claimed l.start n in
    let claimed = part_claimed os rs a.claims.now a.claimed l.start n ∙ ap (map standing) same in
    let lev : Level (claimants a) l.start to = level_found os rs a.ranks l.start c.loop-start-test.true c.level_len.result is es.some (omega (arith, ap length rest)) (l.invariant.first (omega (arith, length-map rs (at os), c.loop-start-test.true))) in
    allocating_more rule (claimants a) t.amount.count t.marked t.guarantee.count c.requires.sorted c.requires.rising l.start to lev l.shares c.share.new.shares l.ahead c.sum_of-ahead.result.count l.invariant
    (omega (arith, c.share.auto.shares, length-take n (drop l.start l.shares), length-drop l.start l.shares, l.auto.shares, c.requires.even))
    (c.share.ensures ∙ (λ i. rule (claimed i) (c.saturating_sub.ensures i) (mark_among t.marked (same i)) t.guarantee.count))
    (c.sum_of-ahead.ensures.exact (level_fits g c) ∙ part_held os rs a.claims.now a.claimed l.start n)

pub overflow_add-ahead : goal.overflow_add-ahead
overflow_add-ahead g c =
    let a = c.args.all.now in
    let sum = (level_more g c).sum in
    let most = few_contracts a.orders.now a.ranked.now a.claims.now a.claimed (c.loop-start.start + c.level_len.result) a.few a.small in
    record { fits = omega arith }

pub loop-start-preserved : goal.loop-start-preserved
loop-start-preserved g c = level_more g c
