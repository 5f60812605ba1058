use Rattle.std.proofs.Common.{◌≡◌, ◌-◌, ◌++◌, length, take, drop, ap, ◌∙◌, arith, rules}
use borrow.Rule.Slice.PartMut.{put_mid}
use Rattle.std.proofs.lemmas.List.{append-nil, drop_all, drop_at, length-drop, length-take-le}
use Rattle.sharing.specs.Asked.{counts}
use Rattle.book.specs.Filters.{passes}
use Rattle.book.proofs.Ranks.{all_inside, all_true, fills, long_as_kept, rising_levels, small_claims, sorted}
use Rattle.book.proofs.Takings.{rest_is}
use Rattle.book.proofs.allocation.allocate.Goals as goal

pub claim-requires-clause-places : goal.claim-requires-clause-places
claim-requires-clause-places g c =
    let ranks = rest_is c.rank-start.new.out c.rank-start.result (length c.args.orders.now) (omega (arith, c.requires.ranked_fit, c.rank-start.auto.out)) ∙ c.rank-start.ensures.ranked in
    all_inside (passes c.args.filter) c.args.orders.now _ ranks

pub invariant_of-claimed : goal.invariant_of-claimed
invariant_of-claimed g c =
    let p = passes c.args.filter in
    let os = c.args.orders.now in
    let ranks = rest_is c.rank-start.new.out c.rank-start.result (length c.args.orders.now) (omega (arith, c.requires.ranked_fit, c.rank-start.auto.out)) ∙ c.rank-start.ensures.ranked in
    record {
      ranks = all_true p os _ ranks;
      claimed = c.claim.ensures;
      few = omega (arith, long_as_kept p os _ ranks, c.requires.few);
      small = small_claims p os _ ranks c.claim.new.claims c.claim.ensures c.requires.small;
      amount = c.requires.amounts;
      guarantee = c.requires.guarantees;
    }

pub share_levels-requires : goal.share_levels-requires
share_levels-requires g c =
    let p = passes c.args.filter in
    let os = c.args.orders.now in
    let ranks = rest_is c.rank-start.new.out c.rank-start.result (length c.args.orders.now) (omega (arith, c.requires.ranked_fit, c.rank-start.auto.out)) ∙ c.rank-start.ensures.ranked in
    record { sorted = sorted p os _ ranks; rising = rising_levels p os _ ranks c.requires.rising; even = search rules }

pub returns-clause-shares : goal.returns-clause-shares
returns-clause-shares g c =
    let os = c.args.orders.now in
    let t = c.args.taking in
    let start = c.rank-start.result in
    let n = length os - start in
    let ranks = rest_is c.rank-start.new.out c.rank-start.result (length c.args.orders.now) (omega (arith, c.requires.ranked_fit, c.rank-start.auto.out)) ∙ c.rank-start.ensures.ranked in
    let old = c.args.shares.now in
    let new = c.share_levels.new.shares in
    let within = c.rank-start.ensures.within in
    let fit = c.requires.shares_fit in
    let written : drop start (put_mid start n old new) ≡ new =
    drop_at (take start old) (new ++ drop n (drop start old)) start (length-take-le start old (omega arith))
    ∙ ap (λ zs. new ++ zs) (drop_all n (drop start old) (omega (arith, length-drop start old)))
    ∙ append-nil new in
    ap counts written
    ∙ c.share_levels.ensures
    ∙ fills (passes c.args.filter) os _ ranks (g.R.SharingRule.shared c.args.rule.now) t.amount.count t.marked t.guarantee.count
