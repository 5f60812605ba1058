use Rattle.std.proofs.Common.{◌≡◌, ℕ, not, ◌&&◌, eqb, List, length, Ok, Err, Option, Result, refl, ap, ◌∙◌, arith}
use Rattle.std.specs.Result.{IsOk}
use Rattle.std.proofs.lemmas.Bool.{eq-eqb, not_from_true, both_ways, and_from}
use Rattle.market.proofs.Tables.{hit}
use Rattle.market.specs.Refusals.{refusal_number}
use Rattle.market.specs.declared.refusal.Refusal.{Refusal}
use Rattle.market.specs.declared.units.Contracts.{Contracts}
use Rattle.sharing.specs.Sharing.{Sharing, in_bounds}
use Rattle.sharing.specs.Asked.{Answered, counts}
use Rattle.sharing.proofs.Bounds.{Bounded, asked, in_bounds_from}
use Rattle.sharing.proofs.Counts.{length_counts}
use Rattle.book.proofs.Dividing.{claims_long, claims_small}
use Rattle.book.proofs.allocation.claimed.Claimed.share.Goals as goal

-- a rule that is asked within the bounds, with one place for each share, accepts
accepts :
    (rule : Sharing) (claims : List ℕ) (amount : ℕ) (mark : Option ℕ) (guarantee : ℕ) (before after : List Contracts) (r : Result (Unit {0}) Refusal) →
    Answered rule claims amount mark guarantee before after r → Bounded claims amount guarantee → length before ≡ length claims → IsOk r
accepts rule claims amount mark guarantee before after (Ok u) a b e = refl
accepts rule claims amount mark guarantee before after (Err x) a b e =
    let fits = in_bounds claims amount guarantee && eqb (length before) (length claims) in
    absurd (both_ways (not fits) (not_from_true fits (and_from _ _ (in_bounds_from claims amount guarantee b) (eq-eqb (length before) (length claims) e))) (hit 7 (not fits) (refusal_number x) a.answer_is))

pub unwrap-requires : goal.unwrap-requires
unwrap-requires g c =
    let s = c.args.self.now in
    let t = s.taking in
    let rule = g.R.SharingRule.shared c.args.rule.now in
    let long = length_counts s.claims.now ∙ claims_long s.orders.now s.ranked.now s.claims.now s.claimed in
    accepts rule (counts s.claims.now) t.amount.count c.mark-mark.result t.guarantee.count c.args.shares.now c.share.new.shares c.share.result c.share.ensures
    (record { few = omega (arith, long, s.few); small = claims_small s.claims.now s.small; amounts = s.amount; guarantees = s.guarantee }) (omega (arith, c.requires, long))

pub returns : goal.returns
returns g c =
    let s = c.args.self.now in
    let t = s.taking in
    let rule = g.R.SharingRule.shared c.args.rule.now in
    let long = length_counts s.claims.now ∙ claims_long s.orders.now s.ranked.now s.claims.now s.claimed in
    asked rule (counts s.claims.now) t.amount.count c.mark-mark.result t.guarantee.count c.args.shares.now c.share.new.shares c.share.result c.share.ensures
    (record { few = omega (arith, long, s.few); small = claims_small s.claims.now s.small; amounts = s.amount; guarantees = s.guarantee }) (omega (arith, c.requires, long))
    ∙ ap (λ m. rule (counts s.claims.now) t.amount.count m t.guarantee.count) c.mark-mark.ensures
