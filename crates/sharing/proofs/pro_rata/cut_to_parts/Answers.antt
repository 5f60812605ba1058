use Rattle.std.proofs.Common.{◌≡◌, ◌+◌, ◌-◌, get_or, sym, ◌∙◌, ap, arith}
use Rattle.sharing.specs.ProRata.{part, extra, parts}
use Rattle.sharing.specs.Asked.{counts}
use Rattle.sharing.proofs.Counts.{cut_more, counts_at}
use Rattle.sharing.proofs.pro_rata.cut_to_parts.Goals as goal

pub loop-share-preserved : goal.loop-share-preserved
loop-share-preserved c =
    let a = c.args.ratio.amount.count in
    let t = c.args.ratio.total.count in
    let i = c.loop-share.share-index in
    let left = c.loop-share.left.count in
    let next = c.sub_assign.new.self.count in
    let at = counts_at c.loop-share.shares i in
    let claim = get_or (counts c.loop-share.shares) i 0 in
    let p : c.part_of.result.count ≡ part a t claim = c.part_of.ensures ∙ ap (part a t) (sym at) in
    let e : c.extra_of-extra.result.count ≡ extra a t claim left = c.extra_of-extra.ensures.is ∙ ap (λ x. extra a t x left) (sym at) in
    let less : next ≡ left - extra a t claim left = c.sub_assign.ensures.after ∙ ap (λ x. left - x) e in
    let cut : c.add.result.count ≡ part a t claim + extra a t claim left = omega (arith, c.add.ensures) in
    cut_more c.loop-share.shares i c.add.result (λ xs. parts a t xs left) (λ xs. parts a t xs next) (omega arith) (λ rest. cc)
    ∙ c.loop-share.invariant
