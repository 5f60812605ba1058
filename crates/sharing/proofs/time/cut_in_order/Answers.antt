use Rattle.std.proofs.Common.{◌≡◌, ◌+◌, ◌-◌, min, get_or, drop, sum, ap, ◌∙◌, arith}
use Rattle.std.proofs.lemmas.List.{drop-set-lt}
use Rattle.std.proofs.lemmas.List.Sums.{sum_by-drop_more}
use Rattle.sharing.specs.Asked.{counts}
use Rattle.sharing.specs.Time.{in_order}
use Rattle.sharing.proofs.Counts.{counts_at, counts_set, cut_more, length_counts}
use Rattle.sharing.proofs.time.cut_in_order.Goals as goal

pub loop-share-preserved : goal.loop-share-preserved
loop-share-preserved c =
    let ss = c.loop-share.shares in
    let i = c.loop-share.share-index in
    let left = c.loop-share.left.count in
    let next = c.sub_assign.new.self.count in
    let at = counts_at ss i in
    let long = length_counts ss in
    let cut : c.min.result.count ≡ min (get_or (counts ss) i 0) left = omega (arith, c.min.ensures) in
    let less : next ≡ left - get_or (counts ss) i 0 = omega (arith, c.sub_assign.ensures.after) in
    let after = ap (drop (i + 1)) (counts_set ss i c.min.result) ∙ drop-set-lt (i + 1) (counts ss) i c.min.result.count (omega arith) in (
      cut_more ss i c.min.result (λ xs. in_order xs left) (λ xs. in_order xs next) (omega arith) (λ rest. cc) ∙ c.loop-share.invariant.0,
      omega (arith, ap sum after, c.loop-share.invariant.1, sum_by-drop_more (λ x. x) (counts ss) i 0 (omega arith)),
    )
