use Rattle.std.proofs.Common.{length, drop, set, sym, ◌∙◌}
use Rattle.std.proofs.lemmas.List.{length_push}
use Rattle.std.proofs.lemmas.Slice.Zip.{zip_turn}
use Rattle.sharing.specs.Asked.{counts}
use Rattle.book.specs.Settling.{scattered}
use Rattle.book.proofs.Scattering.{scattered_more}
use Rattle.book.proofs.Sorting.{no_rank}
use Rattle.book.proofs.Trades.{no_contracts}
use Rattle.book.proofs.settle.scatter.Goals as goal

pub loop-r-preserved : goal.loop-r-preserved
loop-r-preserved c =
    let a = c.args in
    let l = c.loop-r in
    let rs = a.ranked.now in
    let ns = a.shares.now in
    let t = zip_turn rs ns l.yielded c.into_iter-r-iterator.result l.r-iterator c.next.new.self c.next.result (cc) (cc) l.yielded_by (c.in-Some.r, c.in-Some.share) c.in-Some.is c.next.ensures.steps in
    let next = length_push l.yielded (c.in-Some.r, c.in-Some.share) in
    let rank = t.2 no_rank in
    let share = t.3 no_contracts in
    (λ i. scattered (drop (next i) rs) (counts (drop (next i) ns)) (counts (set l.fills (rank i).place (share i))))
    ∙ sym (scattered_more rs ns l.fills (length l.yielded) t.0 t.1)
    ∙ l.invariant
