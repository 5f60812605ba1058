use Rattle.std.proofs.Common.{◌≡◌, ℕ, ◌-◌, min, ◌++◌, length, take, sym, refl, ap, ◌∙◌, arith}
use native.Mathlib.Nat.{sub-zero}
use borrow.Rule.Slice.PartMut.{mid_len, post_of, same_len_mid}
use Rattle.series.specs.Days.{answer_of, call_of, event_of, handed_of, lent_to}
use Rattle.series.specs.State.{state}
use Rattle.series.proofs.Replaying.{event_is, lent_back, lent_is, lent_part, unused_long}
use Rattle.series.proofs.series.Series.record.Goals as goal

pub play-outcome-requires : goal.play-outcome-requires
play-outcome-requires g c =
    let call = c.args.call in
    let m = c.min-lent.result in
    let e : m ≡ min (lent_to call) 192 = c.min-lent.ensures ∙ ap (λ n. min n 192) c.lent.ensures in
    ap (λ (k : ℕ). take k c.unused_rows-memory.result) (sub-zero m)
    ∙ ap (take m) c.unused_rows-memory.ensures
    ∙ lent_part (lent_to call) m e
    ∙ sym (lent_is call)

pub returns : goal.returns
returns g c =
    let call = c.args.call in
    let m = c.min-lent.result in
    let room = c.unused_rows-memory.result in
    let rows = c.play-outcome.new.rows in
    let o = c.play-outcome.result in
    let e : m ≡ min (lent_to call) 192 = c.min-lent.ensures ∙ ap (λ n. min n 192) c.lent.ensures in
    let long : length room ≡ 192 = ap length c.unused_rows-memory.ensures ∙ unused_long in
    let rest = post_of 0 (m - 0) room in
    let kept = c.play-outcome.auto.rows in
    let back : take (lent_to call) (rows ++ rest) ≡ rows =
    lent_back rows rest (lent_to call) m e (omega (arith, kept, mid_len 0 m room (omega arith))) (same_len_mid 0 (m - 0) room rows kept ∙ long) in
    record {
      rule = c.play-outcome.ensures.rule;
      state = c.play-outcome.ensures.answers.state_is;
      event = event_is (g.R.SharingRule.shared c.args.self.now.rule) (state c.args.self.now) (state c.play-outcome.new.self) rows (answer_of o.answer) (handed_of o.handed) (call_of call)
          c.play-outcome.ensures.answers (event_of (record { call = call; outcome = o; memory = rows ++ rest })) refl refl back refl;
    }
