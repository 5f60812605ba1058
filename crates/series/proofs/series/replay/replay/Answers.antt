use Rattle.std.proofs.Common.{◌≡◌, ◌+◌, List, [], ◌∷◌, ◌++◌, map, get_or, take, vec_items, sym, ap, ◌∙◌, subst}
use Rattle.std.proofs.lemmas.List.{take_all, take_more}
use Rattle.rules.proofs.Whole.{best_terms_stand}
use Rattle.rules.specs.Runs.{after, event, run}
use Rattle.rules.specs.Series.{State}
use Rattle.series.specs.Days.{call_of, event_of}
use Rattle.series.specs.State.{state}
use Rattle.series.specs.declared.day.DayCall.{DayCall}
use Rattle.series.specs.declared.day.JournalEntry.{JournalEntry}
use Rattle.series.proofs.Replaying.{Replaying, no_call, replaying_more}
use Rattle.series.proofs.series.replay.replay.Goals as goal

pub loop-call-preserved : goal.loop-call-preserved
loop-call-preserved g c =
    let s = c.new-series.result.0 in
    let number = c.args.number in
    let close = s.close.price.value in
    let calls = c.args.calls.now in
    let i = c.loop-call.call-index in
    let same = c.loop-call.invariant.0 in
    let rule = g.R.SharingRule.shared s.rule in
    let before = state c.loop-call.series in
    let next = state c.record.new.self in
    let items = vec_items c.loop-call.journal in
    let entry = c.record.result in
    let call = get_or calls i no_call in
    let moved : next ≡ after rule before (call_of call) = c.record.ensures.state ∙ ap (λ r. after (g.R.SharingRule.shared r) before (call_of call)) same in
    let noted : event_of entry ≡ event rule before (call_of call) = c.record.ensures.event ∙ ap (λ r. event (g.R.SharingRule.shared r) before (call_of call)) same in
    let more = replaying_more rule number close (take i calls) before items c.loop-call.invariant.1 call entry next moved noted in (
      c.record.ensures.rule ∙ same,
      subst (λ (js : List JournalEntry). Replaying rule number close (take (i + 1) calls) next js) (sym c.in_ok-push.ensures.items)
          (subst (λ (ds : List DayCall). Replaying rule number close ds next (items ++ (entry ∷ []))) (sym (take_more calls i no_call c.loop-call-test.true)) more),
    )

pub returns : goal.returns
returns g c =
    let s = c.new-series.result.0 in
    let calls = c.args.calls.now in
    let w = c.loop-call.invariant.1 in
    let lawful = g.met.R.SharingRule.lawful c.args.rule in
    let close : s.close.price.value ≡ c.args.close.price.value = ap (λ (x : State). x.close) c.new-series.ensures.state in
    record {
      events =
          w.events_are
          ∙ (λ t. (run (g.R.SharingRule.shared (c.new-series.ensures.rule t)) c.args.number (close t) (map call_of (take_all c.loop-call.call-index calls c.loop-call-test.false t))).events);
      law = best_terms_stand (g.R.SharingRule.shared c.args.rule) lawful;
    }
