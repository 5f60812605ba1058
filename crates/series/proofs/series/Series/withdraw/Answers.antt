use Rattle.rules.specs.Calls.{checks, withdraw, without}
use Rattle.order_table.specs.Orders.{orders}
use Rattle.series.specs.Phases.{running}
use Rattle.series.specs.State.{state}
use Rattle.series.proofs.Adding.{timely}
use Rattle.series.proofs.Answering.{all_clear}
use Rattle.series.proofs.Holding.{held_same}
use Rattle.series.proofs.Leaving.{held_withdrawn}
use Rattle.series.proofs.series.Series.withdraw.Goals as goal

pub invariant_of-self : goal.invariant_of-self
invariant_of-self g c =
    let a = c.args in
    let s = a.self.now in
    let known = c.in_ok-withdrawn.ensures in
    let h = all_clear (checks (state s) (withdraw a.time a.member a.order a.rows.now)) known.refusal in record {
      day = timely 86400000 a.time.count (state s) h.0;
      held = held_same (running s.phase) (orders c.keep.new.self) (without a.order (orders s.table)) c.keep.ensures.records (held_withdrawn (running s.phase) (orders s.table) s.table.records.next a.member a.order c.in_ok-withdrawn.withdrawn s.table.records.rising known.order s.held);
    }
