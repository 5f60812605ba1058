use Rattle.std.proofs.Common.{◌≡◌, ℕ, ◌+◌, ◌≤◌, Bool, not, List, [], map, length, None, filter, refl, ap, arith}
use lib.ListN.{length-map}
use Rattle.std.proofs.lemmas.List.Sums.{length-filter, count_by-le-length}
use Rattle.std.proofs.lemmas.Bool.{ltb-false}
use Rattle.market.specs.declared.order.Order.{Order}
use Rattle.market.specs.declared.row.Row.{Row}
use Rattle.rules.specs.Calls.{checks, clock, exposure_row}
use Rattle.rules.specs.Runs.{accepted, nothing}
use Rattle.rules.specs.Series.{due}
use Rattle.order_table.specs.Orders.{orders}
use Rattle.book.specs.Records.{Live}
use Rattle.sharing.specs.Sharing.{Sharing}
use Rattle.series.specs.Phases.{running}
use Rattle.series.specs.State.{state}
use Rattle.series.proofs.Adding.{timely}
use Rattle.series.proofs.Answering.{all_clear, accepts, changed, changed_is, written_is}
use Rattle.series.proofs.Holding.{held_same}
use Rattle.series.proofs.Leaving.{held_lasting, fits, fitted}
use Rattle.series.proofs.series.Series.clock.Goals as goal

-- the rows of the exposures that end
abbrev exposure_rows : ℕ → List Order → List Row
exposure_rows t os = map exposure_row (filter (λ o. due t o.exposed) os)

few : (t : ℕ) (os : List Order) (next : ℕ) → Live os next → length (exposure_rows t os) ≤ 161
few t os next l =
    let p : Order → Bool = λ o. due t o.exposed in
    let most = l.few in
    omega (arith, length-map (filter p os) exposure_row, length-filter p os, count_by-le-length p os)

pub unwrap-count-requires : goal.unwrap-count-requires
unwrap-count-requires g c =
    let a = c.args in
    let s = a.self.now in
    let h = all_clear (checks (state s) (clock a.time a.rows.now)) c.in_ok-check_clock.ensures in
    let rows = exposure_rows a.time.count c.live-live.result.now in
    let room : length rows ≤ length a.rows.now = omega (arith, ltb-false (length a.rows.now) 192 h.1.0, few a.time.count c.live-live.result.now s.table.records.next c.live-live.ensures.kept) in
    fits rows a.rows.now c.write_departures.new.rows c.write_departures.result room c.write_departures.ensures

pub invariant_of-self : goal.invariant_of-self
invariant_of-self g c =
    let a = c.args in
    let s = a.self.now in
    let h = all_clear (checks (state s) (clock a.time a.rows.now)) c.in_ok-check_clock.ensures in record {
      day = timely 86400000 a.time.count (state s) h.0;
      held = held_same (running s.phase) (orders c.keep.new.self) (filter (λ o. not (due a.time.count o.exposed)) (orders s.table)) c.keep.ensures.records (held_lasting (running s.phase) (orders s.table) a.time.count s.held);
    }

pub returns : goal.returns
returns g c =
    let a = c.args in
    let s = a.self.now in
    let st = state s in
    let rule : Sharing = g.R.SharingRule.shared s.rule in
    let n = c.unwrap-count.result in
    let put = fitted (exposure_rows a.time.count c.live-live.result.now) a.rows.now c.write_departures.new.rows c.write_departures.result n c.unwrap-count.ensures c.write_departures.ensures in
    let rows = exposure_rows a.time.count (orders s.table) in
    let w = written_is (exposure_rows a.time.count c.live-live.result.now) rows a.rows.now c.write_departures.new.rows n (ap (exposure_rows a.time.count) c.live-live.ensures.is) put.0 put.1 in
    let next : c.keep.new.self.records.next ≡ s.table.records.next + 0 = omega (arith, c.keep.ensures.numbers) in
    record {
      rule = refl {a = s.rule};
      answers =
          accepts rule st (clock a.time a.rows.now) (changed st a.time.count c.keep.new.self.records.next (orders c.keep.new.self) st.auction) c.write_departures.new.rows (accepted n [] None) nothing c.in_ok-check_clock.ensures
          (changed_is st a.time.count 0 c.keep.new.self.records.next (orders c.keep.new.self) (filter (λ o. not (due a.time.count o.exposed)) (orders s.table)) st.auction next c.keep.ensures.records)
          (ap (λ (k : ℕ). accepted k [] None) w.0) w.1 refl;
    }
