use Rattle.std.proofs.Common.{◌≡◌, length, take, drop, map}
use Rattle.book.proofs.Trades.{row_of}
use Rattle.book.proofs.rows.write_trades.Given as goal

abbrev pub invariant-loop-r : goal.invariant-loop-r
invariant-loop-r l =
    (take l.count l.rows ≡ map (row_of l.side l.taker l.orders) (map (λ p. (p.0.now, p.1.now)) l.yielded)) ×
    (drop l.count l.rows ≡ drop l.count l.initial.rows) ×
    (l.count ≡ length l.yielded)
