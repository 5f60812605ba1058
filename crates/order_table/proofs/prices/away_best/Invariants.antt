use Rattle.std.proofs.Common.{◌≡◌, drop}
use Rattle.rules.specs.Prices.{cents, away_best, better_price}
use Rattle.order_table.proofs.prices.away_best.Given as goal

-- the better of the best so far and of the quotes that are left
abbrev pub invariant-loop-quote : goal.invariant-loop-quote
invariant-loop-quote l = better_price l.side (cents l.best) (away_best l.side (drop l.quote-index l.quotes)) ≡ away_best l.side l.quotes
