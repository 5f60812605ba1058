use Rattle.std.proofs.Common.{◌≡◌, ℕ, ◌-◌, List, take, sym, ap, subst}
use native.Mathlib.Nat.{sub-zero}
use Rattle.market.specs.declared.order.Order.{Order}
use Rattle.book.specs.Records.{Live}
use Rattle.book.proofs.Records.{table_live}
use Rattle.book.proofs.table.Table.live.Goals as goal

pub returns-clause-kept : goal.returns-clause-kept
returns-clause-kept c =
    let t = c.args.self.now in
    let e : take (t.count - 0) t.records ≡ take t.count t.records = ap (λ (k : ℕ). take k t.records) (sub-zero t.count) in
    subst (λ (os : List Order). Live os t.next) (sym e) (table_live t)
