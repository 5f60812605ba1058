use Rattle.std.proofs.Common.{◌≡◌, ◌-◌, true, set}
use Rattle.std.proofs.ByRecursion.{All-set}
use Rattle.market.specs.declared.quote.Quote.{Quote}
use Rattle.book.proofs.Records.{pass_all, all_passes}
use Rattle.series.specs.Quotes.{quote_in_span}
use Rattle.series.proofs.away.AwayQuotes.replace.Goals as goal

pub invariant_of-self : goal.invariant_of-self
invariant_of-self c =
    let qs = c.args.self.now.quotes in
    let k = c.args.market - 1 in
    let q = c.args.quote in
    record { span = all_passes quote_in_span (set qs k q) (All-set (λ (x : Quote). quote_in_span x ≡ true) qs k q c.requires.span (pass_all quote_in_span qs c.args.self.now.span)) }
