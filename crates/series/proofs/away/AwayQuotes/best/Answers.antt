use Rattle.std.proofs.Common.{◌≡◌, ℕ, ◌≤◌, true, List, Option, sym, subst}
use Rattle.std.specs.List.{AllByRecursion}
use Rattle.std.proofs.ByRecursion.{All-weaker}
use Rattle.std.proofs.lemmas.Bool.{or_parts, not-true}
use Rattle.market.specs.Words.{or_else}
use Rattle.market.specs.declared.quote.Quote.{Quote}
use Rattle.rules.specs.Series.{bad_quote}
use Rattle.rules.proofs.Plain.{quote_fine}
use Rattle.rules.proofs.Sound.{Spanned}
use Rattle.rules.proofs.Trading.{away_below}
use Rattle.book.proofs.Records.{pass_all}
use Rattle.series.specs.Quotes.{quote_in_span, quotes_in_span}
use Rattle.series.proofs.away.AwayQuotes.best.Goals as goal

spanned : (qs : List Quote) → quotes_in_span qs ≡ true → AllByRecursion (λ q. Spanned q.bid × Spanned q.offer) qs
spanned qs h = All-weaker (λ (q : Quote). quote_in_span q ≡ true) (λ (q : Quote). Spanned q.bid × Spanned q.offer) one qs (pass_all quote_in_span qs h)
  where
    one : (q : Quote) → quote_in_span q ≡ true → Spanned q.bid × Spanned q.offer
    one q k = let b = or_parts (bad_quote q.bid) (bad_quote q.offer) (not-true _ k) in (quote_fine q.bid b.0, quote_fine q.offer b.1)

pub returns : goal.returns
returns c =
    let a = c.args in
    let qs = a.self.now.quotes in
    record {
      best = c.away_best.ensures;
      span = subst (λ (x : Option ℕ). or_else x 0 ≤ 99999) (sym c.away_best.ensures) (away_below a.side qs (spanned qs a.self.now.span));
    }
