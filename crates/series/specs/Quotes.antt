-- What is kept of away prices.
use Rattle.std.specs.Prelude.{Bool, not, ◌||◌, List}
use Rattle.std.specs.List.{list_all}
use Rattle.market.specs.declared.quote.Quote.{Quote}
use Rattle.rules.specs.Series.{bad_quote}

-- every price that is quoted is a price
abbrev pub quote_in_span : Quote → Bool
quote_in_span q = not (bad_quote q.bid || bad_quote q.offer)

abbrev pub quotes_in_span : List Quote → Bool
quotes_in_span qs = list_all quote_in_span qs
