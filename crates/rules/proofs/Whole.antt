-- Every lawful rule has the facts, so the law holds of it.
use Rattle.std.proofs.Common.{◌≡◌, ℕ, Some, None, Option, refl, ap, arith}
use Rattle.sharing.specs.InOrder.{time_with_guarantee_lawful}
use Rattle.sharing.specs.Proportion.{pro_rata_lawful}
use Rattle.market.specs.Refusals.{first_hit}
use Rattle.rules.specs.Calls.{checks}
use Rattle.rules.specs.Law.{DeliveredRulesLawful, NoOrderDenied, RecordsAddUp, RefusalsChangeNothing}
use Rattle.rules.specs.Runs.{event_by, handed_back, lent, refused, state_by}
use Rattle.sharing.specs.ProRata.{pro_rata}
use Rattle.sharing.specs.Sharing.{Lawful, Sharing}
use Rattle.sharing.specs.Time.{time_with_guarantee}
use Rattle.rules.proofs.Sound.{Facts}
use Rattle.rules.proofs.Runs.{no_order_denied, records_add_up}
use Rattle.rules.proofs.Takes as takes
use Rattle.rules.proofs.Fills as fills
use Rattle.rules.proofs.Tops as tops
use Rattle.rules.proofs.Pairing as pairing

pub facts : (rule : Sharing) → Lawful rule → Facts rule
facts rule lawful = record {
  fill_within = λ os amount mark g lot a b. fills.fill_within rule lawful os amount mark g lot a b;
  fill_whole = λ os amount mark g lot a b. fills.fill_whole rule lawful os amount mark g lot a b;
  fill_best = λ s b os amount mark g lot sides a c take small sums. fills.fill_best rule lawful s b os amount mark g lot sides a c take small sums;
  rows_named = takes.rows_named;
  rows_taker = takes.rows_taker;
  rows_contracts = takes.rows_contracts;
  rows_total = takes.rows_total;
  rows_taken = takes.rows_taken;
  opening_named = λ os p n lot fine pos. pairing.opening_named rule os p lawful lot n;
  opening_contracts = λ os p lot fine. pairing.opening_contracts rule os p lawful lot;
  opening_rows_of = pairing.opening_rows_of rule;
  top_some = tops.top_some;
  top_best = tops.top_best;
  top_none = tops.top_none;
}

pub records_stand : RecordsAddUp
records_stand = records_add_up facts

pub best_terms_stand : NoOrderDenied
best_terms_stand = no_order_denied facts

pub delivered_rules_lawful : DeliveredRulesLawful
delivered_rules_lawful = (
  time_with_guarantee_lawful,
  pro_rata_lawful,
  best_terms_stand time_with_guarantee time_with_guarantee_lawful,
  best_terms_stand pro_rata pro_rata_lawful,
)

pub refusals_change_nothing : RefusalsChangeNothing
refusals_change_nothing rule st c r = by (first_hit (checks st c)) refl
  where
    by : (x : Option ℕ) → first_hit (checks st c) ≡ x → (event_by rule st c x).answer ≡ refused r →
        (state_by rule st c x ≡ st) × ((event_by rule st c x).memory ≡ lent c) × ((event_by rule st c x).handed ≡ handed_back c) × (x ≡ Some r)
    by (Some q) e a = let same : q ≡ r = cc in (refl, refl, refl, ap Some same)
    by None e a = let z : ◌≡◌ {A = ℕ} 0 1 = cc in absurd (omega arith)
