-- Each wrong host is refused by the part of the law that it breaks.
use Rattle.std.proofs.Common.{◌≡◌, ℕ, ◌<◌, ◌≤◌, true, false, cond, eqb, List, Some, None, Option, sym, refl, ap, ◌∙◌, subst, inl, inr, arith}
use Rattle.std.specs.List.{AllByRecursion}
use Rattle.std.proofs.ByRecursion.{all-has}
use Rattle.std.proofs.lemmas.Bool.{both_ways}
use Rattle.market.specs.declared.order.Side.TheVariants.{Buy, Sell}
use Rattle.market.specs.declared.order.Side.{Side}
use Rattle.market.specs.declared.row.Row.{Row}
use Rattle.rules.specs.Volume.{willing}
use Rattle.rules.specs.Ledger.{Entry, of_entry, stands, auction_entry}
use Rattle.rules.specs.Law.{BestAuction, CustomerOf, contra_orders}
use Rattle.rules.specs.Wrong.{WrongHostsRefused, onlookers, offered, auctioning}

-- not an order of that number that is willing at 205
abbrev Unwilling : Side → ℕ → Entry → Type 0
Unwilling s n b = b.number ≡ n → willing s 205 (of_entry onlookers b) ≡ true → ⊥

unwilling_buyers : AllByRecursion (Unwilling Buy 3) onlookers.orders
unwilling_buyers = ((λ e w. omega arith), ((λ e w. omega arith), ((λ e w. both_ways false refl w), ((λ e w. omega arith), tt))))

unwilling_sellers : AllByRecursion (Unwilling Sell 4) onlookers.orders
unwilling_sellers = ((λ e w. omega arith), ((λ e w. omega arith), ((λ e w. omega arith), ((λ e w. both_ways false refl w), tt))))

-- not order 2 standing at 109
abbrev Elsewhere : Entry → Type 0
Elsewhere b = b.number ≡ 2 → stands offered b ≡ 109 → ⊥

not_at_109 : AllByRecursion Elsewhere (contra_orders Buy offered)
not_at_109 = ((λ e w. omega arith), ((λ e w. omega arith), ((λ e w. omega arith), tt)))

-- a choice of n contracts of one order
only : ℕ → ℕ → ℕ → ℕ
only number n k = cond (eqb k number) n 0

-- the terms of the auction's customer, whoever the ticket names
customers_terms : (rows : List Row) → CustomerOf auctioning 1 (λ b. BestAuction b.number b.side b.size auctioning rows) → BestAuction 1 Buy 20 auctioning rows
customers_terms rows f =
    let same : auction_entry 1 Buy 20 208 ≡ f.0 = same_entry (auction_entry 1 Buy 20 208) f.0 f.1 in
    subst (λ (b : Entry). BestAuction b.number b.side b.size auctioning rows) (sym same) f.3
  where
    same_entry : (a b : Entry) → Some a ≡ Some b → a ≡ b
    same_entry a b e = cc

number_of : Option Entry → ℕ
number_of (Some b) = b.number
number_of None = 0

pub wrong_hosts_refused : WrongHostsRefused
unfolding only number_of
wrong_hosts_refused = record {
  off_the_grid = λ f. both_ways false refl f.announced.0;
  invented_quantity = λ f. (let e : ◌≡◌ {A = ℕ} 7 1 = f.announced.1 in omega arith);
  no_price = λ f. f.never_outdone 205 refl (omega arith);
  always_at_the_close = λ f. f.never_outdone 105 refl (inr (inl (refl, omega arith)));
  row_not_written = λ f. (let e : ◌≡◌ {A = ℕ} 0 1 = f.all_of_it in omega arith);
  two_prices = λ f. (let e : ◌≡◌ {A = ℕ} 210 205 = f.one_price.0 in omega arith);
  unwilling_buyer = λ f. (let b = f.buyers_willing.0 in all-has (Unwilling Buy 3) onlookers.orders b.0 unwilling_buyers b.1 b.2 b.3);
  unwilling_seller = λ f. (let b = f.sellers_willing.0 in all-has (Unwilling Sell 4) onlookers.orders b.0 unwilling_sellers b.1 b.2 b.3);
  trades_less = λ f. (let l : 5 ≤ 4 = f.as_much_as_allowed in omega arith);
  another_order = λ f. (let e : ◌≡◌ {A = ℕ} 1 5 = f.best.its_own.0 in omega arith);
  worse_offer = λ f. (let l : 575 ≤ 550 = f.best.none_better (only 2 5) (omega arith, (omega arith, (omega arith, tt))) refl in omega arith);
  another_price = λ f. (let b = f.best.at_their_prices.0 in all-has Elsewhere (contra_orders Buy offered) b.0 not_at_109 b.1 b.2 b.3);
  beyond_the_bound = λ f. both_ways false refl f.within_bound.1.1.0;
  part_of_the_size = λ f. (let l : 20 ≤ 19 = (customers_terms _ f).whole in omega arith);
  all_to_the_starter = λ f. (let l : 4160 ≤ 4140 = (customers_terms _ f).best.none_better (only 3 20) (omega arith, (omega arith, tt)) refl in omega arith);
  another_ticket = λ f. (let e : ◌≡◌ {A = ℕ} 1 2 = ap number_of f.1 ∙ f.2 in omega arith);
  lost_order = λ f. (let e : ◌≡◌ {A = ℕ} 0 10 = f.0 0 refl in omega arith);
  same_number = λ f. (let l : 1 < 1 = f.1.0 in omega arith);
}
