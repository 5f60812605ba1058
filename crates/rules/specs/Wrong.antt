-- Wrong hosts, each of which breaks one part of the law: their events are told as a journal tells them.
use Rattle.std.specs.Prelude.{ℕ, false, List, [], ◌∷◌, Some, None, Option}
use Rattle.market.specs.declared.order.Account.TheVariants.{Customer}
use Rattle.market.specs.declared.order.Side.TheVariants.{Buy, Sell}
use Rattle.market.specs.declared.row.Row.{Row}
use Rattle.sharing.specs.Time.{time_with_guarantee}
use Rattle.market.specs.Words.{limit_at, trade}
use Rattle.rules.specs.Series.{fresh}
use Rattle.rules.specs.Calls.{Ticket, Call, enter, start, improve, finish}
use Rattle.rules.specs.Runs.{accepted, Event, nothing, Day, run}
use Rattle.rules.specs.Ledger.{Ledger, ledger}
use Rattle.rules.specs.Law.{FairEvent, Conserved, Numbered}
use Rattle.rules.specs.Books.{at, cents_of, lots, buy, sell, bell, away_offer, first_ticket}

-- an accepted call that counts so many rows, with new numbers, an announced opening and its memory when it returns
abbrev pub told : Call → ℕ → List ℕ → Option (ℕ × ℕ) → List Row → Event
told c count ns announced memory = record { call = c; answer = accepted count ns announced; memory = memory; handed = nothing }

-- ---- openings of a buy of 1 at 210 against a sell of 1 at 200

abbrev pub crossing : Ledger
crossing = ledger (told (buy (limit_at 210) 1) 0 (1 ∷ []) None [] ∷ told (sell (limit_at 200) 1) 0 (2 ∷ []) None [] ∷ [])

abbrev pub opens_as : Option (ℕ × ℕ) → List Row → Event
opens_as announced rows = told bell 1 [] announced rows

-- the opening of two buys and a sell at the close of 100, where 105 leaves no surplus
abbrev pub lopsided : Ledger
lopsided = ledger (
    told (buy (limit_at 105) 10) 0 (1 ∷ []) None [] ∷ told (buy (limit_at 100) 5) 0 (2 ∷ []) None [] ∷
    told (sell (limit_at 100) 10) 0 (3 ∷ []) None [] ∷ [])

-- the same two orders and another buy at 190 and sell at 220, which are not willing at 205
abbrev pub onlookers : Ledger
onlookers = ledger (
    told (buy (limit_at 210) 1) 0 (1 ∷ []) None [] ∷ told (sell (limit_at 200) 1) 0 (2 ∷ []) None [] ∷
    told (buy (limit_at 190) 1) 0 (3 ∷ []) None [] ∷ told (sell (limit_at 220) 1) 0 (4 ∷ []) None [] ∷ [])

-- ---- entries after a bid of 5 at 100, offers of 5 at 110, 115 and 120, and an away offer of 115

abbrev pub offered : Ledger
offered = ledger (
    told bell 0 [] None [] ∷ told (enter 1 (at 2) 7 Buy Customer (cents_of 100) (lots 5) []) 0 (1 ∷ []) None [] ∷
    told (enter 1 (at 2) 8 Sell Customer (cents_of 110) (lots 5) []) 0 (2 ∷ []) None [] ∷
    told (enter 1 (at 2) 8 Sell Customer (cents_of 115) (lots 5) []) 0 (3 ∷ []) None [] ∷
    told (enter 1 (at 2) 8 Sell Customer (cents_of 120) (lots 5) []) 0 (4 ∷ []) None [] ∷ told (away_offer 115) 0 [] None [] ∷ [])

-- a buy at 120 enters as order 5
abbrev pub enters : ℕ → ℕ → List Row → Event
enters n count rows = told (enter 1 (at 3) 9 Buy Customer (cents_of 120) (lots n) []) count (5 ∷ []) None rows

-- ---- an auction of 20 at 208, improved by 20 at 207

abbrev pub auctioning : Ledger
auctioning = ledger (
    told bell 0 [] None [] ∷ told (away_offer 209) 0 [] None [] ∷
    told (start 1 (at 3) 8 Buy (cents_of 208) (lots 20)) 0 (1 ∷ 2 ∷ []) None [] ∷
    told (improve 1 (at 4) 9 (cents_of 207) (lots 20) None []) 0 (3 ∷ []) None [] ∷ [])

abbrev pub finishes : Ticket → List Row → Event
finishes k rows = told (finish k (at 3003) []) 1 [] None rows

abbrev pub second_ticket : Ticket
second_ticket = record { series = 1; customer = 2; discharged = false }

-- ---- days

-- an order is accepted, and nothing of it stands
abbrev pub order_lost : Day
order_lost = record { state = fresh 1 200; events = told (buy (limit_at 200) 10) 0 (1 ∷ []) None [] ∷ [] }

-- two orders under one number, of which one stands
abbrev pub number_twice : Day
number_twice = record {
  state = (run time_with_guarantee 1 200 (buy (limit_at 200) 10 ∷ [])).state;
  events = told (buy (limit_at 200) 10) 0 (1 ∷ []) None [] ∷ told (buy (limit_at 200) 10) 0 (1 ∷ []) None [] ∷ [];
}

-- every one of them is refused by the law
pub record WrongHostsRefused : Type 0 where
  -- the opening price is off the grid
  pub off_the_grid : FairEvent 203 crossing (opens_as (Some (203, 1)) (trade Buy 1 2 203 1 ∷ [])) → ⊥
  -- the announced quantity is invented
  pub invented_quantity : FairEvent 205 crossing (opens_as (Some (205, 7)) (trade Buy 1 2 205 1 ∷ [])) → ⊥
  -- no price is announced, though one trades
  pub no_price : FairEvent 205 crossing (told bell 0 [] None []) → ⊥
  -- the series opens at the close, though another price leaves less surplus
  pub always_at_the_close : FairEvent 100 lopsided (opens_as (Some (100, 10)) (trade Buy 1 3 100 10 ∷ [])) → ⊥
  -- a counted row is never written
  pub row_not_written : FairEvent 205 crossing (opens_as (Some (205, 1)) []) → ⊥
  -- a row is at another price than announced
  pub two_prices : FairEvent 205 crossing (opens_as (Some (205, 1)) (trade Buy 1 2 210 1 ∷ [])) → ⊥
  -- a row names a buyer, or a seller, that is not willing at the price
  pub unwilling_buyer : FairEvent 205 onlookers (opens_as (Some (205, 1)) (trade Buy 3 2 205 1 ∷ [])) → ⊥
  pub unwilling_seller : FairEvent 205 onlookers (opens_as (Some (205, 1)) (trade Buy 1 4 205 1 ∷ [])) → ⊥
  -- an entering order trades less than it could
  pub trades_less : FairEvent 200 offered (enters 5 1 (trade Buy 5 2 110 4 ∷ [])) → ⊥
  -- its rows give the offer to an older bid
  pub another_order : FairEvent 200 offered (enters 5 1 (trade Buy 1 2 110 5 ∷ [])) → ⊥
  -- it takes a worse offer than it could
  pub worse_offer : FairEvent 200 offered (enters 5 1 (trade Buy 5 3 115 5 ∷ [])) → ⊥
  -- it trades at another price than where the offer stands
  pub another_price : FairEvent 200 offered (enters 5 1 (trade Buy 5 2 109 5 ∷ [])) → ⊥
  -- it trades beyond its bound, through the away offer
  pub beyond_the_bound : FairEvent 200 offered (enters 15 3 (trade Buy 5 2 110 5 ∷ trade Buy 5 3 115 5 ∷ trade Buy 5 4 120 5 ∷ [])) → ⊥
  -- an auctioned order trades less than its size
  pub part_of_the_size : FairEvent 200 auctioning (finishes first_ticket (trade Buy 1 3 207 19 ∷ [])) → ⊥
  -- all goes to the starter, past a better competing order
  pub all_to_the_starter : FairEvent 200 auctioning (finishes first_ticket (trade Buy 1 2 208 20 ∷ [])) → ⊥
  -- the auction is finished by a ticket of another order
  pub another_ticket : FairEvent 200 auctioning (finishes second_ticket (trade Buy 1 3 207 20 ∷ [])) → ⊥
  -- an accepted order vanishes
  pub lost_order : Conserved order_lost → ⊥
  -- two orders have one number
  pub same_number : Numbered number_twice → ⊥
