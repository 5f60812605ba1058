-- What is noted of a candidate, by the ladders of the two sides.
use Rattle.std.specs.Prelude.{◌≡◌, ℕ, ◌+◌, ◌-◌, Bool, ◌&&◌, ◌||◌, ◌==◌, nat_lt}
use Rattle.rules.specs.Prices.{far_off}
use Rattle.book.specs.declared.ladder.Ladder.{Ladder}
use Rattle.book.specs.declared.opening_price.search.Candidate.{Candidate}
use Rattle.book.specs.declared.opening_price.search.Opening.{Opening}
use Rattle.book.specs.Candidates.{traded_at, over_at, better_by}
use Rattle.book.specs.Steps.{lower}
use Rattle.book.specs.Rungs.{rungs}

-- all buys less the limits below the price
abbrev pub wanted_on : Ladder → ℕ → ℕ
wanted_on l q = l.market + l.limits - lower (rungs l) q

-- the Market-on-Opening sells and the limits at most the price
abbrev pub offered_on : Ladder → ℕ → ℕ
offered_on l q = l.market + lower (rungs l) (q + 1)

abbrev pub better_on : Opening → ℕ → ℕ → ℕ
better_on i = better_by (wanted_on i.buys) (offered_on i.sells) i.close.value

-- a candidate that opens better than another, by what is noted of both
abbrev pub beats : Candidate → Candidate → Bool
beats new old =
    nat_lt old.volume new.volume ||
    (old.volume == new.volume &&
    (nat_lt new.surplus old.surplus ||
    (new.surplus == old.surplus &&
    (nat_lt new.distance old.distance ||
    (new.distance == old.distance && nat_lt new.price old.price)))))

-- what is noted of a candidate is right
pub record Rated (i : Opening) (c : Candidate) : Type 0 where
  pub volume : c.volume ≡ traded_at (wanted_on i.buys) (offered_on i.sells) c.price
  pub surplus : c.surplus ≡ over_at (wanted_on i.buys) (offered_on i.sells) c.price
  pub distance : c.distance ≡ far_off i.close.value c.price
