-- What a cutback asks of the lent state. Assumes nothing.
use Rattle.std.specs.Prelude.{◌≡◌, Bool, true, ◌&&◌, cond, List, ℕ, ◌+◌, ◌-◌, ◌≤◌, ◌<◌, leb, ltb, eqb}
use Rattle.rules.specs.declared.Tranches.{Tranches}
use Rattle.rules.specs.declared.Place.{Place}
use Rattle.rules.specs.declared.Setup.{Setup}
use Rattle.rules.specs.declared.Auction.{Auction}
use Rattle.rules.specs.Count.{sum_up_to}
use Rattle.rules.specs.Parts.{tranches_at, with_limits, unmarked, with_free, with_records}
use Rattle.rules.specs.Settings.{target_of, cap_of}
use Rattle.rules.specs.Held.{going_in, free_of}
use Rattle.rules.specs.Bid.{record_of}
use Rattle.rules.specs.Legal.{is_open}
use Rattle.rules.specs.Stands.{Stands}
use Rattle.rules.specs.Cutback.{given_for, may_cut}
use Rattle.rules.specs.Layout.{loaded}
use Rattle.book.specs.Lent.{Long, Lent}
use Rattle.storing.specs.Written.{records_in}

-- the revised target and cap of product p fit, where last is the target before it
abbrev pub fits_after : Setup → ℕ → ℕ → ℕ → ℕ → Bool
fits_after t target cap last p =
    cond (ltb p t.terms.products)
    ((leb target (target_of t p) && leb cap (cap_of t p)) && ((leb 1 target && leb 1 cap) && (leb target last && leb cap target)))
    (eqb target 0 && eqb cap 0)

-- the target before product p; the first has none
abbrev pub last_of : List Tranches → ℕ → ℕ
last_of targets p = cond (eqb p 0) 65535 (given_for targets (p - 1))

-- the records of these places, this free eligibility, the revised targets and caps, and no marks
abbrev pub limited_to : Auction → List Place → List Tranches → List Tranches → List Tranches → Auction
limited_to a ps free targets caps =
    with_records (with_free (unmarked (with_limits a (tranches_at targets) (tranches_at caps))) (tranches_at free)) (records_in ps)

-- what bidder b has at the going prices
abbrev pub going_by : Auction → ℕ → ℕ
going_by a b = sum_up_to (λ p. going_in (record_of a b p)) a.terms.products

-- every bidder's free eligibility has room for what a cutback takes off
pub record Cuttable (s : List ℕ) : Type 0 where
  pub lent : Lent s
  pub room : (b : ℕ) → b < 32 → free_of (loaded s) b + going_by (loaded s) b ≤ 65535

-- a standing state that these targets and caps may cut back
pub record Cutting (s : List ℕ) (targets caps : List Tranches) : Type 0 where
  pub long : Long s
  pub stands : Stands (loaded s)
  pub bits : (loaded s).cards.filed < 4294967296
  pub bidding : is_open (loaded s) ≡ true
  pub may : may_cut (loaded s) targets caps ≡ true
