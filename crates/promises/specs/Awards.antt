-- What the result awards. Assumes nothing.
use Rattle.std.specs.Prelude.{◌≡◌, ◌⊎◌, List, ℕ, ◌*◌, ◌+◌, ◌≤◌, ◌<◌, get_or}
use Rattle.rules.specs.declared.Record.{Record}
use Rattle.rules.specs.declared.Auction.{Auction}
use Rattle.rules.specs.Units.{tranches, quote, amount_of}
use Rattle.rules.specs.Answers.{closed}
use Rattle.rules.specs.Lots.{count_of, lot_at}
use Rattle.rules.specs.Held.{going_in, denied_in, held}
use Rattle.rules.specs.Bid.{record_of, price_at, before_at}
use Rattle.rules.specs.Layout.{loaded}
use Rattle.rules.specs.Calls.{result_call}

-- "If the auction closes"
abbrev pub Closed : List ℕ → Type 0
Closed s = (loaded s).phase ≡ closed

-- a record holds a tranche at the price x: one of g at the going price p, one of d at the price before, q, or one of r in one of the four
-- lots, at that lot's exit price
abbrev pub HoldsIn : ℕ → ℕ → Record → ℕ → Type 0
HoldsIn p q r x =
    ((0 < going_in r) × (x ≡ p))
    ⊎ (((0 < denied_in r) × (x ≡ q))
    ⊎ ((i : ℕ) × (i < 4) × (0 < count_of (lot_at r.retained i)) × (x ≡ (lot_at r.retained i).exit)))

-- and so does bidder b, of product p
abbrev pub HoldsAt : Auction → ℕ → ℕ → ℕ → Type 0
HoldsAt a b p x = HoldsIn (price_at a p) (before_at a p) (record_of a b p) x

-- the tranches that the result awards bidder b on product p
abbrev pub award_on : List ℕ → ℕ → ℕ → ℕ
award_on s b p = (get_or (result_call s).tranches (b * 8 + p) (tranches 0)).0

-- the price that the result gives for product p
abbrev pub paid_for : List ℕ → ℕ → ℕ
paid_for s p = amount_of (get_or (result_call s).prices p (quote 0 0)).price

-- "the highest price of any held tranche, or the going price if none is held"
pub record PaidHighest (s : List ℕ) (p : ℕ) : Type 0 where
  pub most : (b x : ℕ) → b < (loaded s).terms.bidders → HoldsAt (loaded s) b p x → x ≤ paid_for s p
  pub some : 0 < held (loaded s).records (loaded s).terms.bidders p
      → (b : ℕ) × (b < (loaded s).terms.bidders) × HoldsAt (loaded s) b p (paid_for s p)
  pub none : held (loaded s).records (loaded s).terms.bidders p ≡ 0 → paid_for s p ≡ price_at (loaded s) p
