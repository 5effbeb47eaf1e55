-- Document 02, request 11: what a quiet round is, and what ends the quiet. Assumes nothing.
use Rattle.std.specs.Prelude.{◌≡◌, true, cond, ◌⊎◌, ℕ, ◌+◌, ◌≤◌, ◌<◌}
use Rattle.rules.specs.declared.Setup.{Setup}
use Rattle.rules.specs.declared.Auction.{Auction}
use Rattle.rules.specs.Count.{sum_up_to}
use Rattle.rules.specs.Answers.{closed, stopped}
use Rattle.rules.specs.Settings.{setup, target_of}
use Rattle.rules.specs.Held.{denied_in, held, ticked, free_of}
use Rattle.rules.specs.Bid.{record_of, price_at}
use Rattle.rules.specs.Legal.{is_open}

-- "open with no product above target"
pub record Quiet (a : Auction) : Type 0 where
  pub bidding : is_open a ≡ true
  pub none_above : (p : ℕ) → p < a.terms.products → held a.records a.terms.bidders p ≤ target_of (setup a) p

-- the denied switches that stand on product p
abbrev pub denied_on : Auction → ℕ → ℕ
denied_on a p = sum_up_to (λ b. denied_in (record_of a b p)) a.terms.bidders

-- "D denied switches standing"
abbrev pub denied_standing : Auction → ℕ
denied_standing a = sum_up_to (denied_on a) a.terms.products

-- those of bidder b in z on the products that had not ticked in a
abbrev pub denied_elsewhere : Auction → Auction → ℕ → ℕ
denied_elsewhere a z b = sum_up_to (λ p. cond (ticked a p) 0 (denied_in (record_of z b p))) a.terms.products

-- "An outbid denied switch becomes one free eligibility of its owner.": what bidder b has free after the calculation that makes z of a were denied
-- switches of its own before it, and stand no longer
abbrev pub FreedFrom : Auction → Auction → ℕ → Type 0
FreedFrom a z b = denied_elsewhere a z b + free_of z b ≤ denied_elsewhere a a b

-- "some price falls", from a to z
abbrev pub PriceFalls : Auction → Auction → Type 0
PriceFalls a z = (p : ℕ) × (p < a.terms.products) × (price_at z p < price_at a p)

-- "some price falls, or the auction closes or stops"
abbrev pub Moves : Auction → Auction → Type 0
Moves a z = PriceFalls a z ⊎ ((z.phase ≡ closed) ⊎ (z.phase ≡ stopped))

-- the volume: all tranches wanted
abbrev pub volume : Setup → ℕ
volume t = sum_up_to (target_of t) t.terms.products
