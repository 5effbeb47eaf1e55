-- What the records before and after a calculation say of its two counts: "the records before and after fix both". Assumes nothing.
use Rattle.std.specs.Prelude.{◌≡◌, cond, ℕ, ◌+◌, ltb}
use Rattle.rules.specs.declared.Auction.{Auction}
use Rattle.rules.specs.Count.{sum_up_to}
use Rattle.rules.specs.Held.{going_in, denied_in, ticked}
use Rattle.rules.specs.Bid.{record_of}
use Rattle.rules.specs.Legal.{kept_on}

-- "the kept tranches now on products that had ticked": a before the calculation, z after it
abbrev pub kept_where_ticked : Auction → Auction → ℕ
kept_where_ticked a z = sum_up_to (λ p. cond (ticked a p) (kept_on z p) 0) a.terms.products

-- the kept tranches that stand in z on the products that had not ticked in a
abbrev pub kept_on_others : Auction → Auction → ℕ
kept_on_others a z = sum_up_to (λ p. cond (ticked a p) 0 (kept_on z p)) a.terms.products

-- "those deemed bid in step 3": on a product that didn't tick a bidder was deemed to bid the denied switches it had there exactly where it
-- then has more at the going price
abbrev pub deemed_at : Auction → Auction → ℕ → ℕ → ℕ
deemed_at a z b p = cond (ltb (going_in (record_of a b p)) (going_in (record_of z b p))) (denied_in (record_of a b p)) 0

abbrev pub deemed_in : Auction → Auction → ℕ
deemed_in a z = sum_up_to (λ p. cond (ticked a p) 0 (sum_up_to (λ b. deemed_at a z b p) a.terms.bidders)) a.terms.products

-- "the kept tranches that stood before on the other products, less those deemed bid in step 3, less those still kept there": o, as
-- a balance, so that nothing is taken from less
abbrev pub CountsOutbid : Auction → Auction → ℕ → Type 0
CountsOutbid a z o = o + deemed_in a z + kept_on_others a z ≡ kept_on_others a a
