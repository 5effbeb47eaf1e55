-- "What is held." Assumes nothing.
use Rattle.std.specs.Prelude.{Bool, List, ℕ, ◌+◌, ◌*◌, ◌-◌, min, get_or, ℤ, pos, negsuc}
use Rattle.std.proofs.Math.IntN.{sub_ℕ}
use Rattle.std.specs.Int.Signed.{lt_z}
use Rattle.rules.specs.declared.Lots.{Lots}
use Rattle.rules.specs.declared.Record.{Record}
use Rattle.rules.specs.declared.Auction.{Auction}
use Rattle.rules.specs.Count.{sum_up_to}
use Rattle.rules.specs.Units.{tranches}
use Rattle.rules.specs.Parts.{seat_at}
use Rattle.rules.specs.Settings.{setup, target_of}
use Rattle.rules.specs.Lots.{no_lots, total, highest, retain_at, outbid_last}

-- "g tranches at the going price p, d denied switches at the price q before its latest fall, r retained withdrawals"; document 02: they
-- "are kept per lot in the bidder's record"
abbrev pub entry : ℕ → ℕ → Lots → Record
entry g d l = record { going = tranches g; denied = tranches d; retained = l }

abbrev pub nothing : Record
nothing = entry 0 0 no_lots

abbrev pub going_in : Record → ℕ
going_in r = r.going.0

abbrev pub denied_in : Record → ℕ
denied_in r = r.denied.0

-- r is the sum of the lots
abbrev pub retained_in : Record → ℕ
retained_in r = total r.retained

-- the highest exit price
abbrev pub exit_in : Record → ℕ
exit_in r = highest r.retained

-- "Held is g + d + r"; '"Kept" means denied or retained'
abbrev pub held_in : Record → ℕ
held_in r = going_in r + denied_in r + retained_in r

abbrev pub kept_in : Record → ℕ
kept_in r = denied_in r + retained_in r

-- ---- a tranche kept, cancelled, deemed bid or outbid: the record is changed and handed back

-- a withdrawal of the card's lot at place i is retained in the record's lot at that place, at its exit price
abbrev pub retained : Record → ℕ → ℕ → Record
retained r i x = entry (going_in r) (denied_in r) (retain_at r.retained i x)

-- a switch is denied
abbrev pub denied : Record → Record
denied r = entry (going_in r) (denied_in r + 1) r.retained

-- an increase is cancelled
abbrev pub cancelled : Record → Record
cancelled r = entry (going_in r - 1) (denied_in r) r.retained

-- "d joins g"
abbrev pub deemed : Record → Record
deemed r = entry (going_in r + denied_in r) 0 r.retained

-- a denied switch is outbid
abbrev pub switch_outbid : Record → Record
switch_outbid r = entry (going_in r) (denied_in r - 1) r.retained

-- a retained withdrawal is outbid, that of the highest exit price
abbrev pub withdrawal_outbid : Record → Record
withdrawal_outbid r = entry (going_in r) (denied_in r) (outbid_last r.retained)

-- a bidder above a cap is set to it; g alone is cut, since it is only done where nothing is kept
abbrev pub set_to : Record → ℕ → Record
set_to r cap = entry (min (going_in r) cap) (denied_in r) r.retained

-- ---- the book

-- the record of bidder b on product p stands at b * 8 + p
abbrev pub place : ℕ → ℕ → ℕ
place b p = b * 8 + p

abbrev pub record_at : List Record → ℕ → Record
record_at rs k = get_or rs k nothing

-- "Held is g + d + r over all bidders"
abbrev pub held : List Record → ℕ → ℕ → ℕ
held rs n p = sum_up_to (λ b. held_in (record_at rs (place b p))) n

-- "Standing of a product: held minus target, negative while it is short"
abbrev pub standing : ℕ → ℕ → ℤ
standing x target = sub_ℕ x target

abbrev pub below : ℤ → Bool
below z = lt_z z (pos 0)

abbrev pub above : ℤ → Bool
above z = lt_z (pos 0) z

-- a standing above zero as a number, and 0 for any other
abbrev pub above_zero : ℤ → ℕ
above_zero (pos n) = n
above_zero (negsuc n) = 0

abbrev pub standing_of : Auction → ℕ → ℤ
standing_of a p = standing (held a.records a.terms.bidders p) (target_of (setup a) p)

-- "A product ticked exactly when its standing after the last calculation was above zero; none ticked before round 1":
-- while bids are open the records are those of the last calculation, and before round 1 nothing is held; after a cutback it "goes by
-- the standings of the reduced book", whose targets are the revised ones
abbrev pub ticked : Auction → ℕ → Bool
ticked a p = above (standing_of a p)

abbrev pub free_of : Auction → ℕ → ℕ
free_of a b = (seat_at a b).free.0

-- "A bidder's eligibility is the sum of g + d, plus f"
abbrev pub eligibility : Auction → ℕ → ℕ
eligibility a b =
    sum_up_to (λ p. going_in (record_at a.records (place b p)) + denied_in (record_at a.records (place b p))) a.terms.products
    + free_of a b

-- "Total excess supply = the standings above zero, summed, plus all f"
abbrev pub excess : Auction → ℕ
excess a = sum_up_to (λ p. above_zero (standing_of a p)) a.terms.products + sum_up_to (free_of a) a.terms.bidders
