-- What the laws of one call say, beside the definitions of the calls. Assumes nothing.
use Rattle.std.specs.Prelude.{◌≡◌, true, false, ◌⊎◌, List, ℕ, ◌+◌, ◌-◌, ◌*◌, ◌/◌, ◌%◌, ◌≤◌, ◌<◌, min, length, get_or}
use Rattle.rules.specs.declared.Tranches.{Tranches}
use Rattle.rules.specs.declared.Line.{Line}
use Rattle.rules.specs.declared.Settings.{Settings}
use Rattle.rules.specs.declared.Auction.{Auction}
use Rattle.rules.specs.Count.{sum_up_to}
use Rattle.rules.specs.Answers.{answer_of, calculation_said, bids_open, stopped}
use Rattle.rules.specs.Settings.{setup, target_of, start_of}
use Rattle.rules.specs.Lots.{Ordered, Beginning, AllWithin}
use Rattle.rules.specs.Held.{going_in, denied_in, held, ticked, free_of, eligibility, excess}
use Rattle.rules.specs.Bid.{one_if, has_filed, slot_of, record_of, price_at, before_at, mark_at, bid_on}
use Rattle.rules.specs.Accept.{place_at}
use Rattle.rules.specs.Price.{Override, decrement_for, fallen, is_given, decrement_by}
use Rattle.rules.specs.Round.{after_step2}
use Rattle.rules.specs.Cutback.{given_for, revised}
use Rattle.rules.specs.Layout.{products_from, bidders_from, rows_from, records_from, bids_from, loaded, product_width, bidder_width, row_width, record_width, line_width, state_length}
use Rattle.rules.specs.Legal.{is_open, stands}
use Rattle.rules.specs.Calls.{open_call, file_call, calculate_call, plain_call, cutback_call, return_call, write_call}

-- bytes that are a standing state
pub record StandsIn (s : List ℕ) : Type 0 where
  pub long : length s ≡ state_length
  pub standing : stands (loaded s) ≡ true
  pub bits : (loaded s).cards.filed < 4294967296

-- what is past the counts in use, and the slots not filed: every byte of it is 0
pub record SpareZero (s : List ℕ) : Type 0 where
  pub products : (p j : ℕ) → (loaded s).terms.products ≤ p → p < 8 → j < product_width → get_or s (p * product_width + products_from + j) 0 ≡ 0
  pub bidders : (b j : ℕ) → (loaded s).terms.bidders ≤ b → b < 32 → j < bidder_width → get_or s (b * bidder_width + bidders_from + j) 0 ≡ 0
  pub rows : (i j : ℕ) → (loaded s).decrements.rows ≤ i → i < 8 → j < row_width → get_or s (i * row_width + rows_from + j) 0 ≡ 0
  pub records : (k j : ℕ) → k < 256 → ((loaded s).terms.bidders ≤ k / 8) ⊎ ((loaded s).terms.products ≤ k % 8) → j < record_width
      → get_or s (k * record_width + records_from + j) 0 ≡ 0
  pub lines : (k j : ℕ) → k < 256 → (has_filed (loaded s) (k / 8) ≡ false) ⊎ ((loaded s).terms.products ≤ k % 8) → j < line_width
      → get_or s (k * line_width + bids_from + j) 0 ≡ 0
  pub marks : (b : ℕ) → (loaded s).terms.bidders ≤ b → b < 32 → has_filed (loaded s) b ≡ false

-- each refusal, which is an answer with a number other than 0, "changes no lent byte"
pub record RefusedSame (s : List ℕ) : Type 0 where
  pub opening : (x : Settings) → 0 < (answer_of (open_call s x).answer).number → (open_call s x).bytes ≡ s
  pub filing : (c : List ℕ) → 0 < (answer_of (file_call s c).answer).number → (file_call s c).bytes ≡ s
  pub calculating : (draw : List ℕ) (os : List Override) → 0 < (calculation_said (calculate_call s draw os).answer).number
      → (calculate_call s draw os).bytes ≡ s
  pub ordering : (draw : List ℕ) (os : List Override) (order : List ℕ) → 0 < (calculation_said (plain_call s draw os order).answer).number
      → (plain_call s draw os order).bytes ≡ s
  pub cutting : (targets caps : List Tranches) → 0 < (answer_of (cutback_call s targets caps).answer).number
      → (cutback_call s targets caps).bytes ≡ s
  pub returning : 0 < (answer_of (return_call s).answer).number → (return_call s).bytes ≡ s
  pub writing : (m b r : ℕ) (ls : List Line) → 0 < (answer_of (write_call s m b r ls).answer).number → (write_call s m b r ls).bytes ≡ s

-- from a to z bidder b has filed the lines ls, and no other bidder's slot has changed
pub record FiledOnly (a z : Auction) (b : ℕ) (ls : List Line) : Type 0 where
  pub filed : has_filed z b ≡ true
  pub lines : slot_of z b ≡ ls
  pub others : (o : ℕ) → (o ≡ b → ⊥) → (has_filed z o ≡ has_filed a o) × (slot_of z o ≡ slot_of a o)

-- the prices of product p in a and in the auction z that a round makes of it
pub record PriceAfter (a z : Auction) (p : ℕ) : Type 0 where
  pub some : 1 ≤ price_at z p
  pub no_rise : price_at z p ≤ price_at a p
  pub fell : is_open z ≡ true → target_of (setup a) p < held z.records a.terms.bidders p
      → (price_at z p < price_at a p) × (before_at z p ≡ price_at a p)
  pub stayed : is_open z ≡ true → held z.records a.terms.bidders p ≤ target_of (setup a) p
      → (price_at z p ≡ price_at a p) × (before_at z p ≡ before_at a p)
  pub ended : is_open z ≡ false → (price_at z p ≡ price_at a p) × (before_at z p ≡ before_at a p)

-- whose decrement product p's price is worked out by: o is the override given for it, if one is. "The cut is still at least 1"
pub record PriceBy (a z : Auction) (o : Override) (p : ℕ) : Type 0 where
  pub fell : is_open z ≡ true → target_of (setup a) p < held z.records a.terms.bidders p
      → (price_at z p
      ≡ fallen (price_at a p) (decrement_by o (decrement_for a.decrements (held z.records a.terms.bidders p - target_of (setup a) p) (target_of (setup a) p))))
      × (mark_at z p ≡ one_if (is_given o))
  -- "an override on a product that isn't above target, or in a round that closes or stops, does nothing and isn't reported"
  pub stayed : is_open z ≡ true → held z.records a.terms.bidders p ≤ target_of (setup a) p → mark_at z p ≡ 0
  pub ended : is_open z ≡ false → mark_at z p ≡ 0

-- Document 02, request 2: what a round by that draw makes of the retained lots of bidder b on product p, from a to z
pub record LotsAfter (a : Auction) (draw : List ℕ) (z : Auction) (b p : ℕ) : Type 0 where
  -- on a product that ticked they are a beginning of the lots of the bid, place for place, all whole but the last, and the rest is what step 2
  -- did not keep: as a card has four lots, a record never needs a fifth
  pub beginning : ticked a p ≡ true
      → Beginning (bid_on a b p).withdrawn (place_at (after_step2 a draw).places (b * 8 + p)).leaving (record_of z b p).retained
  -- so that in each place there are no more, at the same price
  pub of_the_bid : ticked a p ≡ true → AllWithin (bid_on a b p).withdrawn (record_of z b p).retained
  -- elsewhere they are those that stood, less what was outbid
  pub of_the_record : ticked a p ≡ false → AllWithin (record_of a b p).retained (record_of z b p).retained
  -- everywhere "ordered as on a card"
  pub ordered : Ordered (record_of z b p).retained

-- what a cutback to these targets and caps makes of the auction a: nothing changes but targets, caps, g, f, p, q, marks, which are
-- dropped, and the phase where it stops; it never closes
pub record CutOnly (a z : Auction) (targets caps : List Tranches) : Type 0 where
  pub settings : setup z ≡ revised (setup a) targets caps
  pub round : z.round ≡ a.round
  pub cards : z.cards ≡ a.cards
  pub marks : (p : ℕ) → p < 8 → mark_at z p ≡ 0
  pub phase : (z.phase ≡ bids_open) ⊎ (z.phase ≡ stopped)
  pub going : (b p : ℕ) → b < 32 → p < 8 → going_in (record_of z b p) ≡ min (going_in (record_of a b p)) (given_for caps p)
  pub denied : (b p : ℕ) → b < 32 → p < 8 → denied_in (record_of z b p) ≡ denied_in (record_of a b p)
  pub retained : (b p : ℕ) → b < 32 → p < 8 → (record_of z b p).retained ≡ (record_of a b p).retained
  -- "the difference becomes its free eligibility": no bidder's g + f changes, nor its eligibility
  pub moved : (b : ℕ) → b < a.terms.bidders
      → sum_up_to (λ p. going_in (record_of z b p)) a.terms.products + free_of z b
      ≡ sum_up_to (λ p. going_in (record_of a b p)) a.terms.products + free_of a b
  pub eligible : (b : ℕ) → b < a.terms.bidders → eligibility z b ≡ eligibility a b
  pub excess : excess a ≤ excess z

-- the prices of product p after it, from the starting price: q is that price on every product, fallen or not
pub record CutPrice (a z : Auction) (p : ℕ) : Type 0 where
  pub before : before_at z p ≡ start_of (setup a) p
  pub fell : is_open z ≡ true → target_of (setup z) p < held z.records a.terms.bidders p
      → (1 ≤ price_at z p) × (price_at z p < start_of (setup a) p)
  pub stayed : is_open z ≡ true → held z.records a.terms.bidders p ≤ target_of (setup z) p → price_at z p ≡ start_of (setup a) p
  pub ended : is_open z ≡ false → price_at z p ≡ start_of (setup a) p
