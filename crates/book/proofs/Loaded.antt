-- What each number of the loaded book is in the bytes. Assumes nothing.
use mathlib.Core.Path.{◌≡◌, refl, sym, ◌∙◌, ap}
use mathlib.Core.List.{List}
use Prim.Native.Nat.{ℕ, ◌+◌, ◌*◌, ◌<◌}
use native.Mathlib.Omega.{arith}
use lib.ListN.{get_or}
use Rattle.rules.specs.Count.{list_of}
use Rattle.rules.specs.Units.{tranches}
use Rattle.rules.specs.Card.{no_line}
use Rattle.rules.specs.Parts.{row, no_row}
use Rattle.rules.specs.Settings.{item, setup, target_of, cap_of, start_of, initial_of, percent_of, decrement_of}
use Rattle.rules.specs.Held.{record_at, free_of}
use Rattle.rules.specs.Bid.{price_at, before_at, mark_at}
use Rattle.rules.specs.Layout.{read1, read2, read3, read4, record_from, line_from, loaded, product_width, bidder_width, row_width, record_width, line_width, products_from, bidders_from, rows_from, records_from, bids_from}
use Rattle.rules.proofs.Lists.{list_is, list_ext}
use Rattle.rules.proofs.Parts.{target_is, cap_is, start_is, initial_is}
use Rattle.rules.proofs.Storing.{loaded_long, lane_read, seat_read, row_read, record_read, line_read}

-- a number of a lane stands j bytes on
behind : (j p : ℕ) → p * product_width + (products_from + j) ≡ p * product_width + products_from + j
behind j p = omega arith

module _ (s : List ℕ) where
  -- ---- the head

  pub phase_at : read1 s 0 ≡ (loaded s).phase
  unfolding loaded
  phase_at = refl

  pub unit_at : read1 s 1 ≡ (loaded s).terms.unit
  unfolding loaded
  unit_at = refl

  pub products_at : read1 s 2 ≡ (loaded s).terms.products
  unfolding loaded
  products_at = refl

  pub bidders_at : read1 s 3 ≡ (loaded s).terms.bidders
  unfolding loaded
  bidders_at = refl

  pub rows_at : read1 s 4 ≡ (loaded s).decrements.rows
  unfolding loaded
  rows_at = refl

  pub round_at : read2 s 5 ≡ (loaded s).round
  unfolding loaded
  round_at = refl

  pub statewide_at : read2 s 7 ≡ (loaded s).terms.statewide.0
  unfolding loaded
  statewide_at = refl

  pub filed_at : read4 s 9 ≡ (loaded s).cards.filed
  unfolding loaded
  filed_at = refl

  -- ---- one entry

  pub target_at_lem : (p : ℕ) → p < 8 → read1 s (p * product_width + products_from) ≡ target_of (setup (loaded s)) p
  target_at_lem p h = sym (target_is (loaded s) p h ∙ ap (λ l. l.target.0) (lane_read s p h))

  pub cap_at_lem : (p : ℕ) → p < 8 → read1 s (p * product_width + (products_from + 1)) ≡ cap_of (setup (loaded s)) p
  cap_at_lem p h = ap (λ k. read1 s k) (behind 1 p) ∙ sym (cap_is (loaded s) p h ∙ ap (λ l. l.cap.0) (lane_read s p h))

  pub start_at : (p : ℕ) → p < 8 → read3 s (p * product_width + (products_from + 2)) ≡ start_of (setup (loaded s)) p
  start_at p h = ap (λ k. read3 s k) (behind 2 p) ∙ sym (start_is (loaded s) p h ∙ ap (λ l. l.start) (lane_read s p h))

  pub price_at_lem : (p : ℕ) → p < 8 → read3 s (p * product_width + (products_from + 5)) ≡ price_at (loaded s) p
  price_at_lem p h = ap (λ k. read3 s k) (behind 5 p) ∙ sym (ap (λ l. l.price) (lane_read s p h))

  pub before_at_lem : (p : ℕ) → p < 8 → read3 s (p * product_width + (products_from + 8)) ≡ before_at (loaded s) p
  before_at_lem p h = ap (λ k. read3 s k) (behind 8 p) ∙ sym (ap (λ l. l.before) (lane_read s p h))

  pub mark_at_lem : (p : ℕ) → p < 8 → read1 s (p * product_width + (products_from + 11)) ≡ mark_at (loaded s) p
  mark_at_lem p h = ap (λ k. read1 s k) (behind 11 p) ∙ sym (ap (λ l. l.mark) (lane_read s p h))

  pub initial_at : (b : ℕ) → b < 32 → read2 s (b * bidder_width + bidders_from) ≡ initial_of (setup (loaded s)) b
  initial_at b h = sym (initial_is (loaded s) b h ∙ ap (λ x. x.initial.0) (seat_read s b h))

  pub free_at_lem : (b : ℕ) → b < 32 → read2 s (b * bidder_width + (bidders_from + 2)) ≡ free_of (loaded s) b
  free_at_lem b h =
      let e : b * bidder_width + (bidders_from + 2) ≡ b * bidder_width + bidders_from + 2 = omega arith in
      ap (λ k. read2 s k) e ∙ sym (ap (λ x. x.free.0) (seat_read s b h))

  pub percent_at : (i : ℕ) → i < 8 → read2 s (i * row_width + rows_from) ≡ percent_of (loaded s).decrements i
  percent_at i h = sym (ap (λ x. x.percent) (row_read s i h))

  pub decrement_at : (i : ℕ) → i < 8 → read2 s (i * row_width + (rows_from + 2)) ≡ decrement_of (loaded s).decrements i
  decrement_at i h =
      let e : i * row_width + (rows_from + 2) ≡ i * row_width + rows_from + 2 = omega arith in
      ap (λ k. read2 s k) e ∙ sym (ap (λ x. x.decrement.0) (row_read s i h))

  pub record_at_lem : (k : ℕ) → k < 256 → record_from s (k * record_width + records_from) ≡ record_at (loaded s).records k
  record_at_lem k h = sym (record_read s k h)

  pub line_at : (k : ℕ) → k < 256 → line_from s (k * line_width + bids_from) ≡ get_or (loaded s).cards.lines k no_line
  line_at k h = sym (line_read s k h)

  -- ---- the lists of the settings, entry by entry

  pub items_are : list_of (λ p. item (target_of (setup (loaded s)) p) (cap_of (setup (loaded s)) p) (start_of (setup (loaded s)) p)) 8 ≡ (setup (loaded s)).item
  items_are = list_ext _ _ 8 (λ p h. rw (target_is (loaded s) p h, cap_is (loaded s) p h, start_is (loaded s) p h) refl)

  pub eligibility_is : list_of (λ b. tranches (initial_of (setup (loaded s)) b)) 32 ≡ (setup (loaded s)).eligibility
  eligibility_is = list_ext _ _ 32 (λ b h. rw (initial_is (loaded s) b h) refl)

  pub rows_are : list_of (λ i. row (percent_of (loaded s).decrements i) (decrement_of (loaded s).decrements i)) 8 ≡ (loaded s).decrements.row
  rows_are = sym (list_is _ no_row 8 (loaded s).decrements.row (loaded_long s).row (λ i h. refl))
