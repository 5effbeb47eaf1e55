-- What is past the counts in use, and the slots not filed, is 0 byte for byte. Assumes nothing.
use mathlib.Core.Path.{◌≡◌, refl, ◌∙◌, ap}
use mathlib.Core.Bool.{Bool, true, false, cond}
use mathlib.Core.Logic.{◌⊎◌, inl, inr}
use mathlib.Core.List.{List}
use Prim.Native.Nat.{ℕ, ◌+◌, ◌*◌, ◌/◌, ◌%◌, ◌≤◌, ◌<◌}
use native.Mathlib.Omega.{arith}
use borrow.Author.Tests.{ltb-true, ltb-false, le-ltb}
use lib.ListN.{get_or}
use lib.Dec.{ltb}
use Rattle.rules.specs.declared.Auction.{Auction}
use Rattle.rules.specs.Lots.{lot_zero, lots_zero}
use Rattle.rules.specs.Card.{no_line, line_zero}
use Rattle.rules.specs.Held.{place, record_at}
use Rattle.rules.specs.Bid.{on_product, has_filed, slot_of}
use Rattle.rules.specs.Layout.{read1, read2, read3, lot_read, lots_read, record_from, line_from, loaded, product_width, bidder_width, row_width, lot_width, lots_width, record_width, line_width, products_from, bidders_from, rows_from, records_from, bids_from}
use Rattle.rules.specs.Legal.{record_zero}
use Rattle.rules.specs.Stands.{Stands}
use Rattle.laws.specs.OneCall.{StandsIn, SpareZero}
use Rattle.rules.proofs.Lists.{clash, list_at, all_take}
use Rattle.rules.proofs.Parts.{target_is, cap_is, start_is, initial_is}
use Rattle.rules.proofs.Tests.{told}
use Rattle.rules.proofs.Storing.{lane_read, seat_read, row_read, record_read, line_read}
use Rattle.laws.proofs.OneCall.{stood}

-- ---- a number that is 0 is so byte for byte

module _ (s : List ℕ) where
  -- the bytes from a up to b
  abbrev Zero : ℕ → ℕ → Type 0
  Zero a b = (i : ℕ) → a ≤ i → i < b → get_or s i 0 ≡ 0

  -- a number of one byte, two runs of zeros, numbers of two bytes and of three
  zero1 : (a b : ℕ) → b ≤ a + 1 → read1 s a ≡ 0 → Zero a b
  zero1 a b h e i l u = let q : i ≡ a = omega arith in rw q e

  then : (a b c : ℕ) → Zero a b → Zero b c → Zero a c
  then a b c f g i l u = by (ltb i b) refl
    where
      by : (t : Bool) → ltb i b ≡ t → get_or s i 0 ≡ 0
      by true e = f i l (ltb-true _ _ e)
      by false e = g i (ltb-false _ _ e) u

  zero2 : (a b : ℕ) → b ≤ a + 2 → read2 s a ≡ 0 → Zero a b
  zero2 a b h e = then a (a + 1) b (zero1 a (a + 1) (omega arith) (omega arith)) (zero1 (a + 1) b (omega arith) (omega arith))

  zero3 : (a b : ℕ) → b ≤ a + 3 → read3 s a ≡ 0 → Zero a b
  zero3 a b h e =
      then a (a + 1) b (zero1 a (a + 1) (omega arith) (omega arith))
      (then (a + 1) (a + 2) b (zero1 (a + 1) (a + 2) (omega arith) (omega arith)) (zero1 (a + 2) b (omega arith) (omega arith)))

  -- a lot, four lots, a record and a line that are 0
  lot_spare : (k b : ℕ) → b ≤ k + lot_width → lot_zero (lot_read s k) ≡ true → Zero k b
  lot_spare k b h z = then _ (k + 1) _ (zero1 _ _ (omega arith) (search told)) (zero3 _ _ (omega arith) (search told))

  lots_spare : (k b : ℕ) → b ≤ k + lots_width → lots_zero (lots_read s k) ≡ true → Zero k b
  unfolding lots_read
  lots_spare k b h z =
      then _ (k + lot_width) _ (lot_spare _ _ (omega arith) (search told))
      (then _ (k + 2 * lot_width) _ (lot_spare _ _ (omega arith) (search told))
      (then _ (k + 3 * lot_width) _ (lot_spare _ _ (omega arith) (search told))
      (lot_spare _ _ (omega arith) (search told))))

  record_spare : (k : ℕ) → record_zero (record_from s k) ≡ true → Zero k (k + record_width)
  record_spare k z =
      then _ (k + 1) _ (zero1 _ _ (omega arith) (search told))
      (then _ (k + 2) _ (zero1 _ _ (omega arith) (search told))
      (lots_spare _ _ (omega arith) (search told)))

  line_spare : (k : ℕ) → line_zero (line_from s k) ≡ true → Zero k (k + line_width)
  line_spare k z =
      then _ (k + 1) _ (zero1 _ _ (omega arith) (search told))
      (then _ (k + 1 + lots_width) _ (lots_spare _ _ (omega arith) (search told))
      (zero1 _ _ (omega arith) (search told)))

-- ---- the slots

module _ (a : Auction) (S : Stands a) (b : ℕ) (hb : b < 32) where
  -- a slot past the bidders in use is not filed
  mark_by : (t : Bool) → has_filed a b ≡ t → a.terms.bidders ≤ b → t ≡ false
  mark_by true e l =
      let x = rw e at (S.slots b hb) in
      let y : b < a.terms.bidders = search told in
      absurd (let z : ⊥ = omega arith in z)
  mark_by false e l = refl

  -- no line is in a slot that is not filed, nor past the products in use
  slot_by : (p : ℕ) → p < 8 → (t : Bool) → has_filed a b ≡ t → (has_filed a b ≡ false) ⊎ (a.terms.products ≤ p)
      → line_zero (on_product (slot_of a b) p) ≡ true
  slot_by p hp true e (inl f) = clash e f
  slot_by p hp true e (inr l) =
      let x = rw e at (S.slots b hb) in
      let y = all_take (λ p. cond (ltb p a.terms.products) true (line_zero (on_product (slot_of a b) p))) 8 (search told) p hp in
      rw (le-ltb p a.terms.products l) at y
  slot_by p hp false e w =
      let x = rw e at (S.slots b hb) in
      rw (le-ltb p 0 (omega arith)) at (all_take (λ p. cond (ltb p 0) true (line_zero (on_product (slot_of a b) p))) 8 x p hp)

-- ---- a standing state

module _ (s : List ℕ) (I : StandsIn s) where
  abbrev a : Auction
  a = loaded s

  S : Stands (loaded s)
  S = stood s I

  lane_spare : (p : ℕ) → a.terms.products ≤ p → p < 8 → let k = p * product_width + products_from in Zero s k (k + product_width)
  lane_spare p l h =
      let k = p * product_width + products_from in
      let t = S.limits.no_item p l h in
      let x = S.no_price p l h in
      let e = lane_read s p h in
      then s _ (k + 1) _ (zero1 s _ _ (omega arith) (omega (arith, ap (λ i. i.target.0) e, t, target_is a p h)))
      (then s _ (k + 2) _ (zero1 s _ _ (omega arith) (omega (arith, ap (λ i. i.cap.0) e, t, cap_is a p h)))
      (then s _ (k + 5) _ (zero3 s _ _ (omega arith) (omega (arith, ap (λ i. i.start) e, t, start_is a p h)))
      (then s _ (k + 8) _ (zero3 s _ _ (omega arith) (omega (arith, ap (λ i. i.price) e, x)))
      (then s _ (k + 11) _ (zero3 s _ _ (omega arith) (omega (arith, ap (λ i. i.before) e, x)))
      (zero1 s _ _ (omega arith) (omega (arith, ap (λ i. i.mark) e, S.no_mark p l h)))))))

  seat_spare : (b : ℕ) → a.terms.bidders ≤ b → b < 32 → let k = b * bidder_width + bidders_from in Zero s k (k + bidder_width)
  seat_spare b l h =
      let k = b * bidder_width + bidders_from in
      let e = seat_read s b h in
      then s _ (k + 2) _ (zero2 s _ _ (omega arith) (omega (arith, ap (λ i. i.initial.0) e, S.limits.no_bidder b l h, initial_is a b h)))
      (zero2 s _ _ (omega arith) (omega (arith, ap (λ i. i.free.0) e, S.no_free b l h)))

  row_spare : (i : ℕ) → a.decrements.rows ≤ i → i < 8 → let k = i * row_width + rows_from in Zero s k (k + row_width)
  row_spare i l h =
      let k = i * row_width + rows_from in
      let e = row_read s i h in
      let t = S.limits.no_row i l h in
      then s _ (k + 2) _ (zero2 s _ _ (omega arith) (omega (arith, ap (λ r. r.percent) e, t.0)))
      (zero2 s _ _ (omega arith) (omega (arith, ap (λ r. r.decrement.0) e, t.1)))

  record_zero_lem : (k : ℕ) → k < 256 → (a.terms.bidders ≤ k / 8) ⊎ (a.terms.products ≤ k % 8) → record_zero (record_at a.records k) ≡ true
  record_zero_lem k h (inl l) = S.no_bidder k h l
  record_zero_lem k h (inr l) = S.no_product k h l

  line_zero_lem : (k : ℕ) → k < 256 → (has_filed a (k / 8) ≡ false) ⊎ (a.terms.products ≤ k % 8) → line_zero (line_from s (k * line_width + bids_from)) ≡ true
  line_zero_lem k h w =
      let z = slot_by a S (k / 8) (omega arith) (k % 8) (omega arith) (has_filed a (k / 8)) refl w in
      let q : k / 8 * 8 + k % 8 ≡ k = omega arith in
      let e : on_product (slot_of a (k / 8)) (k % 8) ≡ line_from s (k * line_width + bids_from) =
      list_at (λ p. get_or a.cards.lines (place (k / 8) p) no_line) no_line 8 (k % 8) (omega arith)
      ∙ ap (λ i. get_or a.cards.lines i no_line) q ∙ line_read s k h in
      rw e at z

-- every byte past the counts in use, and of the slots not filed, is 0
pub spare_zero : (s : List ℕ) → StandsIn s → SpareZero s
spare_zero s I = record {
  products = λ p j l h k. lane_spare s I p l h _ (omega arith) (omega arith);
  bidders = λ b j l h k. seat_spare s I b l h _ (omega arith) (omega arith);
  rows = λ i j l h k. row_spare s I i l h _ (omega arith) (omega arith);
  records = λ k j h w l. record_spare s (k * record_width + records_from) (rw (record_read s k h) at (record_zero_lem s I k h w)) _ (omega arith) (omega arith);
  lines = λ k j h w l. line_spare s (k * line_width + bids_from) (line_zero_lem s I k h w) _ (omega arith) (omega arith);
  marks = λ b l h. mark_by (loaded s) (stood s I) b h (has_filed (loaded s) b) refl l;
}
