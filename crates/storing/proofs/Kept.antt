-- Bytes that are loaded and stored again are as they were. Assumes nothing.
use mathlib.Core.Path.{◌≡◌, refl, sym, ◌∙◌, ap, ap₂, subst}
use mathlib.Core.List.{List, [], ◌∷◌, ◌++◌}
use Prim.Native.Nat.{ℕ, zero, suc, ◌+◌, ◌*◌, ◌/◌, ◌%◌, ◌≤◌, ◌<◌}
use native.Mathlib.Omega.{arith}
use lib.ListN.{length, get_or, take, drop}
use lib.Seq.{drop-cons, take-add, drop-drop, take_all}
use Rattle.rules.specs.Bits.{Bytes}
use Rattle.rules.specs.Layout.{bytes_up_to, byte1, bytes2, bytes3, bytes4, head_bytes, lane_bytes, seat_bytes, row_bytes, lot_bytes, lots_bytes, record_bytes, line_bytes, stored, read1, read2, read3, read4, lot_read, lots_read, state_length, loaded, product_width, bidder_width, row_width, lot_width, lots_width, record_width, line_width, products_from, bidders_from, rows_from, records_from, bids_from}
use Rattle.rules.specs.Card.{no_line}
use Rattle.rules.specs.Parts.{lane_at, seat_at, no_row}
use Rattle.rules.specs.Held.{record_at}
use Rattle.rules.proofs.Storing.{lane_read, seat_read, row_read, record_read, line_read}
use Rattle.book.proofs.Loaded.{phase_at, unit_at, products_at, bidders_at, rows_at, round_at, statewide_at, filed_at}

-- bytes, most significant first, of the number that they make
two_digits : (x y : ℕ) → x < 256 → y < 256 → bytes2 (x * 256 + y) ≡ x ∷ y ∷ []
two_digits x y h k =
    let a : (x * 256 + y) / 256 % 256 ≡ x = omega arith in
    let b : (x * 256 + y) % 256 ≡ y = omega arith in
    rw (a, b)

three_digits : (x y z : ℕ) → x < 256 → y < 256 → z < 256 → bytes3 (x * 65536 + y * 256 + z) ≡ x ∷ y ∷ z ∷ []
three_digits x y z h k l =
    let n = x * 65536 + y * 256 + z in
    let a : n / 65536 % 256 ≡ x = omega arith in
    let b : n / 256 % 256 ≡ y = omega arith in
    let c : n % 256 ≡ z = omega arith in
    rw (a, b, c)

four_digits : (x y z u : ℕ) → x < 256 → y < 256 → z < 256 → u < 256
    → bytes4 (x * 16777216 + y * 65536 + z * 256 + u) ≡ x ∷ y ∷ z ∷ u ∷ []
four_digits x y z u h k l m =
    let n = x * 16777216 + y * 65536 + z * 256 + u in
    let a : n / 16777216 % 256 ≡ x = omega arith in
    let b : n / 65536 % 256 ≡ y = omega arith in
    let c : n / 256 % 256 ≡ z = omega arith in
    let d : n % 256 ≡ u = omega arith in
    rw (a, b, c, d)

module _ (s : List ℕ) (B : Bytes s) where
  -- x is the n bytes of s from k on
  record Stands (k n : ℕ) (x : List ℕ) : Type 0 where
    is : k + n ≤ length s → x ≡ take n (drop k s)

  on : {k m l n : ℕ} {x y : List ℕ} → Stands k m x → Stands l n y → k + m ≡ l → Stands k (m + n) (x ++ y)
  on {k} {m} {l} {n} p q e = record {
    is = λ h. rw (take-add m n (drop k s), drop-drop m k s, e) (ap₂ ◌++◌ (p.is (omega arith)) (q.is (omega arith)));
  }

  byte : (k : ℕ) → Stands k 1 (get_or s k 0 ∷ [])
  byte k = record { is = λ h. rw (drop-cons s k 0 (omega arith)) }

  -- ---- numbers that are read there

  one : (k : ℕ) {x : ℕ} → read1 s k ≡ x → Stands k 1 (byte1 x)
  one k {x} e = let a : x % 256 ≡ get_or s k 0 = omega (arith, B.small k) in rw a (byte k)

  two : (k : ℕ) {x : ℕ} → read2 s k ≡ x → Stands k 2 (bytes2 x)
  two k e = subst (Stands k 2) (sym (two_digits _ _ (B.small k) (B.small (k + 1))) ∙ ap (λ x. bytes2 x) e) (on (byte k) (byte (k + 1)) refl)

  three : (k : ℕ) {x : ℕ} → read3 s k ≡ x → Stands k 3 (bytes3 x)
  three k e =
      subst (Stands k 3) (sym (three_digits _ _ _ (B.small k) (B.small (k + 1)) (B.small (k + 2))) ∙ ap (λ x. bytes3 x) e)
      (on (on (byte k) (byte (k + 1)) refl) (byte (k + 2)) refl)

  four : (k : ℕ) {x : ℕ} → read4 s k ≡ x → Stands k 4 (bytes4 x)
  four k e =
      subst (Stands k 4) (sym (four_digits _ _ _ _ (B.small k) (B.small (k + 1)) (B.small (k + 2)) (B.small (k + 3))) ∙ ap (λ x. bytes4 x) e)
      (on (on (on (byte k) (byte (k + 1)) refl) (byte (k + 2)) refl) (byte (k + 3)) refl)

  parts : (part : ℕ → List ℕ) (w k n : ℕ) → ((i : ℕ) → i < n → Stands (i * w + k) w (part i)) → Stands k (n * w) (bytes_up_to part n)
  unfolding bytes_up_to
  parts part w k zero h = record { is = λ l. let e : 0 * w ≡ 0 = omega arith in rw e }
  parts part w k (suc n) h =
      let e : suc n * w ≡ n * w + w = omega arith in
      rw e (on (parts part w k n (λ i l. h i (omega arith))) (h n (omega arith)) (omega arith))

  lot : (k : ℕ) → Stands k lot_width (lot_bytes (lot_read s k))
  lot k = on (one k refl) (three (k + 1) refl) refl

  -- ---- the sections

  head : Stands 0 13 (head_bytes (loaded s))
  head =
      on (on (on (on (on (on (on (one 0 (phase_at s)) (one 1 (unit_at s)) refl) (one 2 (products_at s)) refl) (one 3 (bidders_at s)) refl)
      (one 4 (rows_at s)) refl) (two 5 (round_at s)) refl) (two 7 (statewide_at s)) refl) (four 9 (filed_at s)) refl

  lane : (p : ℕ) → p < 8 → Stands (p * product_width + products_from) product_width (lane_bytes (lane_at (loaded s) p))
  lane p h =
      let n = p * product_width + products_from in
      rw (lane_read s p h)
      (on (on (on (on (on (one n refl) (one (n + 1) refl) refl) (three (n + 2) refl) refl) (three (n + 5) refl) refl) (three (n + 8) refl) refl)
      (one (n + 11) refl) refl)

  seat : (b : ℕ) → b < 32 → Stands (b * bidder_width + bidders_from) bidder_width (seat_bytes (seat_at (loaded s) b))
  seat b h = let n = b * bidder_width + bidders_from in rw (seat_read s b h) (on (two n refl) (two (n + 2) refl) refl)

  row : (i : ℕ) → i < 8 → Stands (i * row_width + rows_from) row_width (row_bytes (get_or (loaded s).decrements.row i no_row))
  row i h = let n = i * row_width + rows_from in rw (row_read s i h) (on (two n refl) (two (n + 2) refl) refl)

  lots : (k : ℕ) → Stands k lots_width (lots_bytes (lots_read s k))
  unfolding lots_bytes lots_read
  lots k = on (on (on (lot k) (lot (k + lot_width)) refl) (lot (k + 2 * lot_width)) refl) (lot (k + 3 * lot_width)) refl

  entry : (k : ℕ) → k < 256 → Stands (k * record_width + records_from) record_width (record_bytes (record_at (loaded s).records k))
  entry k h =
      let n = k * record_width + records_from in
      rw (record_read s k h) (on (on (one n refl) (one (n + 1) refl) refl) (lots (n + 2)) refl)

  line : (k : ℕ) → k < 256 → Stands (k * line_width + bids_from) line_width (line_bytes (get_or (loaded s).cards.lines k no_line))
  line k h =
      let n = k * line_width + bids_from in
      rw (line_read s k h) (on (on (one n refl) (lots (n + 1)) refl) (one (n + 1 + lots_width) refl) (omega arith))

  pub kept : length s ≡ state_length → stored (loaded s) ≡ s
  unfolding stored
  kept h =
      (on (on (on (on (on head (parts (λ p. lane_bytes (lane_at (loaded s) p)) product_width products_from 8 lane) refl) (parts (λ b. seat_bytes (seat_at (loaded s) b)) bidder_width bidders_from 32 seat) refl)
      (parts (λ i. row_bytes (get_or (loaded s).decrements.row i no_row)) row_width rows_from 8 row) refl) (parts (λ k. record_bytes (record_at (loaded s).records k)) record_width records_from 256 entry) refl)
      (parts (λ k. line_bytes (get_or (loaded s).cards.lines k no_line)) line_width bids_from 256 line) refl).is (omega arith)
      ∙ take_all state_length s (omega arith)
