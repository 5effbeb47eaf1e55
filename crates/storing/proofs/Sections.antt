-- The state with one section written over. Assumes nothing.
use mathlib.Core.Path.{◌≡◌, refl, sym, ◌∙◌, ap, ap₂}
use mathlib.Core.List.{List, [], ◌++◌, append-nil, append_assoc}
use Prim.Native.Nat.{ℕ, zero, suc, ◌+◌, ◌*◌, ◌-◌, ◌≤◌, ◌<◌}
use native.Mathlib.Omega.{arith}
use lib.ListN.{length, get_or, take, drop, replicate, length-append, length-drop, length-replicate, take-append-drop, drop_of_length-le, get_or-replicate, replicate-append-replicate}
use lib.Seq.{sets, sets-eq, length-take-le, take-add}
use Rattle.rules.specs.declared.Tranches.{Tranches}
use Rattle.rules.specs.declared.Quote.{Quote}
use Rattle.rules.specs.declared.Line.{Line}
use Rattle.rules.specs.declared.Record.{Record}
use Rattle.rules.specs.declared.Auction.{Auction}
use Rattle.rules.specs.declared.Setup.{Setup}
use Rattle.rules.specs.declared.Place.{Place}
use Rattle.rules.specs.Card.{no_line}
use Rattle.rules.specs.Parts.{tranches_at, no_lane, lane_at, priced, marked, limited, no_seat, seat_at, reseated, no_row, with_phase, with_round, with_lanes, with_prices, with_marks, unmarked, with_limits, with_free, with_records}
use Rattle.rules.specs.Held.{record_at, nothing}
use Rattle.rules.specs.Accept.{place_at}
use Rattle.rules.specs.Calls.{opened}
use Rattle.rules.specs.Layout.{state_length, byte1, bytes2, bytes3, bytes4, bytes_up_to, head_bytes, lane_bytes, seat_bytes, row_bytes, lots_bytes, record_bytes, line_bytes, stored, head_width, product_width, bidder_width, row_width, record_width, line_width, products_from, bidders_from, rows_from, records_from, bids_from}
use Rattle.rules.proofs.Lists.{list_at, list_ext}
use Rattle.rules.proofs.Storing.{parts_long, record_wide, line_wide}
use Rattle.storing.specs.Written.{with_filed, with_lines, with_slot, without_lines, amount_at, records_in, each}
use Rattle.storing.proofs.Each.{section, parts_append}

-- ---- the head

module _ (a : Auction) (x : ℕ) where
  pub phase_written : sets (stored a) 0 (byte1 x) ≡ stored (with_phase a x)
  unfolding stored
  phase_written = refl

  pub round_written : sets (stored a) 5 (bytes2 x) ≡ stored (with_round a x)
  unfolding stored
  round_written = refl

  pub filed_written : sets (stored a) 9 (bytes4 x) ≡ stored (with_filed a x)
  unfolding stored
  filed_written = refl

-- ---- where a section stands: what is before it, and what is after it

longer : (x : List ℕ) (part : ℕ → List ℕ) (w m n : ℕ) → ((k : ℕ) → length (part k) ≡ w) → length x ≡ m
    → length (x ++ bytes_up_to part n) ≡ m + n * w
longer x part w m n wide e = length-append x (bytes_up_to part n) ∙ ap₂ ◌+◌ e (parts_long part w wide n)

-- six sections, split before and after one of them
module _ (h p b r e l : List ℕ) where
  at_lanes : h ++ p ++ b ++ r ++ e ++ l ≡ h ++ (p ++ (b ++ r ++ e ++ l))
  at_lanes = simp append_assoc

  at_seats : h ++ p ++ b ++ r ++ e ++ l ≡ h ++ p ++ (b ++ (r ++ e ++ l))
  at_seats = simp append_assoc

module _ (a : Auction) where
  abbrev lane_part : ℕ → List ℕ
  lane_part p = lane_bytes (lane_at a p)

  abbrev seat_part : ℕ → List ℕ
  seat_part b = seat_bytes (seat_at a b)

  abbrev row_part : ℕ → List ℕ
  row_part i = row_bytes (get_or a.decrements.row i no_row)

  abbrev to_lanes : List ℕ
  to_lanes = head_bytes a ++ bytes_up_to lane_part 8

  abbrev to_seats : List ℕ
  to_seats = to_lanes ++ bytes_up_to seat_part 32

  abbrev to_rows : List ℕ
  to_rows = to_seats ++ bytes_up_to row_part 8

  abbrev records_part : List ℕ
  records_part = bytes_up_to (λ k. record_bytes (record_at a.records k)) 256

  abbrev lines_part : List ℕ
  lines_part = bytes_up_to (λ k. line_bytes (get_or a.cards.lines k no_line)) 256

  lanes_long : length to_lanes ≡ bidders_from
  lanes_long = longer (head_bytes a) lane_part product_width products_from 8 (λ k. refl) refl

  seats_long : length to_seats ≡ rows_from
  seats_long = longer to_lanes seat_part bidder_width bidders_from 32 (λ k. refl) lanes_long

  rows_long : length to_rows ≡ records_from
  rows_long = longer to_seats row_part row_width rows_from 8 (λ k. refl) seats_long

  records_long : length (to_rows ++ records_part) ≡ bids_from
  records_long = longer to_rows (λ k. record_bytes (record_at a.records k)) record_width records_from 256
      (λ k. record_wide (record_at a.records k)) rows_long

  lanes_in : stored a ≡ head_bytes a ++ (bytes_up_to lane_part 8 ++ (bytes_up_to seat_part 32 ++ bytes_up_to row_part 8 ++ records_part ++ lines_part))
  unfolding stored
  lanes_in = at_lanes (head_bytes a) (bytes_up_to lane_part 8) (bytes_up_to seat_part 32) (bytes_up_to row_part 8) records_part lines_part

  seats_in : stored a ≡ to_lanes ++ (bytes_up_to seat_part 32 ++ (bytes_up_to row_part 8 ++ records_part ++ lines_part))
  unfolding stored
  seats_in = at_seats (head_bytes a) (bytes_up_to lane_part 8) (bytes_up_to seat_part 32) (bytes_up_to row_part 8) records_part lines_part

  records_in_lem : stored a ≡ to_rows ++ (records_part ++ lines_part)
  unfolding stored
  records_in_lem = append_assoc to_rows records_part lines_part

  lines_in : stored a ≡ to_rows ++ records_part ++ (lines_part ++ [])
  unfolding stored
  lines_in = ap (λ l. to_rows ++ records_part ++ l) (sym (append-nil lines_part))

-- ---- one section anew

-- written over from its first byte on, bytes of the same length are all that is left
over : (x vs : List ℕ) (w : ℕ) → length x ≡ w → length vs ≡ w → sets x 0 vs ≡ vs
over x vs w e f =
    let h : length x ≤ 0 + length vs = omega arith in
    sets-eq vs x 0 (omega arith) ∙ rw drop_of_length-le (append-nil vs)

record_over : (r q : Record) → sets (record_bytes r) 0 (record_bytes q) ≡ record_bytes q
record_over r q = over (record_bytes r) (record_bytes q) record_width (record_wide r) (record_wide q)

line_over : (l m : Line) → sets (line_bytes l) 0 (line_bytes m) ≡ line_bytes m
line_over l m = over (line_bytes l) (line_bytes m) line_width (line_wide l) (line_wide m)

module _ (a : Auction) where
  pub free_written : (fs : List Tranches) → each (λ b. bytes2 (tranches_at fs b)) (bidders_from + 2) bidder_width 32 (stored a) ≡ stored (with_free a (tranches_at fs))
  free_written fs =
      let z = with_free a (tranches_at fs) in
      section (seat_part a) (seat_part z) (λ b. bytes2 (tranches_at fs b)) bidder_width 2 32 (λ i. refl) (λ i. refl)
      (λ i. omega arith) (λ i h. rw (list_at (λ b. reseated (seat_at a b) (tranches_at fs b)) no_seat 32 i h))
      (to_lanes a) (bidders_from + 2) (omega (arith, lanes_long a)) _ (seats_in a) (seats_in z)

  pub prices_written : (ps qs : List Quote)
      → each (λ p. bytes3 (amount_at ps p) ++ bytes3 (amount_at qs p)) (products_from + 5) product_width 8 (stored a)
      ≡ stored (with_prices a (amount_at ps) (amount_at qs))
  prices_written ps qs =
      let z = with_prices a (amount_at ps) (amount_at qs) in
      section (lane_part a) (lane_part z) _ product_width 5 8 (λ i. refl) (λ i. refl) (λ i. omega arith)
      (λ i h. rw (list_at (λ p. priced (lane_at a p) (amount_at ps p) (amount_at qs p)) no_lane 8 i h))
      (head_bytes a) (products_from + 5) refl _ (lanes_in a) (lanes_in z)

  pub marks_written : (ms : List ℕ)
      → each (λ p. byte1 (get_or ms p 0)) (products_from + 11) product_width 8 (stored a) ≡ stored (with_marks a (λ p. get_or ms p 0))
  marks_written ms =
      let z = with_marks a (λ p. get_or ms p 0) in
      section (lane_part a) (lane_part z) (λ p. byte1 (get_or ms p 0)) product_width 11 8 (λ i. refl) (λ i. refl) (λ i. omega arith)
      (λ i h. rw (list_at (λ p. marked (lane_at a p) (get_or ms p 0)) no_lane 8 i h))
      (head_bytes a) (products_from + 11) refl _ (lanes_in a) (lanes_in z)

  pub marks_gone : with_marks a (λ p. get_or (replicate 8 0) p 0) ≡ unmarked a
  marks_gone = ap (with_lanes a) (list_ext _ _ 8 (λ p h. ap (marked (lane_at a p)) (get_or-replicate 8 p 0 0 h)))

  pub limits_written : (ts cs : List Tranches)
      → each (λ p. byte1 (tranches_at ts p) ++ byte1 (tranches_at cs p)) products_from product_width 8 (stored a)
      ≡ stored (with_limits a (tranches_at ts) (tranches_at cs))
  limits_written ts cs =
      let z = with_limits a (tranches_at ts) (tranches_at cs) in
      section (lane_part a) (lane_part z) _ product_width 0 8 (λ i. refl) (λ i. refl) (λ i. omega arith)
      (λ i h. rw (list_at (λ p. limited (lane_at a p) (tranches_at ts p) (tranches_at cs p)) no_lane 8 i h))
      (head_bytes a) products_from refl _ (lanes_in a) (lanes_in z)

  pub records_written : (ps : List Place)
      → each (λ k. record_bytes (place_at ps k).holds) records_from record_width 256 (stored a) ≡ stored (with_records a (records_in ps))
  records_written ps =
      let z = with_records a (records_in ps) in
      section (λ k. record_bytes (record_at a.records k)) (λ k. record_bytes (record_at z.records k)) _ record_width 0 256
      (λ i. record_wide (record_at a.records i)) (λ i. record_wide (record_at z.records i)) (λ i. omega (arith, record_wide (place_at ps i).holds)) (λ i h. rw (list_at _ nothing 256 i h) (record_over (record_at a.records i) (place_at ps i).holds)) (to_rows a) records_from (omega (arith, rows_long a)) _ (records_in_lem a) (records_in_lem z)

  pub lines_gone : each (λ k. line_bytes no_line) bids_from line_width 256 (stored a) ≡ stored (without_lines a)
  lines_gone =
      let z = without_lines a in
      section (λ k. line_bytes (get_or a.cards.lines k no_line)) (λ k. line_bytes (get_or z.cards.lines k no_line)) _ line_width 0 256
      (λ i. line_wide (get_or a.cards.lines i no_line)) (λ i. line_wide (get_or z.cards.lines i no_line)) (λ i. omega (arith, line_wide no_line)) (λ i h. rw (get_or-replicate 256 i no_line no_line h) (line_over (get_or a.cards.lines i no_line) no_line)) (to_rows a ++ records_part a) bids_from (omega (arith, records_long a)) []
      (lines_in a) (lines_in z)

-- ---- a slot

-- eight lines between those before and those after
module _ (a : Auction) (u v x w : List Line) (m n : ℕ) (before : length u ≡ m) (old : length v ≡ 8) (new : length x ≡ 8)
    (all : m + 8 + n ≡ 256) where
  abbrev part : List Line → ℕ → List ℕ
  part ls k = line_bytes (get_or ls k no_line)

  wide : (ls : List Line) (k : ℕ) → length (part ls k) ≡ line_width
  wide ls k = line_wide (get_or ls k no_line)

  split : (y : List Line) → length y ≡ 8
      → bytes_up_to (part (u ++ y ++ w)) 256 ≡ bytes_up_to (part u) m ++ (bytes_up_to (part y) 8 ++ bytes_up_to (part w) n)
  split y e =
      rw (← all)
      (parts_append (λ l. line_bytes l) no_line (u ++ y) w (m + 8) n (omega (arith, length-append u y))
      ∙ ap (λ t. t ++ bytes_up_to (part w) n) (parts_append (λ l. line_bytes l) no_line u y m 8 before)
      ∙ append_assoc (bytes_up_to (part u) m) (bytes_up_to (part y) 8) (bytes_up_to (part w) n))

  abbrev front : List ℕ
  front = to_rows a ++ records_part a

  stands : (y : List Line) → length y ≡ 8
      → stored (with_lines a (u ++ y ++ w)) ≡ front ++ bytes_up_to (part u) m ++ (bytes_up_to (part y) 8 ++ bytes_up_to (part w) n)
  unfolding stored
  stands y e =
      ap (λ t. front ++ t) (split y e) ∙ sym (append_assoc front (bytes_up_to (part u) m) (bytes_up_to (part y) 8 ++ bytes_up_to (part w) n))

  middle : each (part x) (m * line_width + bids_from) line_width 8 (stored (with_lines a (u ++ v ++ w))) ≡ stored (with_lines a (u ++ x ++ w))
  middle =
      section (part v) (part x) (part x) line_width 0 8 (wide v) (wide x) (λ i. omega (arith, wide x i)) (λ i h. line_over (get_or v i no_line) (get_or x i no_line))
      (front ++ bytes_up_to (part u) m) (m * line_width + bids_from) (omega (arith, longer front (part u) line_width bids_from m (wide u) (records_long a)))
      (bytes_up_to (part w) n) (stands v old) (stands x new)

pub slot_written : (a : Auction) (b : ℕ) (ls : List Line) → b < 32 → length ls ≡ 8 → length a.cards.lines ≡ 256
    → each (λ p. line_bytes (get_or ls p no_line)) (b * 8 * line_width + bids_from) line_width 8 (stored a) ≡ stored (with_slot a b ls)
slot_written a b ls h e l =
    let m = b * 8 in
    let u = take m a.cards.lines in
    let v = take 8 (drop m a.cards.lines) in
    let w = drop (m + 8) a.cards.lines in
    let p : a.cards.lines ≡ u ++ v ++ w = sym (take-append-drop (m + 8) a.cards.lines) ∙ ap (λ x. x ++ w) (take-add m 8 a.cards.lines) in
    let q : sets a.cards.lines m ls ≡ u ++ ls ++ w = sets-eq ls a.cards.lines m (omega arith) ∙ ap (λ k. u ++ ls ++ drop (m + k) a.cards.lines) e in
    ap (λ x. each (λ p. line_bytes (get_or ls p no_line)) (m * line_width + bids_from) line_width 8 (stored (with_lines a x))) p
    ∙ middle a u v ls w m (256 - (m + 8)) (length-take-le m a.cards.lines (omega arith))
    (length-take-le 8 (drop m a.cards.lines) (simp length-drop (omega arith))) e (omega arith)
    ∙ ap (λ x. stored (with_lines a x)) (sym q)

-- ---- an auction opened on bytes that are all zero

pub zero_long : {s : List ℕ} → s ≡ replicate state_length 0 → length s ≡ state_length
zero_long e = ap length e ∙ length-replicate {A = ℕ} state_length 0

zeros_are : (part : ℕ → List ℕ) (w n : ℕ) → ((k : ℕ) → k < n → part k ≡ replicate w 0) → bytes_up_to part n ≡ replicate (n * w) 0
unfolding bytes_up_to
zeros_are part w zero h = let e : 0 * w ≡ 0 = omega arith in rw e
zeros_are part w (suc n) h =
    let e : suc n * w ≡ n * w + w = omega arith in
    rw e (ap₂ ◌++◌ (zeros_are part w n (λ k l. h k (omega arith))) (h n (omega arith)) ∙ replicate-append-replicate (n * w) w 0)

-- parts written behind x, where m zeros are left
onto : (part : ℕ → List ℕ) (w : ℕ) → ((k : ℕ) → length (part k) ≡ w) → (x : List ℕ) (k n m : ℕ) → length x ≡ k
    → each part k w n (x ++ replicate (n * w + m) 0) ≡ x ++ bytes_up_to part n ++ replicate m 0
onto part w wide x k n m e =
    section (λ i. replicate w 0) part part w 0 n (λ i. length-replicate w 0) wide (λ i. omega (arith, wide i))
    (λ i h. over (replicate w 0) (part i) w (length-replicate w 0) (wide i)) x k (omega arith) (replicate m 0)
    (ap (λ z. x ++ z) (
    sym (replicate-append-replicate (n * w) m 0) ∙ ap (λ z. z ++ replicate m 0) (sym (zeros_are (λ i. replicate w 0) w n (λ i h. refl)))))
    (append_assoc x (bytes_up_to part n) (replicate m 0))

-- nine bytes of the head are the first of them, and the bitmap is left
first : (h : List ℕ) → length h ≡ 9 → sets (replicate state_length 0) 0 h ≡ h ++ replicate 4 0 ++ replicate (state_length - head_width) 0
unfolding each bytes_up_to
first h e =
    let n = state_length - head_width in
    onto (λ k. h) 9 (λ k. e) [] 0 1 (state_length - 9) refl
    ∙ ap (λ z. h ++ z) (sym (replicate-append-replicate 4 n 0)) ∙ sym (append_assoc h (replicate 4 0) (replicate n 0))

module _ (t : Setup) where
  no_records : records_part (opened t) ≡ replicate (256 * record_width) 0
  unfolding opened lots_bytes
  no_records = zeros_are _ record_width 256 (λ k h. ap (λ r. record_bytes r) (get_or-replicate 256 k nothing nothing h))

  no_lines : lines_part (opened t) ≡ replicate (256 * line_width) 0
  unfolding opened lots_bytes
  no_lines = zeros_are _ line_width 256 (λ k h. ap (λ l. line_bytes l) (get_or-replicate 256 k no_line no_line h))

  pub opened_written : {s s₁ s₂ s₃ s₄ : List ℕ} → s ≡ replicate state_length 0 → s₁ ≡ sets s 0 (take 9 (head_bytes (opened t)))
      → s₂ ≡ each (lane_part (opened t)) products_from product_width 8 s₁ → s₃ ≡ each (seat_part (opened t)) bidders_from bidder_width 32 s₂
      → s₄ ≡ each (λ i. row_bytes (get_or t.decrements.row i no_row)) rows_from row_width 8 s₃ → s₄ ≡ stored (opened t)
  unfolding stored opened
  opened_written e e₁ e₂ e₃ e₄ =
      let o = opened t in
      let f₁ = e₁ ∙ ap (λ s. sets s 0 (take 9 (head_bytes o))) e ∙ first (take 9 (head_bytes o)) refl in
      let f₂ = e₂ ∙ ap (each (lane_part o) products_from product_width 8) f₁
      ∙ onto (lane_part o) product_width (λ k. refl) (head_bytes o) products_from 8 (state_length - bidders_from) refl in
      let f₃ = e₃ ∙ ap (each (seat_part o) bidders_from bidder_width 32) f₂
      ∙ onto (seat_part o) bidder_width (λ k. refl) (to_lanes o) bidders_from 32 (state_length - rows_from) (lanes_long o) in
      let f₄ = e₄ ∙ ap (each (row_part o) rows_from row_width 8) f₃
      ∙ onto (row_part o) row_width (λ k. refl) (to_seats o) rows_from 8 (state_length - records_from) (seats_long o) in
      f₄ ∙ ap (λ z. to_rows o ++ z) (sym (ap₂ ◌++◌ no_records no_lines ∙ replicate-append-replicate (256 * record_width) (256 * line_width) 0))
      ∙ sym (append_assoc (to_rows o) (records_part o) (lines_part o))
