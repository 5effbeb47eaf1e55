-- The laws of a card's lines: put, read, and tested whether they fit. Assumes nothing.
use mathlib.Core.Path.{◌≡◌, refl, ap, ap₂, ◌∙◌}
use mathlib.Core.Logic.{inl}
use mathlib.Core.Bool.{Bool, true, false, ◌&&◌, cond, and-eq-true_iff}
use mathlib.Core.List.{List}
use Prim.Native.Nat.{ℕ, zero, suc, ◌+◌, ◌*◌, ◌≤◌, ◌<◌}
use native.Mathlib.Decide.{dec_lt}
use native.Mathlib.Omega.{arith}
use lib.ListN.{length, get_or, length-set, get_or-replicate}
use lib.Seq.{get_or-set_same, get_or-set_other}
use borrow.Author.Tests.{lt-ltb, le-ltb}
use Rattle.rules.specs.declared.Line.{Line}
use Rattle.rules.specs.Bits.{Bytes, bit_at, field_at, put_field}
use Rattle.rules.specs.Count.{all_up_to}
use Rattle.rules.specs.Lots.{lots_zero}
use Rattle.rules.specs.Card.{line, no_line, lot_bits, line_bits, line_bit, lots_from, line_at, read_lines, put_lots, put_line, put_lines, lots_fit, line_fits, line_zero}
use Rattle.rules.specs.Settings.{between}
use Rattle.rules.proofs.Allowed.{from_zero, only_zero}
use Rattle.rules.proofs.Tests.{told, shown}
use Rattle.rules.proofs.LotLaws.{zero_none}
use Rattle.card.specs.Parts.{line_writable}
use Rattle.bits.proofs.BitLaws.{field_small, Agree, field_agree, agree_field, agree_join, length_put, Outside, outside_part, put_out, field_before, field_put, bytes_put}
use Rattle.card.proofs.LotLaws.{lots_agree, agree_lots, read_lots_fit, LotsFit, lots_fit_lem, length_put_lots, bytes_put_lots, lots_out, lots_put}

-- ---- a line tested

-- in use, or past the count
pub fields_are : (t : Bool) (l : Line)
    → (between 0 l.tranches.0 (cond t 255 0)
    && (cond t (lots_fit l.withdrawn) (lots_zero l.withdrawn) && between 0 l.priority (cond t 7 0)))
    ≡ cond t (line_fits l) (line_zero l)
fields_are true l = ap₂ ◌&&◌ (from_zero l.tranches.0 255) (ap (λ t. lots_fit l.withdrawn && t) (from_zero l.priority 7))
fields_are false l = ap₂ ◌&&◌ (only_zero l.tranches.0) (ap (λ t. lots_zero l.withdrawn && t) (only_zero l.priority))

-- ---- a line read

pub line_agree : (s t : List ℕ) (at : ℕ) → Agree s t at line_bits → line_at s at ≡ line_at t at
line_agree s t at h =
    λ i.
    line (field_agree s t at 8 (λ k a l. h k (omega arith) (omega arith)) i)
    (lots_agree s t (at + 8) (λ k a l. h k (omega arith) (omega arith)) i)
    (field_agree s t (at + 8 + 4 * lot_bits) 3 (λ k a l. h k (omega arith) (omega arith)) i)

pub agree_line : (s t : List ℕ) (at : ℕ) → line_at s at ≡ line_at t at → Agree s t at line_bits
agree_line s t at e =
    agree_join s t at 8 (4 * lot_bits + 3) (agree_field s t at 8 (ap (λ (x : Line). x.tranches.0) e))
    (agree_join s t (at + 8) (4 * lot_bits) 3 (agree_lots s t (at + 8) (ap (λ (x : Line). x.withdrawn) e)) (agree_field s t (at + 8 + 4 * lot_bits) 3 (ap (λ (x : Line). x.priority) e)))

-- ---- whether a line fits

pub record Fits (l : Line) : Type 0 where
  pub tranches : l.tranches.0 < 256
  pub withdrawn : LotsFit l.withdrawn
  pub priority : l.priority < 8

pub fits : (l : Line) → line_fits l ≡ true → Fits l
fits l e = record { tranches = search told; withdrawn = lots_fit_lem l.withdrawn (search told); priority = search told }

pub zero_line : (l : Line) → line_zero l ≡ true → l ≡ no_line
zero_line l e =
    let t : l.tranches.0 ≡ 0 = search told in
    let w = zero_none l.withdrawn (search told) in
    let p : l.priority ≡ 0 = search told in
    λ i. line (t i) (w i) (p i)

-- whatever bits a line is read from, it fits
pub read_fits : (s : List ℕ) (at : ℕ) → line_fits (line_at s at) ≡ true
read_fits s at =
    let t : field_at s at 8 < 256 = field_small s at 8 in
    let w = read_lots_fit s (at + 8) in
    let p : field_at s (at + 8 + 4 * lot_bits) 3 < 8 = field_small s (at + 8 + 4 * lot_bits) 3 in
    search shown

-- each of the first n tests has passed where all have together
pub all_at : (test : ℕ → Bool) (n i : ℕ) → all_up_to test n ≡ true → i < n → test i ≡ true
unfolding all_up_to
all_at test zero i e l = absurd (omega arith)
all_at test (suc n) i e l =
    let q = (and-eq-true_iff (all_up_to test n) (test n)).0 e in
    elim (dec_lt i n) [ yes m ↦ all_at test n i q.0 m | no m ↦ let h : i ≡ n = omega (arith, m) in rw h q.1 ]

pub all_of : (test : ℕ → Bool) (n : ℕ) → ((i : ℕ) → i < n → test i ≡ true) → all_up_to test n ≡ true
unfolding all_up_to
all_of test zero h = refl
all_of test (suc n) h = rw (all_of test n (λ i l. h i (omega arith)), h n (omega arith))

-- ---- a line put

module _ (s : List ℕ) (at : ℕ) (l : Line) where
  -- the tranches put, and the lots
  abbrev s₁ : List ℕ
  s₁ = put_field s at 8 l.tranches.0

  abbrev s₂ : List ℕ
  s₂ = put_lots s₁ (at + 8) l.withdrawn

  pub length_put_line : length (put_line s at l) ≡ length s
  unfolding put_line
  length_put_line = simp (length_put, length_put_lots)

  pub bytes_put_line : Bytes s → Bytes (put_line s at l)
  unfolding put_line
  bytes_put_line h = bytes_put _ _ _ _ (bytes_put_lots _ _ _ (bytes_put _ _ _ _ h))

  -- the bits outside it stand
  pub line_out : (k : ℕ) → Outside k at line_bits → bit_at (put_line s at l) k ≡ bit_at s k
  unfolding put_line
  line_out k o =
      put_out s₂ (at + 8 + 4 * lot_bits) 3 _ k (outside_part k at line_bits (at + 8 + 4 * lot_bits) 3 o (omega arith) (omega arith))
      ∙ lots_out s₁ (at + 8) l.withdrawn k (outside_part k at line_bits (at + 8) (4 * lot_bits) o (omega arith) (omega arith))
      ∙ put_out s at 8 _ k (outside_part k at line_bits at 8 o (omega arith) (omega arith))

  -- one that fits is read back
  pub line_put : at + line_bits ≤ 8 * length s → Fits l → line_at (put_line s at l) at ≡ l
  unfolding put_line
  line_put h f = λ i. line (t i) (w i) (p i)
    where
      s₃ : List ℕ
      s₃ = put_field s₂ (at + 8 + 4 * lot_bits) 3 l.priority

      t : field_at s₃ at 8 ≡ l.tranches.0
      t =
          field_before s₂ (at + 8 + 4 * lot_bits) 3 l.priority at 8 (omega arith)
          ∙ field_agree s₂ s₁ at 8 (λ k a b. lots_out s₁ (at + 8) l.withdrawn k (inl (omega arith)))
          ∙ field_put s at 8 l.tranches.0 (omega arith) f.tranches

      w : lots_from s₃ (at + 8) ≡ l.withdrawn
      w =
          lots_agree s₃ s₂ (at + 8) (λ k a b. put_out s₂ (at + 8 + 4 * lot_bits) 3 l.priority k (inl (omega arith)))
          ∙ lots_put s₁ (at + 8) l.withdrawn (simp length_put (omega arith)) f.withdrawn

      p : field_at s₃ (at + 8 + 4 * lot_bits) 3 ≡ l.priority
      p = field_put s₂ (at + 8 + 4 * lot_bits) 3 l.priority (simp (length_put, length_put_lots) (omega arith)) f.priority

-- ---- the lines put

pub length_put_lines : (s : List ℕ) (ls : List Line) (n : ℕ) → length (put_lines s ls n) ≡ length s
unfolding put_lines
length_put_lines s ls zero = refl
length_put_lines s ls (suc n) = length_put_line (put_lines s ls n) (line_bit n) (get_or ls n no_line) ∙ length_put_lines s ls n

pub bytes_put_lines : (s : List ℕ) (ls : List Line) (n : ℕ) → Bytes s → Bytes (put_lines s ls n)
unfolding put_lines
bytes_put_lines s ls zero h = h
bytes_put_lines s ls (suc n) h = bytes_put_line (put_lines s ls n) (line_bit n) (get_or ls n no_line) (bytes_put_lines s ls n h)

pub lines_out : (s : List ℕ) (ls : List Line) (n k : ℕ) → Outside k 17 (line_bits * n) → bit_at (put_lines s ls n) k ≡ bit_at s k
unfolding put_lines
lines_out s ls zero k o = refl
lines_out s ls (suc n) k o =
    line_out (put_lines s ls n) (line_bit n) (get_or ls n no_line) k (outside_part k 17 (line_bits * suc n) (line_bit n) line_bits o (omega arith) (omega arith))
    ∙ lines_out s ls n k (outside_part k 17 (line_bits * suc n) 17 (line_bits * n) o (omega arith) (omega arith))

pub lines_put : (s : List ℕ) (ls : List Line) (n : ℕ) → line_bit n ≤ 8 * length s → ((i : ℕ) → i < n → Fits (get_or ls i no_line)) →
    (i : ℕ) → i < n → line_at (put_lines s ls n) (line_bit i) ≡ get_or ls i no_line
unfolding put_lines
lines_put s ls zero h f i l = absurd (omega arith)
lines_put s ls (suc n) h f i l =
    let t = put_lines s ls n in
    let m = get_or ls n no_line in
    elim (dec_lt i n) [
      | yes q ↦
          line_agree (put_line t (line_bit n) m) t (line_bit i) (λ k a b. line_out t (line_bit n) m k (inl (omega arith)))
          ∙ lines_put s ls n (omega arith) (λ j p. f j (omega arith)) i q
      | no q ↦
          let e : i ≡ n = omega (arith, q) in
          rw e (line_put t (line_bit n) m (omega (arith, length_put_lines s ls n)) (f n (omega arith)))
    ]

-- ---- the lines read

pub length_read : (s : List ℕ) (n : ℕ) → length (read_lines s n) ≡ 8
unfolding read_lines
length_read s zero = refl
length_read s (suc n) = simp length-set (length_read s n)

pub read_past : (s : List ℕ) (n i : ℕ) → n ≤ i → i < 8 → get_or (read_lines s n) i no_line ≡ no_line
unfolding read_lines
read_past s zero i h l = get_or-replicate 8 i no_line no_line l
read_past s (suc n) i h l =
    get_or-set_other (read_lines s n) n i (line_at s (line_bit n)) no_line (omega arith) ∙ read_past s n i (omega arith) l

pub read_at : (s : List ℕ) (n i : ℕ) → i < n → n ≤ 8 → get_or (read_lines s n) i no_line ≡ line_at s (line_bit i)
unfolding read_lines
read_at s zero i l h = absurd (omega arith)
read_at s (suc n) i l h =
    elim (dec_lt i n) [
      | yes m ↦ get_or-set_other (read_lines s n) n i (line_at s (line_bit n)) no_line (omega arith) ∙ read_at s n i m (omega arith)
      | no m ↦
          let e : i ≡ n = omega (arith, m) in
          rw e (get_or-set_same (read_lines s n) n (line_at s (line_bit n)) no_line (omega (arith, length_read s n)))
    ]

-- the lines of a card are such as can be written
pub lines_fit : (s : List ℕ) (n : ℕ) → n ≤ 8 → all_up_to (line_writable n (read_lines s n)) 8 ≡ true
lines_fit s n h = all_of (line_writable n (read_lines s n)) 8 one
  where
    one : (i : ℕ) → i < 8 → line_writable n (read_lines s n) i ≡ true
    one i l =
        elim (dec_lt i n) [
          | yes m ↦ rw (lt-ltb i n m, read_at s n i m h) (read_fits s (line_bit i))
          | no m ↦
              let p : n ≤ i = omega (arith, m) in
              rw (le-ltb i n p, read_past s n i p l)
        ]
