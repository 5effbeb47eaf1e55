-- What a reader that takes the fields of a card has taken, and where it then is. Assumes nothing.
use mathlib.Core.Path.{◌≡◌, refl, ap, ap₂, ◌∙◌}
use mathlib.Core.Bool.{cond}
use mathlib.Core.List.{List}
use Prim.Native.Nat.{ℕ, ◌+◌, ◌-◌, ◌*◌, ◌^◌, ◌≤◌, ◌<◌}
use native.Mathlib.Numerals.{add-one}
use native.Mathlib.Omega.{arith}
use lib.ListN.{length, set}
use lib.Dec.{eqb}
use Rattle.std.specs.Prelude.{Option, Result, Ok, Err}
use Rattle.rules.specs.declared.Refusal.{Refusal}
use Rattle.rules.specs.declared.Refusal.TheVariants.{Filling}
use Rattle.rules.specs.declared.Bid.{Bid}
use Rattle.rules.specs.declared.Lot.{Lot}
use Rattle.rules.specs.declared.Line.{Line}
use Rattle.rules.specs.Lots.{lot, lots}
use Rattle.rules.specs.Bits.{field_at}
use Rattle.rules.specs.Card.{bid_by, line, lot_bits, line_bits, line_bit, lot_from, line_at, read_lines, card_length, filled}
use Rattle.bits.specs.declared.Reader.{Reader}
use Rattle.bits.specs.Fields.{Inside, field_in, past}
use Rattle.bits.proofs.BitLaws.{field_small}
use Rattle.bits.proofs.FieldLaws.{field_in_lem, next_in}
use Rattle.card.specs.Parts.{value_of, Ahead, on}

-- a field among the m bits that lie ahead
pub within : (h : Reader) (m : ℕ) → Ahead h m → (at w : ℕ) → at + w ≤ h.at + m → w ≤ 17 → Inside h.card.now at w
within h m a at w l n = record { inside = omega arith; narrow = n; short = a.short }

-- a field inside the card is taken, and the reader is past it
pub past_on : (h : Reader) (w : ℕ) → Inside h.card.now h.at w → past h w ≡ on h w
past_on h w i j = record { card = h.card; at = next_in h.card.now h.at w i j }

pub value_in : (s : List ℕ) (at w : ℕ) (r : Option ℕ) → Inside s at w → r ≡ field_in s at w → value_of r ≡ field_at s at w
unfolding value_of
value_in s at w r i e = rw (e, field_in_lem s at w i)

pub value_below : (s : List ℕ) (at w : ℕ) (r : Option ℕ) → Inside s at w → r ≡ field_in s at w → value_of r < 2 ^ w
value_below s at w r i e = rw (value_in s at w r i e) (field_small s at w)

-- one line more
pub read_next : (s : List ℕ) (n : ℕ) → read_lines s (n + 1) ≡ set (read_lines s n) n (line_at s (line_bit n))
unfolding read_lines
read_next s n = rw (add-one n)

-- ---- a reader from field to field

-- what is still ahead of it
pub ahead_on : (h h' : Reader) (m w v : ℕ) → Ahead h m → h' ≡ on h w → w + v ≤ m → Ahead h' v
ahead_on h h' m w v a e l = rw e (record { inside = omega arith; short = a.short })

pub then_on : (h h' h'' : Reader) (m n : ℕ) → h' ≡ on h m → h'' ≡ on h' n → h'' ≡ on h (m + n)
then_on h h' h'' m n e e' =
    e' ∙ ap (λ (r : Reader). on r n) e ∙ (λ i. record { card = h.card; at = (let p : h.at + m + n ≡ h.at + (m + n) = omega arith in p) i })

-- a field of w bits, taken where they lie ahead
pub record Takes (h h' : Reader) (w : ℕ) (f : Option ℕ) : Type 0 where
  pub value : value_of f ≡ field_at h.card.now h.at w
  pub small : value_of f < 2 ^ w
  pub goes : h' ≡ on h w

pub takes : (h h' : Reader) (m w : ℕ) (f : Option ℕ) → Ahead h m → w ≤ m → w ≤ 17 → (f ≡ field_in h.card.now h.at w) × (h' ≡ past h w) → Takes h h' w f
takes h h' m w f a l n e =
    let i = within h m a h.at w (omega arith) n in
    record { value = value_in h.card.now h.at w f i e.0; small = value_below h.card.now h.at w f i e.0; goes = e.1 ∙ past_on h w i }

-- what is read at a reader's place
pub read_on : {A : Type 0} (f : List ℕ → ℕ → A) (h h' : Reader) (m n : ℕ) → h' ≡ on h m → n ≡ h.at + m → f h'.card.now h'.at ≡ f h.card.now n
read_on f h h' m n e q = rw (e, q)

-- ---- a lot, and a line

pub lot_taken : (h h₁ h₂ : Reader) (c e : Option ℕ) (r : Lot) → Takes h h₁ 8 c → Takes h₁ h₂ 17 e → r ≡ lot (value_of c) (value_of e)
    → (r ≡ lot_from h.card.now h.at) × (h₂ ≡ on h lot_bits)
lot_taken h h₁ h₂ c e r t t' p =
    (p ∙ (λ i. lot (t.value i) ((t'.value ∙ read_on (λ s at. field_at s at 17) h h₁ 8 (h.at + 8) t.goes refl) i)), then_on h h₁ h₂ 8 17 t.goes t'.goes)

-- the reader before lot k of the line that begins at h
abbrev pub AtLot : Reader → ℕ → Reader → Type 0
AtLot h k h' = h' ≡ on h (8 + k * lot_bits)

pub next_lot : (h h' h'' : Reader) (k : ℕ) → AtLot h k h' → h'' ≡ on h' lot_bits → AtLot h (k + 1) h''
next_lot h h' h'' k e e' =
    then_on h h' h'' (8 + k * lot_bits) lot_bits e e' ∙ ap (on h) (let p : 8 + k * lot_bits + lot_bits ≡ 8 + (k + 1) * lot_bits = omega arith in p)

pub lot_ahead : (h h' : Reader) (k : ℕ) → Ahead h line_bits → k < 4 → AtLot h k h' → Ahead h' lot_bits
lot_ahead h h' k a l e = ahead_on h h' line_bits (8 + k * lot_bits) lot_bits a e (omega arith)

pub priority_ahead : (h h' : Reader) → Ahead h line_bits → AtLot h 4 h' → Ahead h' 3
priority_ahead h h' a e = ahead_on h h' line_bits (8 + 4 * lot_bits) 3 a e (omega arith)

pub line_taken : (h h₁ h₂ h₃ h₄ h₅ h₆ : Reader) (c d : Option ℕ) (r₁ r₂ r₃ r₄ : Lot) (l : Line)
    → Takes h h₁ 8 c → AtLot h 0 h₁ → AtLot h 1 h₂ → AtLot h 2 h₃ → AtLot h 3 h₄ → AtLot h 4 h₅ → Takes h₅ h₆ 3 d
    → r₁ ≡ lot_from h₁.card.now h₁.at → r₂ ≡ lot_from h₂.card.now h₂.at → r₃ ≡ lot_from h₃.card.now h₃.at → r₄ ≡ lot_from h₄.card.now h₄.at
    → l ≡ line (value_of c) (lots r₁ r₂ r₃ r₄) (value_of d) → (l ≡ line_at h.card.now h.at) × (h₆ ≡ on h line_bits)
line_taken h h₁ h₂ h₃ h₄ h₅ h₆ c d r₁ r₂ r₃ r₄ l t e₁ e₂ e₃ e₄ e₅ t' p₁ p₂ p₃ p₄ p =
    (p ∙ (λ i. line (t.value i) (lots (one i) (two i) (three i) (four i)) (last i)), then_on h h₅ h₆ (8 + 4 * lot_bits) 3 e₅ t'.goes)
  where
    one : r₁ ≡ lot_from h.card.now (h.at + 8)
    one = p₁ ∙ read_on lot_from h h₁ (8 + 0 * lot_bits) (h.at + 8) e₁ (omega arith)

    two : r₂ ≡ lot_from h.card.now (h.at + 8 + lot_bits)
    two = p₂ ∙ read_on lot_from h h₂ (8 + 1 * lot_bits) (h.at + 8 + lot_bits) e₂ (omega arith)

    three : r₃ ≡ lot_from h.card.now (h.at + 8 + 2 * lot_bits)
    three = p₃ ∙ read_on lot_from h h₃ (8 + 2 * lot_bits) (h.at + 8 + 2 * lot_bits) e₃ (omega arith)

    four : r₄ ≡ lot_from h.card.now (h.at + 8 + 3 * lot_bits)
    four = p₄ ∙ read_on lot_from h h₄ (8 + 3 * lot_bits) (h.at + 8 + 3 * lot_bits) e₄ (omega arith)

    last : value_of d ≡ field_at h.card.now (h.at + 8 + 4 * lot_bits) 3
    last = t'.value ∙ read_on (λ s at. field_at s at 3) h h₅ (8 + 4 * lot_bits) (h.at + 8 + 4 * lot_bits) e₅ (omega arith)

-- ---- the lines, and the card

-- the line that is taken is stored
pub line_stored : (h h' : Reader) (i : ℕ) (ls : List Line) (r : Line) → h.at ≡ line_bit 0 → h' ≡ on h (line_bits * i)
    → ls ≡ read_lines h.card.now i → r ≡ line_at h'.card.now h'.at → set ls i r ≡ read_lines h.card.now (i + 1)
line_stored h h' i ls r z e p q =
    rw (read_next h.card.now i, p, q, read_on line_at h h' (line_bits * i) (line_bit i) e (omega arith))

-- the bidder and the round
pub record Head (h h₁ h₂ : Reader) (b r : Option ℕ) : Type 0 where
  pub bidder : Takes h h₁ 5 b
  pub round : Takes h₁ h₂ 12 r
  pub goes : h₂ ≡ on h 17

-- of a card s of n products, by a reader that begins at its first bit
module _ (s : List ℕ) (n : ℕ) (h : Reader) (eight : n ≤ 8) (long : length s ≡ card_length n) (over : h.card.now ≡ s) (starts : h.at ≡ 0) where
  card_ahead : Ahead h (8 * card_length n)
  card_ahead = record { inside = omega (arith, ap length over); short = omega (arith, ap length over) }

  pub head_taken : (h₁ h₂ : Reader) (b r : Option ℕ) → (b ≡ field_in h.card.now h.at 5) × (h₁ ≡ past h 5) → (r ≡ field_in h₁.card.now h₁.at 12) × (h₂ ≡ past h₁ 12)
      → Head h h₁ h₂ b r
  head_taken h₁ h₂ b r e e' =
      let t = takes h h₁ (8 * card_length n) 5 b card_ahead (omega arith) (omega arith) e in
      let t' = takes h₁ h₂ 12 12 r (ahead_on h h₁ (8 * card_length n) 5 12 card_ahead t.goes (omega arith)) (omega arith) (omega arith) e' in
      record { bidder = t; round = t'; goes = then_on h h₁ h₂ 5 12 t.goes t'.goes }

  pub lines_ahead : (h₂ : Reader) → h₂ ≡ on h 17 → (n ≤ 8) × (h₂.at ≡ line_bit 0) × Ahead h₂ (line_bits * n)
  lines_ahead h₂ e = (eight, rw e (omega arith), ahead_on h h₂ (8 * card_length n) 17 (line_bits * n) card_ahead e (omega arith))

  -- "Zero bits fill the last byte"
  pub card_taken : (h₁ h₂ h₃ h₄ : Reader) (b r f : Option ℕ) (w : ℕ) (k : Result Bid Refusal)
      → Head h h₁ h₂ b r → h₃ ≡ on h₂ (line_bits * n) → w ≡ 8 * card_length n - line_bit n → (f ≡ field_in h₃.card.now h₃.at w) × (h₄ ≡ past h₃ w)
      → k ≡ cond (eqb (value_of f) 0) (Ok (bid_by (value_of b) (value_of r))) (Err Filling)
      → k ≡ cond (filled s n) (Ok (bid_by (field_at s 0 5) (field_at s 5 12))) (Err Filling)
  card_taken h₁ h₂ h₃ h₄ b r f w k t e p e' q = rw (q, bidder, round, filling)
    where
      bidder : value_of b ≡ field_at s 0 5
      bidder = t.bidder.value ∙ ap₂ (λ (x : List ℕ) (y : ℕ). field_at x y 5) over starts

      round : value_of r ≡ field_at s 5 12
      round = t.round.value ∙ read_on (λ x y. field_at x y 12) h h₁ 5 5 t.bidder.goes (omega arith) ∙ ap (λ (x : List ℕ). field_at x 5 12) over

      there : h₃ ≡ on h (line_bit n)
      there = then_on h h₂ h₃ 17 (line_bits * n) t.goes e

      ahead : Ahead h₃ w
      ahead = ahead_on h h₃ (8 * card_length n) (line_bit n) w card_ahead there (omega arith)

      filling : value_of f ≡ field_at s (line_bit n) (8 * card_length n - line_bit n)
      filling =
          (takes h₃ h₄ w w f ahead (omega arith) (omega arith) e').value ∙ read_on (λ x y. field_at x y w) h h₃ (line_bit n) (line_bit n) there (omega arith)
          ∙ ap₂ (λ (x : List ℕ) (y : ℕ). field_at x (line_bit n) y) over p
