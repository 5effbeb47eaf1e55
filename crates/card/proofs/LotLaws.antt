-- The laws of a card's lots: put, read, and tested whether they fit. Assumes nothing.
use mathlib.Core.Path.{◌≡◌, refl, ap, ap₂, ◌∙◌}
use mathlib.Core.Logic.{inl}
use mathlib.Core.Bool.{Bool, true, false, ◌&&◌, cond}
use mathlib.Core.List.{List}
use Prim.Native.Nat.{ℕ, ◌+◌, ◌*◌, ◌≤◌, ◌<◌}
use native.Mathlib.Omega.{arith}
use lib.ListN.{length}
use Rattle.rules.specs.declared.Lot.{Lot}
use Rattle.rules.specs.declared.Lots.{Lots}
use Rattle.rules.specs.Bits.{Bytes, bit_at, field_at, put_field}
use Rattle.rules.specs.Lots.{lot, lots, count_of, lot_zero, lots_zero}
use Rattle.rules.specs.Card.{lot_bits, lot_from, lots_from, put_lot, put_lots, lot_fits, lots_fit}
use Rattle.rules.specs.Settings.{between}
use Rattle.rules.proofs.Allowed.{from_zero, only_zero}
use Rattle.rules.proofs.Tests.{told, shown}
use Rattle.bits.proofs.BitLaws.{field_small, Agree, field_agree, agree_field, agree_join, length_put, Outside, outside_part, put_out, field_before, field_put, bytes_put}

-- ---- tested: in use, or past the count

pub lot_is : (t : Bool) (l : Lot)
    → (between 0 (count_of l) (cond t 255 0) && between 0 l.exit (cond t 131071 0)) ≡ cond t (lot_fits l) (lot_zero l)
lot_is true l = ap₂ ◌&&◌ (from_zero (count_of l) 255) (from_zero l.exit 131071)
lot_is false l = ap₂ ◌&&◌ (only_zero (count_of l)) (only_zero l.exit)

pub lots_are : (t : Bool) (l : Lots)
    → (cond t (lot_fits l.one) (lot_zero l.one)
    && (cond t (lot_fits l.two) (lot_zero l.two)
    && (cond t (lot_fits l.three) (lot_zero l.three) && cond t (lot_fits l.four) (lot_zero l.four))))
    ≡ cond t (lots_fit l) (lots_zero l)
lots_are true l = refl
lots_are false l = refl

-- ---- one lot

lot_agree : (s t : List ℕ) (at : ℕ) → Agree s t at lot_bits → lot_from s at ≡ lot_from t at
lot_agree s t at h =
    λ i.
    lot (field_agree s t at 8 (λ k a l. h k (omega arith) (omega arith)) i)
    (field_agree s t (at + 8) 17 (λ k a l. h k (omega arith) (omega arith)) i)

agree_lot : (s t : List ℕ) (at : ℕ) → lot_from s at ≡ lot_from t at → Agree s t at lot_bits
agree_lot s t at e =
    agree_join s t at 8 17 (agree_field s t at 8 (ap (λ (x : Lot). count_of x) e)) (agree_field s t (at + 8) 17 (ap (λ (x : Lot). x.exit) e))

-- whatever bits a lot is read from, it fits
read_lot_fits : (s : List ℕ) (at : ℕ) → lot_fits (lot_from s at) ≡ true
read_lot_fits s at =
    let n : field_at s at 8 < 256 = field_small s at 8 in
    let x : field_at s (at + 8) 17 < 131072 = field_small s (at + 8) 17 in
    search shown

pub record LotFits (l : Lot) : Type 0 where
  pub count : count_of l < 256
  pub exit : l.exit < 131072

lot_fits_lem : (l : Lot) → lot_fits l ≡ true → LotFits l
lot_fits_lem l e = record { count = search told; exit = search told }

module _ (s : List ℕ) (at : ℕ) (l : Lot) where
  length_put_lot : length (put_lot s at l) ≡ length s
  unfolding put_lot
  length_put_lot = simp length_put

  bytes_put_lot : Bytes s → Bytes (put_lot s at l)
  unfolding put_lot
  bytes_put_lot h = bytes_put _ _ _ _ (bytes_put _ _ _ _ h)

  -- the bits outside it stand
  lot_out : (k : ℕ) → Outside k at lot_bits → bit_at (put_lot s at l) k ≡ bit_at s k
  unfolding put_lot
  lot_out k o =
      put_out _ (at + 8) 17 _ k (outside_part k at lot_bits (at + 8) 17 o (omega arith) (omega arith))
      ∙ put_out s at 8 _ k (outside_part k at lot_bits at 8 o (omega arith) (omega arith))

  -- so that a lot before it is read as it was
  lot_before : (b : ℕ) → b + lot_bits ≤ at → lot_from (put_lot s at l) b ≡ lot_from s b
  lot_before b h = lot_agree (put_lot s at l) s b (λ k a c. lot_out k (inl (omega arith)))

  -- one that fits is read back
  lot_put : at + lot_bits ≤ 8 * length s → LotFits l → lot_from (put_lot s at l) at ≡ l
  unfolding put_lot
  lot_put h f = λ i. lot (n i) (x i)
    where
      t : List ℕ
      t = put_field s at 8 (count_of l)

      n : field_at (put_field t (at + 8) 17 l.exit) at 8 ≡ count_of l
      n = field_before t (at + 8) 17 l.exit at 8 (omega arith) ∙ field_put s at 8 (count_of l) (omega arith) f.count

      x : field_at (put_field t (at + 8) 17 l.exit) (at + 8) 17 ≡ l.exit
      x = field_put t (at + 8) 17 l.exit (simp length_put (omega arith)) f.exit

-- ---- four lots

pub lots_agree : (s t : List ℕ) (at : ℕ) → Agree s t at (4 * lot_bits) → lots_from s at ≡ lots_from t at
lots_agree s t at h =
    λ i.
    lots (lot_agree s t at (λ k a l. h k (omega arith) (omega arith)) i)
    (lot_agree s t (at + lot_bits) (λ k a l. h k (omega arith) (omega arith)) i)
    (lot_agree s t (at + 2 * lot_bits) (λ k a l. h k (omega arith) (omega arith)) i)
    (lot_agree s t (at + 3 * lot_bits) (λ k a l. h k (omega arith) (omega arith)) i)

pub agree_lots : (s t : List ℕ) (at : ℕ) → lots_from s at ≡ lots_from t at → Agree s t at (4 * lot_bits)
agree_lots s t at e =
    agree_join s t at (3 * lot_bits) lot_bits
    (agree_join s t at (2 * lot_bits) lot_bits
    (agree_join s t at lot_bits lot_bits (agree_lot s t at (ap (λ (x : Lots). x.one) e)) (agree_lot s t (at + lot_bits) (ap (λ (x : Lots). x.two) e)))
    (agree_lot s t (at + 2 * lot_bits) (ap (λ (x : Lots). x.three) e)))
    (agree_lot s t (at + 3 * lot_bits) (ap (λ (x : Lots). x.four) e))

pub read_lots_fit : (s : List ℕ) (at : ℕ) → lots_fit (lots_from s at) ≡ true
read_lots_fit s at =
    let one = read_lot_fits s at in
    let two = read_lot_fits s (at + lot_bits) in
    let three = read_lot_fits s (at + 2 * lot_bits) in
    let four = read_lot_fits s (at + 3 * lot_bits) in
    search shown

pub record LotsFit (l : Lots) : Type 0 where
  pub one : LotFits l.one
  pub two : LotFits l.two
  pub three : LotFits l.three
  pub four : LotFits l.four

pub lots_fit_lem : (l : Lots) → lots_fit l ≡ true → LotsFit l
lots_fit_lem l e =
    record { one = lot_fits_lem _ (search told); two = lot_fits_lem _ (search told); three = lot_fits_lem _ (search told); four = lot_fits_lem _ (search told) }

module _ (s : List ℕ) (at : ℕ) (l : Lots) where
  -- the first put, the second, the third
  abbrev s₁ : List ℕ
  s₁ = put_lot s at l.one

  abbrev s₂ : List ℕ
  s₂ = put_lot s₁ (at + lot_bits) l.two

  abbrev s₃ : List ℕ
  s₃ = put_lot s₂ (at + 2 * lot_bits) l.three

  pub length_put_lots : length (put_lots s at l) ≡ length s
  unfolding put_lots
  length_put_lots = simp length_put_lot

  pub bytes_put_lots : Bytes s → Bytes (put_lots s at l)
  unfolding put_lots
  bytes_put_lots h = bytes_put_lot _ _ _ (bytes_put_lot _ _ _ (bytes_put_lot _ _ _ (bytes_put_lot _ _ _ h)))

  pub lots_out : (k : ℕ) → Outside k at (4 * lot_bits) → bit_at (put_lots s at l) k ≡ bit_at s k
  unfolding put_lots
  lots_out k o =
      lot_out s₃ (at + 3 * lot_bits) l.four k (outside_part k at (4 * lot_bits) (at + 3 * lot_bits) lot_bits o (omega arith) (omega arith))
      ∙ lot_out s₂ (at + 2 * lot_bits) l.three k (outside_part k at (4 * lot_bits) (at + 2 * lot_bits) lot_bits o (omega arith) (omega arith))
      ∙ lot_out s₁ (at + lot_bits) l.two k (outside_part k at (4 * lot_bits) (at + lot_bits) lot_bits o (omega arith) (omega arith))
      ∙ lot_out s at l.one k (outside_part k at (4 * lot_bits) at lot_bits o (omega arith) (omega arith))

  -- those that fit are read back
  pub lots_put : at + 4 * lot_bits ≤ 8 * length s → LotsFit l → lots_from (put_lots s at l) at ≡ l
  unfolding put_lots
  lots_put h f = λ i. lots (one i) (two i) (three i) (four i)
    where
      s₄ : List ℕ
      s₄ = put_lot s₃ (at + 3 * lot_bits) l.four

      one : lot_from s₄ at ≡ l.one
      one =
          lot_before s₃ (at + 3 * lot_bits) l.four at (omega arith) ∙ lot_before s₂ (at + 2 * lot_bits) l.three at (omega arith)
          ∙ lot_before s₁ (at + lot_bits) l.two at (omega arith) ∙ lot_put s at l.one (omega arith) f.one

      two : lot_from s₄ (at + lot_bits) ≡ l.two
      two =
          lot_before s₃ (at + 3 * lot_bits) l.four (at + lot_bits) (omega arith)
          ∙ lot_before s₂ (at + 2 * lot_bits) l.three (at + lot_bits) (omega arith)
          ∙ lot_put s₁ (at + lot_bits) l.two (simp length_put_lot (omega arith)) f.two

      three : lot_from s₄ (at + 2 * lot_bits) ≡ l.three
      three =
          lot_before s₃ (at + 3 * lot_bits) l.four (at + 2 * lot_bits) (omega arith)
          ∙ lot_put s₂ (at + 2 * lot_bits) l.three (simp length_put_lot (omega arith)) f.three

      four : lot_from s₄ (at + 3 * lot_bits) ≡ l.four
      four = lot_put s₃ (at + 3 * lot_bits) l.four (simp length_put_lot (omega arith)) f.four
