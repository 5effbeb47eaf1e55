-- What a field's answer says, where the field lies inside the card. Assumes nothing.
use mathlib.Core.Path.{◌≡◌}
use mathlib.Core.List.{List}
use Prim.Native.Nat.{ℕ, ◌+◌, ◌*◌, ◌^◌, ◌≤◌, ◌<◌}
use native.Mathlib.Decide.{dec_lt}
use native.Mathlib.Omega.{arith}
use lib.ListN.{length}
use borrow.Author.Tests.{le-leb, lt-leb}
use Rattle.std.specs.Prelude.{None, Some}
use Rattle.rules.specs.Bits.{field_at}
use Rattle.bits.specs.Fields.{Inside, field_in, next_at}

pub field_in_lem : (s : List ℕ) (at w : ℕ) → Inside s at w → field_in s at w ≡ Some (field_at s at w)
unfolding field_in
field_in_lem s at w h = rw (le-leb (length s) 114 h.short, le-leb w 17 h.narrow, le-leb (at + w) (8 * length s) h.inside)

-- inside the card a reader goes past the field
pub next_in : (s : List ℕ) (at w : ℕ) → Inside s at w → next_at (field_in s at w) at w ≡ at + w
unfolding next_at
next_in s at w h = rw (field_in_lem s at w h)

-- and wherever it goes, the place is a number of the machine's
pub next_fits : (s : List ℕ) (at w : ℕ) → at < 2 ^ 64 → next_at (field_in s at w) at w < 2 ^ 64
unfolding field_in next_at
next_fits s at w h =
    elim (dec_lt 114 (length s)) [
      | yes l ↦ simp (lt-leb (length s) 114 l) h
      | no l ↦
          elim (dec_lt 17 w) [
            | yes m ↦ simp (le-leb (length s) 114 (omega (arith, l)), lt-leb w 17 m) h
            | no m ↦
                elim (dec_lt (8 * length s) (at + w)) [
                  | yes n ↦ simp (le-leb (length s) 114 (omega (arith, l)), le-leb w 17 (omega (arith, m)), lt-leb (at + w) (8 * length s) n) h
                  | no n ↦ rw (next_in s at w (record { inside = omega (arith, n); narrow = omega (arith, m); short = omega (arith, l) })) (omega (arith, l, n))
                ]
          ]
    ]

-- ---- the same, by what is tested

pub field_inside : (s : List ℕ) (at w : ℕ) → length s ≤ 114 → w ≤ 17 → at + w ≤ 8 * length s → field_in s at w ≡ Some (field_at s at w)
field_inside s at w l n i = field_in_lem s at w (record { inside = i; narrow = n; short = l })

pub field_long : (s : List ℕ) (at w : ℕ) → 114 < length s → field_in s at w ≡ None
unfolding field_in
field_long s at w h = simp (lt-leb (length s) 114 h)

pub field_wide : (s : List ℕ) (at w : ℕ) → length s ≤ 114 → 17 < w → field_in s at w ≡ None
unfolding field_in
field_wide s at w l h = simp (le-leb (length s) 114 l, lt-leb w 17 h)

pub field_beyond : (s : List ℕ) (at w : ℕ) → length s ≤ 114 → w ≤ 17 → 8 * length s < at + w → field_in s at w ≡ None
unfolding field_in
field_beyond s at w l n h = simp (le-leb (length s) 114 l, le-leb w 17 n, lt-leb (at + w) (8 * length s) h)
