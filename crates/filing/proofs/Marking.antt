-- A bit set in a number of 32 bits, within 64. Assumes nothing.
use mathlib.Core.Path.{◌≡◌, ◌∙◌}
use Prim.Native.Nat.{ℕ, ◌+◌, ◌*◌, ◌/◌, ◌%◌, ◌^◌, ◌≤◌, ◌<◌}
use native.Mathlib.Nat.{one-mul}
use native.Mathlib.Omega.{arith}
use lib.Pow.{pow_pos, shr_le, shl_exact}
use Rattle.rules.specs.Bits.{set_in}
use Rattle.rules.proofs.Bitmap.{set_in_lt}

-- the one shifted
abbrev pub one : ℕ → ℕ
one b = (1 * 2 ^ b) % 2 ^ 64

one_is : (b : ℕ) → b < 32 → one b ≡ 2 ^ b
one_is b h = shl_exact {a = 1} 1 b 64 (omega arith) (omega arith) ∙ one-mul (2 ^ b)

pub one_some : (b : ℕ) → b < 32 → 1 ≤ one b
one_some b h = rw (one_is b h) (pow_pos b)

module _ (x b : ℕ) (hx : x < 4294967296) (h : b < 32) where
  pub above_small : x / one b / 2 * 2 + 1 ≤ x + 1
  above_small = rw (one_is b h) (omega (arith, shr_le x b))

  pub is_marked_lem : (x / one b / 2 * 2 + 1) * one b + x % one b ≡ set_in x b 1
  unfolding set_in
  is_marked_lem = rw (one_is b h)

  pub mark_small : (x / one b / 2 * 2 + 1) * one b + x % one b < 4294967296
  mark_small = rw is_marked_lem (set_in_lt 32 x b 1 hx h (omega arith))
