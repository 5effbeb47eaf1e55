-- `bytes_at` meets its contract: byte by byte it has the bits from the place on, and what it shifts out are those after the field. Assumes nothing.
use Prim.Native.Nat.{◌+◌, ◌/◌}
use native.Mathlib.Omega.{arith}
use lib.Bits.{and_mask, and_le_r}
use Rattle.rules.specs.Bits.{field_at}
use Rattle.bits.proofs.BitLaws.{first_byte, next_byte, shifted_out}
use Rattle.bits.proofs.bytes_at.Goals as goal

pub returns-then-width-eq0 : goal.returns-then-width-eq0
unfolding field_at
returns-then-width-eq0 c = rw c.if-width-eq0.true

pub overflow_add-end : goal.overflow_add-end
overflow_add-end c = omega (arith, and_le_r c.args.at 7)

pub overflow_cast-one : goal.overflow_cast-one
overflow_cast-one c = omega (arith, c.type_inv.card (c.args.at / 8))

pub overflow_cast-one-2 : goal.overflow_cast-one-2
overflow_cast-one-2 c = omega (arith, and_le_r c.args.at 7)

pub overflow_shr-one : goal.overflow_shr-one
overflow_shr-one c = omega (arith, and_le_r c.args.at 7)

pub returns-then-end-le8 : goal.returns-then-end-le8
returns-then-end-le8 c =
    let a = c.args in
    rw (and_mask a.at 3, first_byte a.card.now a.at (c.type_inv.card (a.at / 8)).fits)
    (shifted_out a.card.now a.at a.width 1 (omega (arith, and_mask a.at 3)))

pub bounds-card-i-2 : goal.bounds-card-i-2
bounds-card-i-2 c = omega (arith, and_mask c.args.at 3)

pub overflow_cast-two : goal.overflow_cast-two
overflow_cast-two c = omega (arith, c.type_inv.card (c.args.at / 8 + 1))

pub returns-then-end-le16 : goal.returns-then-end-le16
returns-then-end-le16 c =
    let a = c.args in
    rw (
      and_mask a.at 3,
      first_byte a.card.now a.at (c.type_inv.card (a.at / 8)).fits,
      next_byte a.card.now a.at 1 (omega arith) (omega arith) (c.type_inv.card (a.at / 8 + 1)).fits,
    )
    (shifted_out a.card.now a.at a.width 2 (omega (arith, and_mask a.at 3)))

pub bounds-card-i-3 : goal.bounds-card-i-3
bounds-card-i-3 c = omega (arith, and_mask c.args.at 3)

pub overflow_cast-three : goal.overflow_cast-three
overflow_cast-three c = omega (arith, c.type_inv.card (c.args.at / 8 + 2))

pub overflow_sub-result-2 : goal.overflow_sub-result-2
overflow_sub-result-2 c = omega (arith, and_le_r c.args.at 7)

pub returns : goal.returns
returns c =
    let a = c.args in
    rw (
      and_mask a.at 3,
      first_byte a.card.now a.at (c.type_inv.card (a.at / 8)).fits,
      next_byte a.card.now a.at 1 (omega arith) (omega arith) (c.type_inv.card (a.at / 8 + 1)).fits,
      next_byte a.card.now a.at 2 (omega arith) (omega arith) (c.type_inv.card (a.at / 8 + 2)).fits,
    )
    (shifted_out a.card.now a.at a.width 3 (omega (arith, and_le_r a.at 7)))
