-- `put_field` meets its contract: a field put in parts, each in one byte, is the field put. Assumes nothing.
use mathlib.Core.Path.{◌∙◌}
use Prim.Native.Nat.{◌+◌, ◌-◌}
use native.Mathlib.Omega.{arith}
use lib.Bits.{bit_and, and_mask, and_le_r}
use Rattle.rules.specs.Bits.{put_field}
use Rattle.bits.proofs.BitLaws.{put_rest}
use Rattle.bits.proofs.put_field.Goals as goal

pub returns-then-width-eq0 : goal.returns-then-width-eq0
unfolding put_field
returns-then-width-eq0 c = rw c.if-width-eq0.true

pub overflow_sub-free : goal.overflow_sub-free
overflow_sub-free c = omega (arith, and_le_r c.args.at 7)

pub put_part-requires : goal.put_part-requires
put_part-requires c = omega (arith, and_mask c.args.at 3)

pub put_part-requires-2 : goal.put_part-requires-2
put_part-requires-2 c = omega (arith, and_mask c.args.at 3)

pub put_part-requires-then-left-le8 : goal.put_part-requires-then-left-le8
put_part-requires-then-left-le8 c =
    omega (arith, and_mask c.args.at 3, c.put_part-2.auto.room)

pub returns-then-left-le8 : goal.returns-then-left-le8
returns-then-left-le8 c =
    let a = c.args in
    c.put_part-then-left-le8.ensures
    ∙ rw c.put_part-2.ensures (put_rest a.room.now a.at (8 - bit_and a.at 7) a.width a.value (omega arith))

pub put_part-requires-3 : goal.put_part-requires-3
put_part-requires-3 c =
    omega (arith, and_mask c.args.at 3, c.put_part-2.auto.room)

pub put_part-requires-4 : goal.put_part-requires-4
put_part-requires-4 c =
    omega (arith, and_mask c.args.at 3, c.put_part-2.auto.room, c.put_part-3.auto.room)

pub returns : goal.returns
returns c =
    let a = c.args in
    let free = 8 - bit_and a.at 7 in
    c.put_part-4.ensures
    ∙ rw (c.put_part-3.ensures, put_rest c.put_part-2.new.room (a.at + free) 8 (a.width - free) a.value (omega arith), c.put_part-2.ensures)
    (put_rest a.room.now a.at free a.width a.value (omega arith))
