-- `put_part` meets its contract: what it stores is the byte with the part in it. Assumes nothing.
use Prim.Native.Nat.{◌-◌, ◌/◌, ◌%◌}
use Rattle.std.proofs.Common.{rules}
use native.Mathlib.Omega.{arith}
use lib.ListN.{get_or}
use lib.Bits.{and_mask, and_le_r}
use Rattle.rules.specs.Bits.{Bytes}
use Rattle.bits.proofs.BitLaws.{one_shl, part_put, part_byte, part_in_lem}
use Rattle.bits.proofs.put_part.Goals as goal

pub overflow_sub-after : goal.overflow_sub-after
overflow_sub-after c = omega (arith, and_le_r c.args.at 7)

pub overflow_sub-after-2 : goal.overflow_sub-after-2
overflow_sub-after-2 c = omega (arith, and_mask c.args.at 3)

pub overflow_sub-below : goal.overflow_sub-below
overflow_sub-below c = one_shl _ (omega arith)

pub overflow_sub-room : goal.overflow_sub-room
overflow_sub-room c = one_shl c.args.width (omega arith)

pub overflow_cast-room-3 : goal.overflow_cast-room-3
overflow_cast-room-3 c =
    let a = c.args in
    let h = c.requires in
    let b : Bytes a.room.now = record { small = λ k. search rules } in
    let e = part_in_lem (get_or a.room.now (a.at / 8) 0) (8 - a.at % 8 - a.width) a.width a.value (b.small (a.at / 8)) (omega arith) in
    record { fits = rw (and_mask a.at 3, e) (part_byte a.room.now a.at a.width a.value h.inside h.one b) }

pub returns : goal.returns
returns c =
    let a = c.args in
    let h = c.requires in
    let b : Bytes a.room.now = record { small = λ k. search rules } in
    let e = part_in_lem (get_or a.room.now (a.at / 8) 0) (8 - a.at % 8 - a.width) a.width a.value (b.small (a.at / 8)) (omega arith) in
    rw (and_mask a.at 3, e) (part_put a.room.now a.at a.width a.value h.inside h.one)
