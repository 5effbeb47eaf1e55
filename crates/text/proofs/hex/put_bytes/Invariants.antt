use Rattle.std.proofs.Common.{◌≡◌, ◌++◌, drop}
use Rattle.text.specs.Hex.{hex_up_to}
use Rattle.text.proofs.hex.put_bytes.Given as goal

abbrev pub invariant-loop-i : goal.invariant-loop-i
invariant-loop-i l = l.out ≡ hex_up_to l.w l.i ++ drop l.i l.initial.out
