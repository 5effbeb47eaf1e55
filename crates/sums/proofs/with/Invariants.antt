-- `with` meets its contract: a turn is one byte more (`Laws.step`). Assumes nothing.
use Rattle.std.proofs.Common.{◌≡◌, ℕ, List, ◌++◌, length, take}
use Rattle.sums.specs.Sum.{Holds}
use Rattle.sums.proofs.Laws.{sum_of}
use Rattle.sums.proofs.with.Given as goal

abbrev pub invariant-loop-byte : goal.invariant-loop-byte
invariant-loop-byte l = (length l.block ≡ 64)
    × ((m : List ℕ) → Holds (sum_of l.initial.words l.initial.block l.initial.count) m → Holds (sum_of l.words l.block l.count) (m ++ take l.byte-index l.bytes))
