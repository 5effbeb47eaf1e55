use Prim.Native.Nat.{ℕ}
use mathlib.Core.Bool.{Bool, true, false, cond}
use mathlib.Core.List.{List}
use mathlib.Core.Path.{◌≡◌}
use Rattle.store.proofs.boxed.keep.Goals as goal

taken : (kept : Bool) (work before : List ℕ) → kept ≡ true → work ≡ cond kept work before
taken kept work before e = rw e

left : (kept : Bool) (work before : List ℕ) → kept ≡ false → before ≡ cond kept work before
left kept work before e = rw e

pub returns-in-Wrong : goal.returns-in-Wrong
returns-in-Wrong g c = search left

pub returns-then-done : goal.returns-then-done
returns-then-done g c = search taken

pub returns-else-done : goal.returns-else-done
returns-else-done g c = search left
