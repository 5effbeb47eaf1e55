-- A call made twice on the same bytes. Assumes nothing.
use mathlib.Core.Path.{◌≡◌}
use mathlib.Core.List.{List}
use Prim.Native.Nat.{ℕ}
use Rattle.rules.specs.Answers.{Outcome, Leaves}
use Rattle.rules.proofs.Settling.{leaves_one}

pub twice : {A : Type 0} (call : List ℕ → Outcome A) (s t : List ℕ) (o k : A) (x y : List ℕ) → s ≡ t → Leaves (call s) o x → Leaves (call t) k y → (o ≡ k) × (x ≡ y)
twice call s t o k x y e O K = leaves_one (call t) o k x y (rw e at O) K
