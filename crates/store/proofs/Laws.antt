-- The sum of three pieces of text. Assumes nothing.
use Prim.Native.Nat.{ℕ}
use mathlib.Core.Path.{◌≡◌}
use mathlib.Core.List.{List, [], ◌++◌}
use Rattle.sums.specs.declared.Sum.{Sum}
use Rattle.sums.specs.Sum.{Holds, sha256_digits}

-- the sum of three pieces of text, one after the other
pub three_summed : (s t u v : Sum) (a b c r : List ℕ) → Holds s [] → ((m : List ℕ) → Holds s m → Holds t (m ++ a))
    → ((m : List ℕ) → Holds t m → Holds u (m ++ b)) → ((m : List ℕ) → Holds u m → Holds v (m ++ c))
    → ((m : List ℕ) → Holds v m → r ≡ sha256_digits m) → r ≡ sha256_digits ((a ++ b) ++ c)
three_summed s t u v a b c r h f g k l = l ((a ++ b) ++ c) (k (a ++ b) (g a (f [] h)))
