-- "Prove that any two outcomes satisfying a contract coincide." Assumes nothing.
use mathlib.Core.Path.{◌≡◌}
use mathlib.Core.List.{List}
use Prim.Native.Nat.{ℕ}
use Rattle.rules.specs.Answers.{Outcome, Leaves, Gives}

-- answer and bytes of a call lent bytes to write, the answer of the others
pub leaves_one : {A : Type 0} (d : Outcome A) (o k : A) (s t : List ℕ) → Leaves d o s → Leaves d k t → (o ≡ k) × (s ≡ t)
leaves_one d o k s t O K =
    let a = O.0 in
    let b = K.0 in
    let x = O.1 in
    let y = K.1 in
    (cc, cc)

pub gives_one : {A : Type 0} (d o k : A) → Gives d o → Gives d k → o ≡ k
gives_one d o k a b = cc
