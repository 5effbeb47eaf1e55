-- What a call that is made on a copy leaves of the state. Assumes nothing.
use mathlib.Core.Path.{◌≡◌, subst}
use mathlib.Core.Bool.{Bool, true, false, cond}
use mathlib.Core.Logic.{◌⊎◌, inl, inr}
use mathlib.Core.List.{List}
use Prim.Native.Nat.{ℕ}
use Rattle.calls.specs.Lines.{Made, Left, first_word}
use Rattle.text.specs.declared.Span.{Span}
use Rattle.text.specs.Words.{span_at, bytes_in}

pub kept : (s work t : List ℕ) (r : Bool) → t ≡ cond r work s → (t ≡ s) ⊎ (t ≡ work)
kept s work t true e = inr e
kept s work t false e = inl e

pub settled : (w s copy work t : List ℕ) → copy ≡ s → Made w copy work → (t ≡ s) ⊎ (t ≡ work) → Left w s t
settled w s copy work t e h (inl f) = inl (inl f)
settled w s copy work t e h (inr f) = inl (rw f (subst (λ (z : List ℕ). Made w z work) e h))

-- a command's word is the first of its line
pub named : (line s t : List ℕ) (p : Span) → p ≡ span_at line 0 → Left (bytes_in line p) s t → Left (first_word line) s t
named line s t p e h = rw (← e) h
