-- What a fault that is found, or not found, says of the test. Assumes nothing.
use mathlib.Core.Path.{◌≡◌, refl}
use mathlib.Core.Bool.{Bool, true, false, not}
use Rattle.rules.proofs.Lists.{clash}

pub is_found : {f : Bool} (a : Bool) → f ≡ not a → f ≡ true → a ≡ false
is_found true e h = clash h e
is_found false e h = refl

pub not_found : {f : Bool} (a : Bool) → f ≡ not a → f ≡ false → a ≡ true
not_found true e h = refl
not_found false e h = clash e h
