-- Settings within limits, in the loaded book. Assumes nothing.
use mathlib.Core.Path.{◌≡◌, ◌∙◌, ap}
use mathlib.Core.Bool.{Bool, true}
use mathlib.Core.List.{List}
use Prim.Native.Nat.{ℕ}
use Rattle.rules.specs.declared.Setup.{Setup}
use Rattle.rules.specs.Settings.{setup, within_limits}
use Rattle.rules.specs.Layout.{loaded}
use Rattle.rules.proofs.Legal.{limits_take}
use Rattle.book.specs.Lent.{Long, Lent}

pub limits_are : (s : List ℕ) {r : Bool} {t : Setup} → r ≡ within_limits t → t ≡ setup (loaded s) → r ≡ within_limits (setup (loaded s))
limits_are s e f = e ∙ ap within_limits f

pub lent_is : (s : List ℕ) → Long s → within_limits (setup (loaded s)) ≡ true → Lent s
lent_is s h e =
    let l = limits_take (setup (loaded s)) e in
    record { long = h; counts = record { products = l.products; bidders = l.bidders; rows = l.rows } }
