-- A tranche kept leaves one fewer to keep. Assumes nothing.
use mathlib.Core.Path.{◌≡◌, refl, ◌∙◌}
use mathlib.Core.Bool.{true}
use mathlib.Core.List.{List}
use Prim.Native.Nat.{ℕ, ◌+◌, ◌*◌, ◌≤◌, ◌<◌}
use native.Mathlib.Omega.{arith}
use borrow.Author.Tests.{ltb-true}
use lib.ListN.{length, length-set}
use lib.Dec.{ltb}
use Rattle.std.specs.Prelude.{Option, None, Some}
use Rattle.rules.specs.declared.Place.{Place}
use Rattle.rules.specs.Count.{never}
use Rattle.rules.specs.Accept.{place_at, changed, every, left_of, leaving_of, moving_of, rise_of, deny, cancel}
use Rattle.rules.specs.Keep.{leaver, mover, risen, cancel_by, keep_step, can_keep}
use Rattle.rules.proofs.Sums.{best_found}
use Rattle.rules.proofs.Lists.{clash}
use Rattle.rules.proofs.Places.{every_at, every_flat}
use Rattle.rules.proofs.Keep.{retain_first, deny_next, retain_stepped}

module _ (m n : ℕ) (draw : ℕ → ℕ) (ps : List Place) (p : ℕ) (hm : m ≤ 8) (hn : n ≤ 32) (hp : p < 8) (long : length ps ≡ 256)
    (range : (i : ℕ) → i < n → draw i < n) where
  -- a cancelled increase is nothing that may be kept
  cancel_by_lem : (qs : List Place) (b : ℕ) → b < n → length qs ≡ 256 → (r : Option ℕ) → risen m qs b ≡ r
      → every left_of (cancel_by r qs b) n ≡ every left_of qs n
  cancel_by_lem qs b hb l (Some q) e =
      let f = best_found (λ p. ltb 0 (rise_of (place_at qs (b * 8 + p)))) _ m q e in
      every_flat cancel qs b q (omega (arith, f.0)) left_of refl n
  cancel_by_lem qs b hb l None e = refl

  left_by : (q r : Option ℕ) → leaver n draw ps p ≡ q → mover n draw ps p ≡ r → can_keep n draw ps p ≡ true
      → every left_of (keep_step m n draw ps p) n + 1 ≡ every left_of ps n
  left_by (Some i) r e g c =
      let f = best_found (λ i. ltb 0 (leaving_of (place_at ps (draw i * 8 + p)))) _ n i e in
      let l = range i f.0 in
      rw (retain_first m n draw ps p i e)
      (retain_stepped 8 n (omega arith) ps (draw i) p l hp (omega arith) (ltb-true _ _ f.1)).left
  left_by None (Some i) e g c =
      let f = best_found (λ i. ltb 0 (moving_of (place_at ps (draw i * 8 + p)))) never n i g in
      let l = range i f.0 in
      let some = ltb-true 0 (moving_of (place_at ps (draw i * 8 + p))) f.1 in
      let x = every_at deny ps (draw i) p (omega arith) left_of n l hp in
      let once = changed deny ps (draw i * 8 + p) in
      let y = cancel_by_lem once (draw i) l (length-set ps (draw i * 8 + p) _ ∙ long) (risen m once (draw i)) refl in
      rw (deny_next m n draw ps p i e g) (omega arith)
  left_by None None e g c = clash c (rw (e, g))

  pub one_fewer : can_keep n draw ps p ≡ true → every left_of (keep_step m n draw ps p) n + 1 ≡ every left_of ps n
  one_fewer = left_by (leaver n draw ps p) (mover n draw ps p) refl refl
