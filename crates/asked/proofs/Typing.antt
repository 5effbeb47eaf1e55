-- One more number, and each way to stop. Assumes nothing.
use mathlib.Core.Path.{◌≡◌, sym, ap, ◌∙◌}
use mathlib.Core.List.{List}
use Prim.Native.Nat.{ℕ, suc, ◌+◌, ◌-◌, ◌≤◌, ◌<◌}
use native.Mathlib.Omega.{arith}
use lib.ListN.{set}
use Rattle.text.specs.declared.Cursor.{Cursor}
use Rattle.text.specs.declared.number.Take.TheVariants as take
use Rattle.text.specs.Number.{take_at}
use Rattle.std.specs.declared.result.Result.{Result}
use Rattle.std.specs.declared.result.Result.TheVariants.{Ok, Err}
use Rattle.asked.specs.Typed.{Typed, typed, typed_from, limit_of, typed_after}

module _ (s : List ℕ) (c : Cursor) (n top : ℕ) (out : List ℕ) where
  pub one_more : (v : ℕ) (next : Cursor) → n < top → take_at s c.at ≡ take.Number v next
      → typed_from s c n (top - n) out ≡ typed_from s next (n + 1) (top - (n + 1)) (set out n v)
  unfolding typed_from
  one_more v next h e = let f : top - n ≡ suc (top - (n + 1)) = omega arith in rw (f, e)

  pub at_large : (p : ℕ) → n < top → take_at s c.at ≡ take.TooLarge p → typed_from s c n (top - n) out ≡ typed (Err p) out
  unfolding typed_from
  at_large p h e = let f : top - n ≡ suc (top - (n + 1)) = omega arith in rw (f, e)

  pub at_other : (p : ℕ) → n < top → take_at s c.at ≡ take.NotANumber p
      → typed_from s c n (top - n) out ≡ typed (Ok (n, record { at = p })) out
  unfolding typed_from
  at_other p h e = let f : top - n ≡ suc (top - (n + 1)) = omega arith in rw (f, e)

  pub at_end : n < top → take_at s c.at ≡ take.End → typed_from s c n (top - n) out ≡ typed (Ok (n, c)) out
  unfolding typed_from
  at_end h e = let f : top - n ≡ suc (top - (n + 1)) = omega arith in rw (f, e)

  pub at_limit : top ≤ n → typed_from s c n (top - n) out ≡ typed (Ok (n, c)) out
  unfolding typed_from
  at_limit h = let f : top - n ≡ 0 = omega arith in rw f

-- what is found where the reading stops is the answer
pub answered : (s : List ℕ) (c : Cursor) (n most top : ℕ) (out : List ℕ) (f : Result (ℕ × Cursor) ℕ) (ns : List ℕ) {t : Typed} → top ≡ limit_of most
    → t ≡ typed_from s c n (top - n) out → t ≡ typed f ns → (f ≡ (typed_after s c n most out).found) × (ns ≡ (typed_after s c n most out).numbers)
unfolding typed_after
answered s c n most top out f ns l e g =
    let h : typed f ns ≡ typed_from s c n (limit_of most - n) out = sym g ∙ e ∙ ap (λ k. typed_from s c n (k - n) out) l in
    (ap (λ (x : Typed). x.found) h, ap (λ (x : Typed). x.numbers) h)
