-- A price of a unit: its amount, and another of the same unit. Assumes nothing.
use mathlib.Core.Path.{◌≡◌, refl, ap, ap₂, ◌∙◌}
use mathlib.Core.Bool.{Bool, true, false, cond}
use Prim.Native.Nat.{ℕ}
use lib.Dec.{eqb}
use Rattle.rules.specs.declared.Price.{Price}
use Rattle.rules.specs.Units.{unit_of, amount_of, price_of}

-- an amount is the same in either unit
pub same_amount : (u x : ℕ) → amount_of (price_of u x) ≡ x
same_amount u x = by (eqb u 0)
  where
    by : (t : Bool) → amount_of (cond t (price_of 0 x) (price_of 1 x)) ≡ x
    by true = refl
    by false = refl

pub amount_of_lem : {r : Price} (u x : ℕ) → r ≡ price_of u x → amount_of r ≡ x
amount_of_lem u x e = ap amount_of e ∙ same_amount u x

same_unit : (u x y : ℕ) → price_of (unit_of (price_of u x)) y ≡ price_of u y
same_unit u x y = by (eqb u 0)
  where
    by : (t : Bool) → price_of (unit_of (cond t (price_of 0 x) (price_of 1 x))) y ≡ cond t (price_of 0 y) (price_of 1 y)
    by true = refl
    by false = refl

-- an amount in the unit of a price
pub unit_of_lem : {r : Price} (u x y : ℕ) → r ≡ price_of u x → price_of (unit_of r) y ≡ price_of u y
unit_of_lem u x y e = ap (λ r. price_of (unit_of r) y) e ∙ same_unit u x y

-- a price of that unit and amount
pub priced : {r : Price} {u v x y : ℕ} → r ≡ price_of u x → u ≡ v → x ≡ y → (r ≡ price_of v y) × (amount_of r ≡ y)
priced {r} {u} {v} {x} {y} e f g = (e ∙ ap₂ price_of f g, amount_of_lem u x e ∙ g)
