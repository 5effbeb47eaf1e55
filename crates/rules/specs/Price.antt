-- "Next price of a product above target", and document 02, request 1: "A price override for the manager." Assumes nothing.
use Rattle.std.specs.Prelude.{Bool, true, false, ◌&&◌, cond, ℕ, zero, suc, ◌+◌, ◌*◌, ◌-◌, ◌/◌, max, leb, ℤ, Option, None, Some, is_some}
use Rattle.rules.specs.declared.BasisPoints.{BasisPoints}
use Rattle.rules.specs.declared.Price.{Price}
use Rattle.rules.specs.declared.Decrements.{Decrements}
use Rattle.rules.specs.declared.Limits.{Limits}
use Rattle.rules.specs.Units.{unit_of, amount_of, price_of}
use Rattle.rules.specs.Settings.{percent_of, decrement_of}
use Rattle.rules.specs.Allowed.{limits, allows}
use Rattle.rules.specs.Held.{above, above_zero}

-- "its decrement is that of the last row not above it": of the first n rows
abbrev pub decrement_up_to : Decrements → ℕ → ℕ → ℕ
decrement_up_to d pct zero = 0
decrement_up_to d pct (suc n) = cond (leb (percent_of d n) pct) (decrement_of d n) (decrement_up_to d pct n)

-- "percentage = 100 x standing / target, rounded down"
abbrev pub decrement_for : Decrements → ℕ → ℕ → ℕ
decrement_for d over target = decrement_up_to d (100 * over / target) d.rows

-- "the cut is p x decrement / 10,000, rounded half up, at least 1"
abbrev pub cut_of : ℕ → ℕ → ℕ
cut_of p decrement = max 1 ((p * decrement + 5000) / 10000)

abbrev pub fallen : ℕ → ℕ → ℕ
fallen p decrement = p - cut_of p decrement

-- the same of a price of either unit
abbrev pub price_fallen : Price → ℕ → Price
price_fallen x decrement = price_of (unit_of x) (fallen (amount_of x) decrement)

-- ---- the manager's decrement

-- "an optional decrement"
abbrev pub Override : Type 0
Override = Option BasisPoints

-- none given is not 0
abbrev pub is_given : Override → Bool
is_given o = is_some o

-- "an optional decrement of 1 to 1,000 basis points"
abbrev pub override_limits : Limits
override_limits = limits 1 1000

abbrev pub override_fits : Override → Bool
override_fits None = true
override_fits (Some x) = allows override_limits x.0

-- the one given, or the table's
abbrev pub decrement_by : Override → ℕ → ℕ
decrement_by None d = d
decrement_by (Some x) d = x.0

-- "the price with whether it was overridden"
pub record Worked : Type 0 where
  pub price : ℕ
  pub overridden : Bool

-- "Next price of a product above target"; "Other prices stay." "Let the working-out of one price take an optional decrement .. and
-- answer the price with whether it was overridden"; "an override on a product that isn't above target .. does nothing and isn't reported"
abbrev pub next_price : Decrements → Override → ℤ → ℕ → ℕ → Worked
next_price d o z target p = record {
  price = cond (above z) (fallen p (decrement_by o (decrement_for d (above_zero z) target))) p;
  overridden = above z && is_given o;
}

-- q, "the price .. before its latest fall"
abbrev pub next_before : ℤ → ℕ → ℕ → ℕ
next_before z p q = cond (above z) p q
