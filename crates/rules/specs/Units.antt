-- Counters kept apart: tranches, prices of the two units, basis points. Assumes nothing.
use Rattle.std.specs.Prelude.{Bool, cond, ℕ, eqb}
use Rattle.rules.specs.declared.Tranches.{Tranches}
use Rattle.rules.specs.declared.KwhPrice.{KwhPrice}
use Rattle.rules.specs.declared.MwDayPrice.{MwDayPrice}
use Rattle.rules.specs.declared.BasisPoints.{BasisPoints}
use Rattle.rules.specs.declared.Unit.{Unit}
use Rattle.rules.specs.declared.Price.{Price}
use Rattle.rules.specs.declared.Quote.{Quote}
use Rattle.rules.specs.declared.GoingPrice.{GoingPrice}
use Rattle.rules.specs.declared.Unit.TheVariants as unit
use Rattle.rules.specs.declared.Price.TheVariants as price

abbrev pub tranches : ℕ → Tranches
tranches n = record { 0 = n }

abbrev pub points : ℕ → BasisPoints
points n = record { 0 = n }

-- "Price unit: thousandths of a cent per kWh, or cents per MW-day": 0 or 1 in the state
abbrev pub unit_number : Unit → ℕ
unit_number unit.Kwh = 0
unit_number unit.MwDay = 1

abbrev pub unit_of : Price → ℕ
unit_of (price.Kwh x) = 0
unit_of (price.MwDay x) = 1

abbrev pub amount_of : Price → ℕ
amount_of (price.Kwh x) = x.0
amount_of (price.MwDay x) = x.0

abbrev pub kwh : ℕ → KwhPrice
kwh x = record { 0 = x }

abbrev pub mw_day : ℕ → MwDayPrice
mw_day x = record { 0 = x }

-- an amount as a price of the unit
abbrev pub price_of : ℕ → ℕ → Price
price_of u x = cond (eqb u 0) (price.Kwh (kwh x)) (price.MwDay (mw_day x))

abbrev pub quote : ℕ → ℕ → Quote
quote u x = record { price = price_of u x }

-- document 02, request 1: "the price with whether it was overridden"
abbrev pub going_price : ℕ → ℕ → Bool → GoingPrice
going_price u x t = record { price = price_of u x; overridden = t }
