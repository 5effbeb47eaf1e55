-- What each setting may be, in use or past the count. Assumes nothing.
use Rattle.std.specs.Prelude.{cond, ℕ, ◌+◌, ◌-◌, min, ltb, eqb}
use Rattle.rules.specs.declared.Limits.{Limits}
use Rattle.rules.specs.declared.Setup.{Setup}
use Rattle.rules.specs.declared.Decrements.{Decrements}
use Rattle.rules.specs.Settings.{target_of, percent_of}
use Rattle.rules.specs.Allowed.{limits}

-- "Entries past the number .. in use are 0"
abbrev pub used : ℕ → ℕ → Limits → Limits
used i n own = cond (ltb i n) own (limits 0 0)

-- "Target 1 to 200", "ranked by target, never rising"
abbrev pub ranked : Setup → ℕ → Limits
ranked t p = cond (eqb p 0) (limits 1 200) (limits 1 (min 200 (target_of t (p - 1))))

abbrev pub target_limits : Setup → ℕ → Limits
target_limits t p = used p t.terms.products (ranked t p)

-- "product load cap 1 to the target"
abbrev pub cap_limits : Setup → ℕ → Limits
cap_limits t p = used p t.terms.products (limits 1 (target_of t p))

-- "starting price 1 to 99,999"
abbrev pub start_limits : Setup → ℕ → Limits
start_limits t p = used p t.terms.products (limits 1 99999)

-- "initial eligibility 1 to the statewide cap"
abbrev pub eligibility_limits : Setup → ℕ → Limits
eligibility_limits t b = used b t.terms.bidders (limits 1 t.terms.statewide.0)

-- "percentages strictly rise, at most 60,000, the first 0"
abbrev pub rising : Decrements → ℕ → Limits
rising d i = cond (eqb i 0) (limits 0 0) (limits (percent_of d (i - 1) + 1) 60000)

abbrev pub percent_limits : Decrements → ℕ → Limits
percent_limits d i = used i d.rows (rising d i)

-- "a decrement of" the least "to 500 basis points"
abbrev pub decrement_limits : ℕ → Decrements → ℕ → Limits
decrement_limits least d i = used i d.rows (limits least 500)
