-- What a number may be. Assumes nothing.
use Rattle.std.specs.Prelude.{Bool, ℕ}
use Rattle.rules.specs.declared.Limits.{Limits}
use Rattle.rules.specs.Settings.{between}

abbrev pub limits : ℕ → ℕ → Limits
limits least most = record { least = least; most = most }

-- from the least to the most, both with it
abbrev pub allows : Limits → ℕ → Bool
allows l x = between l.least x l.most
