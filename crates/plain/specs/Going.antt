-- What each part of the plain engine is given and leaves. Assumes nothing.
use Rattle.std.specs.Prelude.{◌≡◌, List, ℕ, ◌+◌, ◌≤◌}
use Rattle.rules.specs.declared.Place.{Place}
use Rattle.rules.specs.declared.Kept.{Kept}
use Rattle.rules.specs.Accept.{every, left_of}
use Rattle.rules.specs.Keep.{kept}
use Rattle.table.specs.Drawn.{Drawn}
use Rattle.keep.specs.Work.{Working}

-- what is kept and what may yet be kept stays below what 32 bits hold
pub record Going (m n : ℕ) (drawing : List ℕ) (ps : List Place) (held turns ranks : List ℕ) (count : ℕ) : Type 0 where
  pub few : m ≤ 8
  pub draw : Drawn n drawing
  pub working : Working n ps held turns ranks
  pub small : count + every left_of ps n ≤ 83884800

-- the places and the count are those of s
pub record Gone (m n : ℕ) (drawing : List ℕ) (s : Kept) (ps : List Place) (held turns ranks : List ℕ) (count : ℕ) : Type 0 where
  pub same : kept ps count ≡ s
  pub going : Going m n drawing ps held turns ranks count
