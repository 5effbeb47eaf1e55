-- What `load` says of the state. Assumes nothing.
use Rattle.std.specs.Prelude.{ℕ, ◌≡◌, cond, List, eqb}
use Rattle.store.specs.declared.files.Loaded.{Loaded}
use Rattle.store.specs.declared.files.Loaded.TheVariants.{Missing, Whole, Wrong, Unread}
use Rattle.layout.specs.Sections.{state_length}

-- unless the file was whole, the state is as it was
abbrev pub Kept : Loaded → List ℕ → List ℕ → Type 0
Kept Missing before after = after ≡ before
Kept Whole before after = Unit {0}
Kept Wrong before after = after ≡ before
Kept (Unread why) before after = after ≡ before

-- a file is a state's exactly where it has as many bytes as a state
abbrev pub of_length : ℕ → Loaded
of_length n = cond (eqb n state_length) Whole Wrong
