-- The calls as values, and what they leave of a state one after the other: "Its calls alone change the state's bytes." Assumes nothing.
use Rattle.std.specs.Prelude.{◌≡◌, ◌⊎◌, List, [], ◌∷◌, ℕ, length}
use Rattle.rules.specs.Price.{Override}
use Rattle.rules.specs.declared.Tranches.{Tranches}
use Rattle.rules.specs.declared.Line.{Line}
use Rattle.rules.specs.declared.Settings.{Settings}
use Rattle.rules.specs.Calls.{open_call, file_call, calculate_call, plain_call, cutback_call, return_call}

-- every call but a return, with its inputs; read, write and the suggested volume are lent no state
pub data Call : Type 0 where
  opens : Settings → Call
  files : List ℕ → Call
  counts : Call
  calculates : List ℕ → List Override → Call
  calculates_plain : List ℕ → List Override → List ℕ → Call
  cuts : List Tranches → List Tranches → Call
  reports : ℕ → Call
  results : Call
  reads : List ℕ → ℕ → Call
  writes : List ℕ → ℕ → ℕ → ℕ → List Line → Call
  suggests : ℕ → ℕ → Call

-- the state's bytes after a call, by the call's own definition
abbrev pub after : List ℕ → Call → List ℕ
after s (opens x) = (open_call s x).bytes
after s (files c) = (file_call s c).bytes
after s counts = s
after s (calculates draw os) = (calculate_call s draw os).bytes
after s (calculates_plain draw os order) = (plain_call s draw os order).bytes
after s (cuts targets caps) = (cutback_call s targets caps).bytes
after s (reports b) = s
after s results = s
after s (reads c n) = s
after s (writes room n b r ls) = s
after s (suggests bid ratio) = s

-- settings come with arrays of their lengths
abbrev pub Sized : Call → Type 0
Sized (opens x) = (length x.eligibility ≡ 32) × (length x.row ≡ 8)
Sized (files c) = Unit {0}
Sized counts = Unit {0}
Sized (calculates draw os) = Unit {0}
Sized (calculates_plain draw os order) = Unit {0}
Sized (cuts targets caps) = Unit {0}
Sized (reports b) = Unit {0}
Sized results = Unit {0}
Sized (reads c n) = Unit {0}
Sized (writes room n b r ls) = Unit {0}
Sized (suggests bid ratio) = Unit {0}

-- a box is called and returned, in any order
pub data Use : Type 0 where
  called : (c : Call) → Sized c → Use
  returned : Use

abbrev pub used : List ℕ → List Use → List ℕ
used s [] = s
used s (called c h ∷ us) = used (after s c) us
used s (returned ∷ us) = used (return_call s).bytes us

-- t is s as it was, or what one call of the console, or a return, leaves of s
abbrev pub Called : List ℕ → List ℕ → Type 0
Called s t = (t ≡ s) ⊎ ((u : Use) × (t ≡ used s (u ∷ [])))

-- t is what some calls and returns, one after the other, leave of s
abbrev pub Reached : List ℕ → List ℕ → Type 0
Reached s t = (us : List Use) × (t ≡ used s us)
