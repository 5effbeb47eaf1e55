-- A run of calls on one lent state. Assumes nothing.
use Rattle.std.specs.Prelude.{cond, List, [], ◌∷◌, ◌++◌, ℕ, min, eqb}
use Rattle.rules.specs.Price.{Override}
use Rattle.rules.specs.declared.Tranches.{Tranches}
use Rattle.rules.specs.declared.Settings.{Settings}
use Rattle.rules.specs.declared.Setup.{Setup}
use Rattle.rules.specs.declared.Auction.{Auction}
use Rattle.rules.specs.Settings.{setup, setup_of, target_of}
use Rattle.rules.specs.Held.{held}
use Rattle.rules.specs.Layout.{loaded}
use Rattle.rules.specs.Cutback.{revised}
use Rattle.rules.specs.Calls.{open_call, calculate_number, plain_number, cutback_number}
use Rattle.rules.specs.Uses.{Call, opens, files, counts, calculates, calculates_plain, cuts, reports, results, reads, writes, suggests, after}

-- "over any calls short of a return": accepted or refused, in any order
abbrev pub run : List ℕ → List Call → List ℕ
run s [] = s
run s (c ∷ cs) = run (after s c) cs

-- "From an opening": the state that an accepted opening of an issued state leaves
abbrev pub opened_by : List ℕ → Settings → List ℕ
opened_by s x = (open_call s x).bytes

-- the filled part of a product: "the lesser of its held tranches and its target"
abbrev pub filled_part : Auction → ℕ → ℕ
filled_part a p = min (held a.records a.terms.bidders p) (target_of (setup a) p)

-- ---- the rounds of a run

-- a round calculated: the auction with its cards, the draw and the overrides
pub record Round : Type 0 where
  pub auction : Auction
  pub draw : List ℕ
  pub overrides : List Override

-- one where a calculation has no number
abbrev pub round_unless : ℕ → List ℕ → List ℕ → List Override → List Round
round_unless n s draw os = cond (eqb n 0) (record { auction = loaded s; draw = draw; overrides = os } ∷ []) []

-- by which engine does not matter
abbrev pub round_of : List ℕ → Call → List Round
round_of s (opens x) = []
round_of s (files c) = []
round_of s counts = []
round_of s (calculates draw os) = round_unless (calculate_number s draw os) s draw os
round_of s (calculates_plain draw os order) = round_unless (plain_number s draw os order) s draw os
round_of s (cuts targets caps) = []
round_of s (reports b) = []
round_of s results = []
round_of s (reads c n) = []
round_of s (writes room n b r ls) = []
round_of s (suggests bid ratio) = []

-- the calculations of a run that were not refused, in their order
abbrev pub rounds : List ℕ → List Call → List Round
rounds s [] = []
rounds s (c ∷ cs) = round_of s c ++ rounds (after s c) cs

-- ---- the cutbacks of a run

-- a cutback: the revised targets and caps
pub record Cutback : Type 0 where
  pub targets : List Tranches
  pub caps : List Tranches

abbrev pub cutback_of : List ℕ → Call → List Cutback
cutback_of s (opens x) = []
cutback_of s (files c) = []
cutback_of s counts = []
cutback_of s (calculates draw os) = []
cutback_of s (calculates_plain draw os order) = []
cutback_of s (cuts targets caps) = cond (eqb (cutback_number s targets caps) 0) (record { targets = targets; caps = caps } ∷ []) []
cutback_of s (reports b) = []
cutback_of s results = []
cutback_of s (reads c n) = []
cutback_of s (writes room n b r ls) = []
cutback_of s (suggests bid ratio) = []

-- the cutbacks of a run that were not refused, in their order
abbrev pub cutbacks : List ℕ → List Call → List Cutback
cutbacks s [] = []
cutbacks s (c ∷ cs) = cutback_of s c ++ cutbacks (after s c) cs

-- "the revised numbers": the settings with the targets and caps of each cutback in its turn
abbrev pub revised_by : Setup → List Cutback → Setup
revised_by t [] = t
revised_by t (k ∷ ks) = revised_by (revised t k.targets k.caps) ks

-- the settings after the calls cs that follow an opening: those opened, where no cutback was accepted
abbrev pub settings_after : List ℕ → Settings → List Call → Setup
settings_after s x cs = revised_by (setup_of x) (cutbacks (opened_by s x) cs)
