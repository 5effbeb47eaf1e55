-- Document 02, request 11: "Quiet rounds can't go on." How long an auction can run without a price falling. Assumes nothing.
use Rattle.std.specs.Prelude.{◌≡◌, List, ◌∷◌, ◌++◌, ℕ, ◌+◌, ◌≤◌, ◌<◌, length}
use Rattle.rules.specs.declared.Settings.{Settings}
use Rattle.rules.specs.declared.Auction.{Auction}
use Rattle.rules.specs.Layout.{loaded}
use Rattle.rules.specs.Calls.{open_number}
use Rattle.rules.specs.Uses.{Call, after}
use Rattle.laws.specs.Quiet.{Quiet, denied_standing, Moves}
use Rattle.promises.specs.Runs.{run, opened_by, round_of, rounds}

-- the call c on the state s is a calculation, by either engine, and not refused
abbrev pub Calculates : List ℕ → Call → Type 0
Calculates s c = length (round_of s c) ≡ 1

-- "D + 1 further calculations"
abbrev pub further : Auction → ℕ
further a = denied_standing a + 1

-- by one of the first k calculations among the calls cs "some price falls, or the auction closes or stops": the calls split at it, and fewer
-- than k calculations were accepted before it
pub record MovesWithin (k : ℕ) (s : List ℕ) (cs : List Call) : Type 0 where
  pub before : List Call
  pub call : Call
  pub rest : List Call
  pub split : cs ≡ before ++ (call ∷ rest)
  pub calculates : Calculates (run s before) call
  pub few : length (rounds s before) < k
  pub moves : Moves (loaded (run s before)) (loaded (after (run s before) call))

-- the state s is what calls leave after an opening
pub record Played (s : List ℕ) : Type 0 where
  pub issued : List ℕ
  pub settings : Settings
  pub eligibility : length settings.eligibility ≡ 32
  pub row : length settings.row ≡ 8
  pub opens : open_number issued settings ≡ 0
  pub calls : List Call
  pub left : s ≡ run (opened_by issued settings) calls

-- in every auction, where a calculation leaves it quiet with d denied switches standing, k further ones are enough, whatever calls are made
abbrev pub Enough : ℕ → ℕ → Type 0
Enough k d =
    (s : List ℕ) → Played s → (c : Call) → Calculates s c → Quiet (loaded (after s c)) → denied_standing (loaded (after s c)) ≡ d
    → (cs : List Call) → k ≤ length (rounds (after s c) cs) → MovesWithin k (after s c) cs

-- in this one the calculation c leaves it so, d are accepted among the calls cs that follow, and by none of them does it move
pub record Reached (s : List ℕ) (c : Call) (cs : List Call) (d : ℕ) : Type 0 where
  pub played : Played s
  pub calculates : Calculates s c
  pub quiet : Quiet (loaded (after s c))
  pub denied : denied_standing (loaded (after s c)) ≡ d
  pub follow : length (rounds (after s c) cs) ≡ d
  pub unmoved : (k : ℕ) → MovesWithin k (after s c) cs → ⊥
