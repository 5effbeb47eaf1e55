-- One step of step 2, as the loop makes it: the numbers that go with the places, and what changes. Assumes nothing.
use Rattle.std.specs.Prelude.{◌≡◌, Bool, cond, ◌&&◌, List, ℕ, ◌+◌, ◌≤◌, ◌<◌, get_or, length, ltb, Option, None, Some}
use Rattle.rules.specs.declared.Place.{Place}
use Rattle.rules.specs.Held.{standing, below}
use Rattle.rules.specs.Accept.{place_at, every, held_of, left_of, leaving_of, leaving_at, moving_of, rise_of, retain, deny, cancel}
use Rattle.keep.specs.declared.Loss.{Loss}
use Rattle.held.specs.Ticks.{is_one}
use Rattle.table.specs.Next.{turn_by}
use Rattle.table.specs.Room.{Room, Sums, target_on}

-- the book of n bidders, with what is held of each product
pub record Booked (ps : List Place) (held : List ℕ) (n : ℕ) : Type 0 where
  pub room : Room ps
  pub few : n ≤ 32
  pub holds : Sums held_of held ps n

pub record Summed (ps : List Place) (held : List ℕ) (n left : ℕ) : Type 0 where
  pub holds : Sums held_of held ps n
  pub every_left : left ≡ every left_of ps n
  pub small : left ≤ 83884800

abbrev pub short_by : List ℕ → List ℕ → List ℕ → ℕ → Bool
short_by held targets ticks p = is_one ticks p && below (standing (get_or held p 0) (target_on targets p))

-- ---- the numbers that go with the places

abbrev pub Each : (ℕ → Place → Type 0) → List ℕ → List Place → Type 0
Each R vs ps = (k : ℕ) → k < 256 → R (get_or vs k 0) (place_at ps k)

abbrev pub turn_of : Place → ℕ
turn_of l = turn_by (ltb 0 (leaving_of l)) (leaving_at l) (ltb 0 (moving_of l)) 4294967296

-- the turn of withdrawals is the lowest exit price of their lots, which is below every switch's turn
pub record Timed (v : ℕ) (l : Place) : Type 0 where
  pub turn : v ≡ turn_of l
  pub exit : leaving_at l ≤ 4294967295

abbrev pub rank_by : Bool → ℕ → ℕ
rank_by rises k = cond rises (k + 1) 0

abbrev pub rank_of : Place → ℕ
rank_of l = rank_by (ltb 0 (rise_of l)) l.priority

abbrev pub Ranked : ℕ → Place → Type 0
Ranked v l = v ≡ rank_of l

pub record Numbered (ps : List Place) (turns ranks : List ℕ) : Type 0 where
  pub turns_long : length turns ≡ 256
  pub timed : Each Timed turns ps
  pub ranks_long : length ranks ≡ 256
  pub ranked : Each Ranked ranks ps

-- ---- the changes

abbrev pub kept_one : Place → Place
kept_one l = cond (ltb 0 (leaving_of l)) (retain l) (deny l)

abbrev pub loss_of : ℕ → ℕ → Loss
loss_of p c = record { product = p; count = c }

abbrev pub loss_at : Option ℕ → Loss
loss_at (Some p) = loss_of p 1
loss_at None = loss_of 0 0

abbrev pub loss_by : ℕ → Option ℕ → Loss
loss_by turn q = cond (ltb turn 4294967296) (loss_of 0 0) (loss_at q)

abbrev pub cancel_some : ℕ → Place → Place
cancel_some c l = cond (ltb 0 c) (cancel l) l
