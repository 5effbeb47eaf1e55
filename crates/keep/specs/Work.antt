-- One tranche kept, and the increase that it cancels, as the loop of step 2 makes them. Assumes nothing.
use Rattle.std.specs.Prelude.{◌≡◌, Bool, cond, List, ℕ, ◌+◌, ◌-◌, ◌≤◌, ◌<◌, get_or, set, length}
use Rattle.rules.specs.declared.Place.{Place}
use Rattle.rules.specs.Accept.{place_at, changed, left_of, rise_of}
use Rattle.rules.specs.Keep.{keep_step, can_keep}
use Rattle.rules.specs.Round.{drawn}
use Rattle.table.specs.Drawn.{Drawn}
use Rattle.table.specs.Room.{Fits}
use Rattle.keep.specs.declared.Loss.{Loss}
use Rattle.keep.specs.Step.{Booked, Each, Timed, turn_of, Ranked, Numbered, kept_one, cancel_some}

-- a tranche is left to keep at place k of product p
pub record Keeps (ps : List Place) (held turns : List ℕ) (k p : ℕ) : Type 0 where
  pub place : k < 256
  pub product : p < 8
  pub fits : Fits (place_at ps k)
  pub left : 0 < left_of (place_at ps k)
  pub held_long : length held ≡ 8
  pub held_small : get_or held p 0 ≤ 3840000
  pub turns_long : length turns ≡ 256

-- it is kept
pub record KeptAt (ps : List Place) (held turns : List ℕ) (k p : ℕ) (ps' : List Place) (held' turns' : List ℕ) : Type 0 where
  pub places : ps' ≡ changed kept_one ps k
  pub sums : held' ≡ set held p (get_or held p 0 + 1)
  pub times : turns' ≡ set turns k (turn_of (kept_one (place_at ps k)))
  pub timed : Timed (turn_of (kept_one (place_at ps k))) (kept_one (place_at ps k))

-- an increase may be cancelled at place k, where the loss is one
pub record Cancels (ps : List Place) (held ranks : List ℕ) (k : ℕ) (x : Loss) : Type 0 where
  pub place : k < 256
  pub product : x.product < 8
  pub long : length ps ≡ 256
  pub fits : Fits (place_at ps k)
  pub rises : 0 < x.count → 0 < rise_of (place_at ps k)
  pub held_long : length held ≡ 8
  pub some : x.count ≤ get_or held x.product 0
  pub ranks_long : length ranks ≡ 256
  pub ranked : Each Ranked ranks ps

-- it is cancelled
pub record Cancelled (ps : List Place) (held : List ℕ) (k : ℕ) (x : Loss) (ps' : List Place) (held' ranks' : List ℕ) : Type 0 where
  pub places : ps' ≡ changed (cancel_some x.count) ps k
  pub sums : held' ≡ set held x.product (get_or held x.product 0 - x.count)
  pub ranks_long : length ranks' ≡ 256
  pub ranked : Each Ranked ranks' ps'

-- the book of n bidders and the numbers that the searches look at
pub record Working (n : ℕ) (ps : List Place) (held turns ranks : List ℕ) : Type 0 where
  pub book : Booked ps held n
  pub numbers : Numbered ps turns ranks

-- what keeping one tranche on product p is given
pub record Keeping (m n : ℕ) (order : List ℕ) (ps : List Place) (held turns ranks : List ℕ) (p : ℕ) : Type 0 where
  pub few : m ≤ 8
  pub draw : Drawn n order
  pub product : p < 8
  pub working : Working n ps held turns ranks

-- and what it leaves
pub record KeptNext (m n : ℕ) (draw : List ℕ) (ps : List Place) (p : ℕ) (r : Bool) (ps' : List Place) (held' turns' ranks' : List ℕ) : Type 0 where
  pub can : r ≡ can_keep n (drawn draw) ps p
  pub places : ps' ≡ cond r (keep_step m n (drawn draw) ps p) ps
  pub working : Working n ps' held' turns' ranks'
