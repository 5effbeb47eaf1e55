-- What the searches over the numbers find. Assumes nothing.
use Rattle.std.specs.Prelude.{cond, List, ℕ, ◌+◌, ◌*◌, get_or, ltb, Option, None, Some}
use Rattle.rules.specs.Count.{best_up_to}
use Rattle.table.specs.declared.Next.{Next}
use Rattle.table.specs.Next.{soonest}
use Rattle.keep.specs.declared.Best.{Best}

abbrev pub next_up_to : List ℕ → (ℕ → ℕ) → ℕ → ℕ → Next
next_up_to turns draw p n = soonest (λ i. get_or turns (draw i * 8 + p) 0) n

abbrev pub found : ℕ → ℕ → Best
found i x = record { at = i; rank = x }

-- the candidate i with the rank x: taken where it is the higher
abbrev pub higher_of : Best → ℕ → ℕ → Best
higher_of b i x = cond (ltb b.rank x) (found i x) b

abbrev pub noted : (ℕ → ℕ) → Option ℕ → Best
noted rank (Some j) = found j (rank j)
noted rank None = found 0 0

-- bidder b's product with the highest rank, and of equals the earliest; a rank of 0 is none
abbrev pub highest_up_to : List ℕ → ℕ → ℕ → Option ℕ
highest_up_to ranks b m =
    best_up_to (λ p. ltb 0 (get_or ranks (b * 8 + p) 0)) (λ p q. ltb (get_or ranks (b * 8 + q) 0) (get_or ranks (b * 8 + p) 0)) m
