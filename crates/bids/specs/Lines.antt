-- The rules of a bid as tests of one product, with the record r and the line l of a bidder there. Assumes nothing.
use Rattle.std.specs.Prelude.{Bool, true, ◌&&◌, ◌||◌, cond, ℕ, ◌+◌, leb, ltb, eqb}
use Rattle.rules.specs.declared.Line.{Line}
use Rattle.rules.specs.declared.Record.{Record}
use Rattle.rules.specs.Lots.{exits_fit}
use Rattle.rules.specs.Held.{denied_in, retained_in}
use Rattle.rules.specs.Bid.{bid_in, withdrawn_in, reduction, increase}
use Rattle.bids.specs.declared.line.Kept.{Kept}

abbrev pub is_increased : Record → Line → Bool
is_increased r l = ltb 0 (increase r l)

-- no product passed
abbrev pub kept_first : Kept
kept_first = record { caps = true; ticks = true; leaves = true; exits = true; others = true; plain = true }

-- one product more, with its cap and the prices p and q, that ticked or not
abbrev pub kept_with : Kept → Record → Line → ℕ → Bool → ℕ → ℕ → Kept
kept_with t r l cap tick p q = record {
  caps = t.caps && leb (bid_in l + denied_in r + retained_in r) cap;
  ticks = t.ticks && (tick || eqb (reduction r l) 0);
  leaves = t.leaves && leb (withdrawn_in l) (reduction r l);
  exits = t.exits && exits_fit p q l.withdrawn;
  others = t.others && (is_increased r l || eqb l.priority 0);
  plain = t.plain && eqb l.priority 0;
}

-- the priority number of an increased product, 1 to 8, and 0 where there is none
abbrev pub number_of : Record → Line → ℕ
number_of r l = cond (is_increased r l && leb l.priority 8) l.priority 0
