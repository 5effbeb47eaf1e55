-- "Calculating", step 1: "Take all bids as accepted." Assumes nothing.
use Rattle.std.specs.Prelude.{List, ℕ, ◌+◌, ◌*◌, ◌-◌, ◌/◌, ◌%◌, get_or, set}
use Rattle.rules.specs.declared.Lots.{Lots}
use Rattle.rules.specs.declared.Line.{Line}
use Rattle.rules.specs.declared.Record.{Record}
use Rattle.rules.specs.declared.Place.{Place}
use Rattle.rules.specs.declared.Auction.{Auction}
use Rattle.rules.specs.Count.{sum_up_to, list_of}
use Rattle.rules.specs.Units.{tranches}
use Rattle.rules.specs.Lots.{no_lots, total, first_used, lowest, take_first}
use Rattle.rules.specs.Held.{entry, nothing, denied_in, held_in, kept_in, retained, denied, cancelled, deemed, switch_outbid, withdrawal_outbid}
use Rattle.rules.specs.Bid.{bid_in, withdrawn_in, reduction, increase, record_of, bid_on}

-- a record; withdrawals of this bid not kept, by lot; switches not denied; increases not cancelled; priority
abbrev pub at : Record → Lots → ℕ → ℕ → ℕ → Place
at r l s i k = record { holds = r; leaving = l; moving = tranches s; rise = tranches i; priority = k }

abbrev pub nowhere : Place
nowhere = at nothing no_lots 0 0 0

abbrev pub place_at : List Place → ℕ → Place
place_at ps k = get_or ps k nowhere

abbrev pub changed : (Place → Place) → List Place → ℕ → List Place
changed u ps k = set ps k (u (place_at ps k))

abbrev pub leaving_of : Place → ℕ
leaving_of l = total l.leaving

-- the lowest exit price of them
abbrev pub leaving_at : Place → ℕ
leaving_at l = lowest l.leaving

abbrev pub moving_of : Place → ℕ
moving_of l = l.moving.0

abbrev pub rise_of : Place → ℕ
rise_of l = l.rise.0

abbrev pub held_of : Place → ℕ
held_of l = held_in l.holds

abbrev pub kept_of : Place → ℕ
kept_of l = kept_in l.holds

-- reductions of this bid that step 2 may yet keep
abbrev pub left_of : Place → ℕ
left_of l = leaving_of l + moving_of l

abbrev pub with_record : (Record → Record) → Place → Place
with_record u l = at (u l.holds) l.leaving (moving_of l) (rise_of l) l.priority

-- ---- the changes of one place

-- one of the lowest price goes from the card's lot to the same lot of the record
abbrev pub retain : Place → Place
retain l =
    at (retained l.holds (first_used l.leaving) (leaving_at l)) (take_first l.leaving) (moving_of l) (rise_of l) l.priority

abbrev pub deny : Place → Place
deny l = at (denied l.holds) l.leaving (moving_of l - 1) (rise_of l) l.priority

abbrev pub cancel : Place → Place
cancel l = at (cancelled l.holds) l.leaving (moving_of l) (rise_of l - 1) l.priority

abbrev pub deem : Place → Place
deem l = with_record deemed l

abbrev pub outbid_switch : Place → Place
outbid_switch l = with_record switch_outbid l

abbrev pub outbid_withdrawal : Place → Place
outbid_withdrawal l = with_record withdrawal_outbid l

-- ---- the bids accepted

-- b in the place of g; "Withdrawn counts say which reductions are withdrawals; the other reductions are switches."
abbrev pub accepted : Record → Line → Place
accepted r l =
    at (entry (bid_in l) (denied_in r) r.retained) l.withdrawn (reduction r l - withdrawn_in l) (increase r l) l.priority

abbrev pub accepted_all : Auction → List Place
accepted_all a = list_of (λ k. accepted (record_of a (k / 8) (k % 8)) (bid_on a (k / 8) (k % 8))) 256

-- ---- sums: over the first n bidders on product p, the first m products of bidder b, all places of n bidders

abbrev pub column : (Place → ℕ) → List Place → ℕ → ℕ → ℕ
column f ps p n = sum_up_to (λ b. f (place_at ps (b * 8 + p))) n

abbrev pub row_of : (Place → ℕ) → List Place → ℕ → ℕ → ℕ
row_of f ps b m = sum_up_to (λ p. f (place_at ps (b * 8 + p))) m

abbrev pub every : (Place → ℕ) → List Place → ℕ → ℕ
every f ps n = sum_up_to (λ k. f (place_at ps k)) (n * 8)
