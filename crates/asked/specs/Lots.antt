-- The text of lots: COUNT@PRICE, one to four of them joined by commas; - for none. Assumes nothing.
use Rattle.std.specs.Prelude.{Bool, false, cond, List, ℕ, zero, suc, ◌+◌, ◌-◌, get_or, ltb, eqb}
use Rattle.std.specs.declared.result.Result.{Result}
use Rattle.std.specs.declared.result.Result.TheVariants.{Ok, Err}
use Rattle.text.specs.declared.number.Read.{Read}
use Rattle.text.specs.declared.number.Read.TheVariants as read
use Rattle.text.specs.Lines.{between}
use Rattle.text.specs.Number.{read_word}
use Rattle.rules.specs.declared.Lots.{Lots}
use Rattle.rules.specs.declared.Lot.{Lot}
use Rattle.rules.specs.Lots.{lot, no_lots, put}
use Rattle.asked.specs.Asked.{pair_of}
use Rattle.asked.specs.declared.lots.Fault.{Fault}
use Rattle.asked.specs.declared.lots.Fault.TheVariants as fault
use Rattle.asked.specs.declared.lots.Wrong.{Wrong}

-- what is wrong, and where
abbrev pub wrong : {A : Type 0} → Fault → ℕ → Result A Wrong
wrong f p = Err (record { 0 = f; 1 = p })

-- what comes after, where nothing is wrong yet
abbrev pub and_then : {A B : Type 0} → Result A Wrong → (A → Result B Wrong) → Result B Wrong
and_then (Ok x) next = next x
and_then (Err e) next = Err e

-- the first place of the byte b from `at` on, where `left` bytes are left, or the place after them
unfoldable pub place_of : List ℕ → ℕ → ℕ → ℕ → ℕ
place_of s b at zero = at
place_of s b at (suc left) = cond (eqb (get_or s at 0) b) at (place_of s b (at + 1) left)

-- a count or a price, from a to e
abbrev pub digits_of : ℕ → Read → Result ℕ Wrong
digits_of a (read.Value n) = Ok n
digits_of a read.Large = wrong fault.Large a
digits_of a read.Other = wrong fault.NotANumber a

unfoldable pub number_in : List ℕ → ℕ → ℕ → Result ℕ Wrong
number_in s a e = cond (eqb a e) (wrong fault.NoNumber a) (digits_of a (read_word (between s a e)))

-- one lot, from a to e, with its @ at the place k
abbrev pub lot_around : List ℕ → ℕ → ℕ → ℕ → Result Lot Wrong
lot_around s a k e =
    cond (eqb k e) (wrong fault.NoLots a)
    (cond (ltb (place_of s 64 (k + 1) (e - (k + 1))) e) (wrong fault.SecondAt (place_of s 64 (k + 1) (e - (k + 1))))
    (and_then (number_in s a k) (λ n. and_then (number_in s (k + 1) e) (λ x. Ok (lot (pair_of n) x)))))

unfoldable pub lot_in : List ℕ → ℕ → ℕ → Result Lot Wrong
lot_in s a e = cond (eqb a e) (wrong fault.NoLot a) (lot_around s a (place_of s 64 a (e - a)) e)

-- where the lot that begins at a place ends: at the next comma, or at e
abbrev pub lot_end : List ℕ → ℕ → ℕ → ℕ
lot_end s at e = place_of s 44 at (e - at)

-- lots in the places from i on, `left` of them at most
unfoldable pub lots_from : List ℕ → ℕ → ℕ → ℕ → ℕ → Lots → Result Lots Wrong
lots_from s at e i zero l = wrong fault.FifthLot at
lots_from s at e i (suc left) l =
    and_then (lot_in s at (lot_end s at e))
    (λ v. cond (ltb (lot_end s at e) e) (lots_from s (lot_end s at e + 1) e (i + 1) left (put l i v)) (Ok (put l i v)))

abbrev pub is_dash : List ℕ → ℕ → ℕ → Bool
is_dash s a e = cond (eqb (e - a) 1) (eqb (get_or s a 0) 45) false

-- the whole text, from a to e
unfoldable pub lots_in : List ℕ → ℕ → ℕ → Result Lots Wrong
lots_in s a e = cond (is_dash s a e) (Ok no_lots) (lots_from s a e 0 4 no_lots)
