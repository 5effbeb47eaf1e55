-- Cards one after the other, worked out in round 1 of setting S. Assumes nothing.
use mathlib.Core.Path.{◌≡◌, refl, sym, ◌∙◌, ap}
use mathlib.Core.List.{List, [], ◌∷◌, map}
use Prim.Native.Nat.{ℕ, zero, suc, ◌<◌}
use native.Mathlib.Omega.{arith}
use lib.ListN.{get_or, replicate}
use Rattle.rules.specs.declared.Refusal.TheVariants.{NoBidder}
use Rattle.std.specs.Prelude.{Ok, Err}
use Rattle.rules.specs.Count.{all_up_to, from}
use Rattle.rules.specs.Bits.{Bytes, field_at, bit_at}
use Rattle.rules.specs.Lots.{in_order, exits_fit}
use Rattle.rules.specs.Settings.{setup_of}
use Rattle.rules.specs.Card.{read_lines, read_card}
use Rattle.rules.specs.Bid.{judged}
use Rattle.rules.specs.Calls.{opened, card_number, bidder_on, file_number, file_call}
use Rattle.rules.proofs.Storing.{stored_bytes}
use Rattle.laws.proofs.Opening.{blank}
use Rattle.laws.proofs.OneCall.{open_bytes}
use Rattle.promises.specs.Entry.{bidder_of, OfOneBidder, EitherOrder, answers_to, last_valid}
use Rattle.promises.proofs.Useful.{new_box, setting_s, card_of0, card_of1, new_opens, open_box, open_auction, box_says}
use Rattle.promises.proofs.Entry.{answers_same, order_matters}

-- bidder 0 again, with one tranche of the first product; and bidder 3, which there is not
unfoldable pub card_again : List ℕ
card_again = 0 ∷ 0 ∷ 128 ∷ 128 ∷ replicate 26 0

unfoldable pub card_of3 : List ℕ
card_of3 = 24 ∷ 0 ∷ 129 ∷ replicate 27 0

numbers : (file_number open_box card_of0 ≡ 0) × (file_number open_box card_of1 ≡ 0) × (file_number open_box card_again ≡ 0) × (file_number open_box card_of3 ≡ 6)
unfolding setting_s card_of0 card_of1 card_again card_of3 opened setup_of all_up_to from in_order exits_fit judged read_card read_lines field_at bit_at
numbers = (
  box_says 3 (card_number card_of0),
  box_says 3 (card_number card_of1),
  box_says 3 (card_number card_again),
  box_says 3 (card_number card_of3),
)

named : (c : List ℕ) → bidder_of open_box c ≡ bidder_on (read_card c (opened (setup_of setting_s)).terms.products).card
named c = ap (λ a. bidder_on (read_card c a.terms.products).card) open_auction

bidders : (bidder_of open_box card_of0 ≡ 0) × (bidder_of open_box card_of1 ≡ 1) × (bidder_of open_box card_again ≡ 0)
unfolding setting_s card_of0 card_of1 card_again opened setup_of read_card field_at bit_at
bidders = (named card_of0, named card_of1, named card_again)

-- bidder 0, no bidder, bidder 1, bidder 0 again, and bidder 1's card once more
unfoldable pub entered : List (List ℕ)
entered = card_of0 ∷ card_of3 ∷ card_of1 ∷ card_again ∷ card_of1 ∷ []

box_bytes : Bytes open_box
unfolding setting_s
box_bytes = rw (open_bytes new_box setting_s new_opens refl refl) (stored_bytes (opened (setup_of setting_s)))

answered : map (λ c. (file_call open_box c).answer) entered ≡ Ok tt ∷ Err NoBidder ∷ Ok tt ∷ Ok tt ∷ Ok tt ∷ []
unfolding entered file_call
answered = rw (numbers.0, numbers.1, numbers.2, numbers.3)

-- each is answered as by itself; of all of them bidder 0's later card and bidder 1's are what is left
pub entered_worked : (answers_to open_box entered ≡ Ok tt ∷ Err NoBidder ∷ Ok tt ∷ Ok tt ∷ Ok tt ∷ []) × (last_valid open_box entered ≡ card_again ∷ card_of1 ∷ [])
unfolding entered
entered_worked = (
  answers_same open_box box_bytes entered ∙ answered,
  rw (numbers.0, numbers.1, numbers.2, numbers.3, bidders.0, bidders.1, bidders.2),
)

none : (n : ℕ) → Bytes (replicate n 0)
none n = record { small = λ i. let e = blank {A = ℕ} 0 n i in omega arith }

more : {x : ℕ} {s : List ℕ} → x < 256 → Bytes s → Bytes (x ∷ s)
more {x} {s} h B = record { small = λ i. elim i as (λ j. get_or (x ∷ s) j 0 < 256) [ zero ↦ h | suc j ↦ B.small j ] }

bytes0 : Bytes card_of0
unfolding card_of0
bytes0 = more (omega arith) (more (omega arith) (more (omega arith) (none 27)))

bytes_again : Bytes card_again
unfolding card_again
bytes_again = more (omega arith) (more (omega arith) (more (omega arith) (more (omega arith) (none 26))))

differ : card_of0 ≡ card_again → ⊥
unfolding card_of0 card_again
differ e = let x = ap (λ c. get_or c 2 0) e in omega arith

-- bidder 0's two cards in the other order leave another state
pub order_worked : OfOneBidder open_box card_of0 card_again × (EitherOrder open_box card_of0 card_again → ⊥)
order_worked = (two, λ E. differ (order_matters open_box box_bytes card_of0 card_again bytes0 bytes_again E two))
  where
    two : OfOneBidder open_box card_of0 card_again
    two = record { first = numbers.0; second = numbers.2; bidder = bidders.0 ∙ sym bidders.2 }
