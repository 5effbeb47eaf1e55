-- The bidder on a card. Assumes nothing.
use mathlib.Core.Path.{◌≡◌, sym, ◌∙◌, ap, subst}
use mathlib.Core.Bool.{Bool, true, false, cond}
use mathlib.Core.List.{List}
use Prim.Native.Nat.{ℕ, ◌<◌}
use native.Mathlib.Omega.{arith}
use lib.ListN.{length}
use lib.Dec.{eqb}
use Rattle.rules.specs.declared.CardRead.{CardRead}
use Rattle.std.specs.Prelude.{Ok}
use Rattle.rules.specs.declared.Bid.{Bid}
use Rattle.rules.specs.Card.{count_fits, card_length, filled, bid_of, read_refused, read_card}
use Rattle.rules.specs.Calls.{bidder_on}
use Rattle.bits.proofs.BitLaws.{field_small}

module _ (s : List ℕ) (n : ℕ) where
  small_by : (t u v : Bool) → bidder_on (cond t (cond u (cond v (bid_of s n) (read_refused 5)) (read_refused 4)) (read_refused 29)).card < 32
  small_by true true true = field_small s 0 5
  small_by true true false = omega arith
  small_by true false v = omega arith
  small_by false u v = omega arith

  -- a card has five bits for it
  bidder_small : bidder_on (read_card s n).card < 32
  unfolding read_card
  bidder_small = small_by (count_fits n) (eqb (length s) (card_length n)) (filled s n)

  pub bidder_of_lem : (r : CardRead) (b : Bid) → r ≡ read_card s n → r.card ≡ Ok b → b.bidder < 32
  bidder_of_lem r b e h = subst (λ x. x < 32) (ap (λ r. bidder_on r.card) (sym e) ∙ ap bidder_on h) bidder_small
