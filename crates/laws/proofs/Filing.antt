-- A card filed leaves a standing state standing. Assumes nothing.
use mathlib.Core.Path.{◌≡◌, refl, sym, ◌∙◌, subst}
use mathlib.Core.Bool.{Bool, true, false}
use mathlib.Core.List.{List}
use Prim.Native.Nat.{ℕ, ◌<◌}
use native.Mathlib.Omega.{arith}
use borrow.Author.Tests.{lt-ltb, eqb-true, eqb-false}
use lib.ListN.{length}
use lib.Dec.{eqb}
use Rattle.rules.specs.declared.Line.{Line}
use Rattle.rules.specs.declared.Auction.{Auction}
use Rattle.rules.specs.Bid.{judged, slot_of}
use Rattle.rules.specs.Legal.{is_open, zero_from, slot_stands}
use Rattle.rules.specs.Calls.{with_card}
use Rattle.rules.specs.Stands.{Long, Stands}
use Rattle.rules.proofs.Filing.{bit_filed, bit_other, lines_filed, slot_filed, slot_other, judged_filed}

module _ (a : Auction) (S : Stands a) (L : Long a) (o : is_open a ≡ true) (b : ℕ) (hb : b < a.terms.bidders) (ls : List Line)
    (long : length ls ≡ 8) (fine : judged a b ls ≡ 0) (blank : zero_from ls a.terms.products ≡ true) where
  mine : slot_stands (with_card a b ls) b ≡ true
  unfolding with_card
  mine =
      let h : b < 32 = omega (arith, S.limits.bidders) in
      rw (bit_filed a b ls, slot_filed a b ls h L.lines long, judged_filed a b ls b ls, fine, lt-ltb b a.terms.bidders hb) blank

  theirs : (c : ℕ) → c < 32 → (c ≡ b → ⊥) → slot_stands (with_card a b ls) c ≡ true
  unfolding with_card
  theirs c h n =
      let g : b < 32 = omega (arith, S.limits.bidders) in
      rw (bit_other a b ls c n, slot_other a b ls g L.lines long c n, judged_filed a b ls c (slot_of a c)) (S.slots c h)

  slot_by : (c : ℕ) → c < 32 → (t : Bool) → eqb c b ≡ t → slot_stands (with_card a b ls) c ≡ true
  slot_by c h true e = subst (λ x. slot_stands (with_card a b ls) x ≡ true) (sym (eqb-true c b e)) mine
  slot_by c h false e = theirs c h (eqb-false c b e)

  -- a card accepted leaves the state standing
  pub filed_stands : Stands (with_card a b ls)
  unfolding with_card
  filed_stands = record {
    within = S.within;
    limits = S.limits;
    some_round = S.some_round;
    round = S.round;
    prices = S.prices;
    fell = S.fell;
    kept = S.kept;
    no_price = S.no_price;
    marks = S.marks;
    no_mark = S.no_mark;
    exits = S.exits;
    caps = S.caps;
    no_bidder = S.no_bidder;
    no_product = S.no_product;
    eligible = S.eligible;
    no_free = S.no_free;
    slots = λ c h. slot_by c h (eqb c b) refl;
    phase = rw o (rw o at S.phase);
  }

-- the lists stay as long
pub filed_long : (a : Auction) (b : ℕ) (ls : List Line) → Long a → Long (with_card a b ls)
unfolding with_card
filed_long a b ls L = record { lanes = L.lanes; seats = L.seats; row = L.row; records = L.records; lines = lines_filed a b ls ∙ L.lines }
