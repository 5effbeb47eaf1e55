-- What cards filed leave: whose slot holds what, that no card's number goes by a card filed, and that two bidders' cards may be exchanged. Assumes
-- nothing.
use mathlib.Core.Path.{◌≡◌, refl, sym, ◌∙◌, ap, ap₂}
use mathlib.Core.Logic.{◌⊎◌, inl, inr}
use mathlib.Core.Bool.{Bool, true, false}
use mathlib.Core.List.{List}
use Prim.Native.Nat.{ℕ, ◌*◌, ◌/◌, ◌%◌, ◌<◌}
use native.Mathlib.Omega.{arith}
use native.Mathlib.Decide.{ℕ_discrete}
use borrow.Author.Tests.{eq-eqb, eqb-true, eqb-false}
use lib.ListN.{length, get_or}
use lib.Seq.{sets, length-sets, ext_get_or}
use lib.Dec.{eqb}
use Rattle.rules.specs.declared.Line.{Line}
use Rattle.std.specs.Prelude.{Result, Ok, Err}
use Rattle.rules.specs.declared.Refusal.{Refusal}
use Rattle.rules.specs.declared.Bid.{Bid}
use Rattle.rules.specs.declared.Auction.{Auction}
use Rattle.rules.specs.Card.{no_line, read_card}
use Rattle.rules.specs.Parts.{cards, with_cards}
use Rattle.rules.specs.Held.{place}
use Rattle.rules.specs.Bid.{judged, has_filed, slot_of}
use Rattle.rules.specs.Calls.{bid_number, card_number, with_card}
use Rattle.rules.proofs.Lists.{list_at, list_ext, list_is}
use Rattle.rules.proofs.Judged.{judged_ext}
use Rattle.rules.proofs.Bitmap.{apart, set_in_same, set_in_other, set_in_lt, number_ext, sets_in, sets_under, sets_over}

-- ---- one card

module _ (a : Auction) (b : ℕ) (ls : List Line) where
  -- the bidder has filed
  pub bit_filed : has_filed (with_card a b ls) b ≡ true
  unfolding with_card
  bit_filed = eq-eqb _ 1 (set_in_same a.cards.filed b 1 (omega arith))

  -- of the others the same have filed
  pub bit_other : (c : ℕ) → (c ≡ b → ⊥) → has_filed (with_card a b ls) c ≡ has_filed a c
  unfolding with_card
  bit_other c n = ap (λ x. eqb x 1) (set_in_other a.cards.filed b c 1 (omega arith) n)

  -- the bitmap keeps to its 32 bits
  pub bits_filed : b < 32 → a.cards.filed < 4294967296 → (with_card a b ls).cards.filed < 4294967296
  unfolding with_card
  bits_filed h l = set_in_lt 32 a.cards.filed b 1 l h (omega arith)

  -- and there are as many lines
  pub lines_filed : length (with_card a b ls).cards.lines ≡ length a.cards.lines
  unfolding with_card
  lines_filed = length-sets a.cards.lines _ ls

  module _ (hb : b < 32) (size : length a.cards.lines ≡ 256) (long : length ls ≡ 8) where
    -- the slot of the bidder holds the lines
    pub slot_filed : slot_of (with_card a b ls) b ≡ ls
    unfolding with_card
    slot_filed = sym (list_is _ no_line 8 ls long (λ p h. sym (sets_in no_line a.cards.lines ls (b * 8) (omega arith) p (omega arith))))

    -- the other slots are as before
    pub slot_other : (c : ℕ) → (c ≡ b → ⊥) → slot_of (with_card a b ls) c ≡ slot_of a c
    unfolding with_card
    slot_other c n = list_ext _ _ 8 (λ p h. by p h (apart b c n))
      where
        by : (p : ℕ) → p < 8 → (b < c) ⊎ (c < b)
            → get_or (sets a.cards.lines (b * 8) ls) (place c p) no_line ≡ get_or a.cards.lines (place c p) no_line
        by p h (inl l) = sets_over no_line a.cards.lines ls (b * 8) (omega arith) (place c p) (omega arith)
        by p h (inr l) = sets_under no_line a.cards.lines ls (b * 8) (omega arith) (place c p) (omega arith)

  -- ---- no card's number goes by it

  -- a card filed changes no judgement
  pub judged_filed : (c : ℕ) (ks : List Line) → judged (with_card a b ls) c ks ≡ judged a c ks
  unfolding with_card
  judged_filed c ks = judged_ext (with_card a b ls) a c ks refl refl refl refl

  bid_filed : (x : Result Bid Refusal) (ks : List Line) → bid_number (with_card a b ls) x ks ≡ bid_number a x ks
  unfolding with_card
  bid_filed (Ok x) ks = rw (judged_filed x.bidder ks)
  bid_filed (Err e) ks = refl

  -- nor the number of another card
  pub number_filed : (c : List ℕ) → card_number c (with_card a b ls) ≡ card_number c a
  unfolding with_card
  number_filed c = rw (bid_filed (read_card c a.terms.products).card (read_card c a.terms.products).lines)

-- ---- two cards

-- a bit is 1 or 0
bit_same : (x y : ℕ) → x < 2 → y < 2 → eqb x 1 ≡ eqb y 1 → x ≡ y
bit_same x y hx hy e = by (eqb x 1) refl (sym e)
  where
    by : (t : Bool) → eqb x 1 ≡ t → eqb y 1 ≡ eqb x 1 → x ≡ y
    by true f g = eqb-true x 1 f ∙ sym (eqb-true y 1 (g ∙ f))
    by false f g = let n = eqb-false x 1 f in let m = eqb-false y 1 (g ∙ f) in omega (arith, n, m)

-- what bidder o has filed: whether it has, and its slot
abbrev filed_by : Auction → ℕ → Bool × List Line
filed_by a o = (has_filed a o, slot_of a o)

-- room for the cards and marks of 32 bidders
pub record Room (a : Auction) : Type 0 where
  pub size : length a.cards.lines ≡ 256
  pub bits : a.cards.filed < 4294967296

-- what one of them files
pub record Entry (b : ℕ) (ls : List Line) : Type 0 where
  pub few : b < 32
  pub long : length ls ≡ 8

-- cards are the same where each bidder has filed the same
cards_ext : (a z : Auction) → Room a → Room z → ((o : ℕ) → filed_by a o ≡ filed_by z o) → a.cards ≡ z.cards
cards_ext a z R Z h =
    ap₂ cards
    (number_ext 32 a.cards.filed z.cards.filed R.bits Z.bits
    (λ o l. bit_same _ _ (omega arith) (omega arith) (ap (λ x. x.0) (h o))))
    (ext_get_or no_line a.cards.lines z.cards.lines (R.size ∙ sym Z.size) (λ k l. line_same k (omega (arith, R.size))))
  where
    in_slot : (x : Auction) (k : ℕ) → k < 256 → get_or (slot_of x (k / 8)) (k % 8) no_line ≡ get_or x.cards.lines k no_line
    in_slot x k l =
        list_at (λ p. get_or x.cards.lines (place (k / 8) p) no_line) no_line 8 (k % 8) (omega arith)
        ∙ ap (λ i. get_or x.cards.lines i no_line) (let e : place (k / 8) (k % 8) ≡ k = omega arith in e)

    line_same : (k : ℕ) → k < 256 → get_or a.cards.lines k no_line ≡ get_or z.cards.lines k no_line
    line_same k l = sym (in_slot a k l) ∙ ap (λ x. get_or x.1 (k % 8) no_line) (h (k / 8)) ∙ in_slot z k l

module _ (a : Auction) (R : Room a) (b : ℕ) (ls : List Line) (E : Entry b ls) where
  room_filed : Room (with_card a b ls)
  room_filed = record { size = lines_filed a b ls ∙ R.size; bits = bits_filed a b ls E.few R.bits }

  own : filed_by (with_card a b ls) b ≡ (true, ls)
  own = ap₂ (λ x y. (x, y)) (bit_filed a b ls) (slot_filed a b ls E.few R.size E.long)

  other : (o : ℕ) → (o ≡ b → ⊥) → filed_by (with_card a b ls) o ≡ filed_by a o
  other o n = ap₂ (λ x y. (x, y)) (bit_other a b ls o n) (slot_other a b ls E.few R.size E.long o n)

module _ (a : Auction) (R : Room a) (b : ℕ) (ls : List Line) (E : Entry b ls) where
  -- cards of two bidders, in either order
  pub exchanged : (c : ℕ) (ks : List Line) → Entry c ks → (c ≡ b → ⊥) → with_card (with_card a b ls) c ks ≡ with_card (with_card a c ks) b ls
  unfolding with_card
  exchanged c ks F n =
      let y = with_card a b ls in
      let z = with_card a c ks in
      let Y = room_filed a R b ls E in
      let Z = room_filed a R c ks F in
      ap (with_cards a)
      (cards_ext (with_card y c ks) (with_card z b ls) (room_filed y Y c ks F) (room_filed z Z b ls E) (λ o.
      elim (ℕ_discrete o b) [
        | yes e ↦ rw e (other y Y c ks F b (λ f. n (sym f)) ∙ own a R b ls E ∙ sym (own z Z b ls E))
        | no m ↦
            elim (ℕ_discrete o c) [
              | yes f ↦ rw f (own y Y c ks F ∙ sym (other z Z b ls E c n ∙ own a R c ks F))
              | no k ↦ other y Y c ks F o k ∙ other a R b ls E o m ∙ sym (other z Z b ls E o m ∙ other a R c ks F o k)
            ]
      ]))

  -- of one bidder the later stands, as if the earlier had not been filed
  pub later_filed : (ks : List Line) → Entry b ks → with_card (with_card a b ls) b ks ≡ with_card a b ks
  unfolding with_card
  later_filed ks F =
      let y = with_card a b ls in
      let Y = room_filed a R b ls E in
      ap (with_cards a)
      (cards_ext (with_card y b ks) (with_card a b ks) (room_filed y Y b ks F) (room_filed a R b ks F) (λ o.
      elim (ℕ_discrete o b) [
        | yes e ↦ rw e (own y Y b ks F ∙ sym (own a R b ks F))
        | no m ↦ other y Y b ks F o m ∙ other a R b ls E o m ∙ sym (other a R b ks F o m)
      ]))
