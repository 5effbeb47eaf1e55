-- The number of a card that was read while bids are open, and what filing it leaves. Assumes nothing.
use mathlib.Core.Path.{◌≡◌, refl, sym, ◌∙◌, ap}
use mathlib.Core.Bool.{Bool, true, false, cond}
use mathlib.Core.List.{List}
use Prim.Native.Nat.{ℕ}
use native.Mathlib.Omega.{arith}
use lib.ListN.{length}
use lib.Dec.{eqb}
use borrow.Author.Tests.{eq-eqb, ne_eqb}
use Rattle.rules.specs.declared.CardRead.{CardRead}
use Rattle.rules.specs.declared.Line.{Line}
use Rattle.rules.specs.declared.Auction.{Auction}
use Rattle.std.specs.Prelude.{Ok, Err}
use Rattle.rules.specs.declared.Refusal.{Refusal}
use Rattle.rules.specs.declared.Bid.{Bid}
use Rattle.rules.specs.Answers.{Answer, number_of, answer_from}
use Rattle.rules.specs.Card.{count_fits, card_length, filled, bid_of, read_refused, read_card}
use Rattle.rules.specs.Calls.{bid_number, card_number, with_card, after_card}
use Rattle.rules.specs.Layout.{loaded, stored}
use Rattle.rules.specs.Bits.{set_in}
use Rattle.rules.proofs.Numbered.{numbered, refused_by, rejected, accepted}
use Rattle.storing.specs.Written.{with_filed, with_slot}
use Rattle.filing.specs.Filing.{Files}

-- a refusal leaves the bytes as they were
pub refuses : (s c : List ℕ) (n : ℕ) (r : Answer) → n ≡ card_number c (loaded s) → r ≡ answer_from n → (n ≡ 0 → ⊥) → Files s c r s
refuses s c n r e f h = record {
  answer = f ∙ ap answer_from e;
  bytes = sym (ap (λ t. cond t (stored (after_card c (loaded s))) s) (ne_eqb _ 0 (λ z. h (e ∙ z))));
}

-- bids are open, and the card c is read to r
pub record Reads (s c : List ℕ) (r : CardRead) : Type 0 where
  pub bidding : (loaded s).phase ≡ 1
  pub read : r ≡ read_card c (loaded s).terms.products

module _ {s c : List ℕ} {r : CardRead} (x : Reads s c r) where
  -- refused: the card's own number
  pub refused_number : {e : Refusal} → r.card ≡ Err e → Files s c (Err e) s
  refused_number {e} h =
      refuses s c (number_of e) (Err e) (rw (← x.read, eq-eqb (loaded s).phase 1 x.bidding, h)) (refused_by tt _ e refl) (λ z. omega (arith, (numbered e).0))

  module _ {b : Bid} {n : Answer} (h : r.card ≡ Ok b) (f : n ≡ answer_from (bid_number (loaded s) (Ok b) r.lines)) where
    is_number : bid_number (loaded s) (Ok b) r.lines ≡ card_number c (loaded s)
    is_number = rw (← x.read, eq-eqb (loaded s).phase 1 x.bidding, h)

    -- a bid: what the auction says of it
    pub bid_refused : {e : Refusal} → n ≡ Err e → Files s c n s
    bid_refused q = refuses s c _ n is_number f (rejected tt _ (sym q ∙ f))

    pub bid_filed : n ≡ Ok tt → {z : List ℕ} → z ≡ stored (with_card (loaded s) b.bidder r.lines) → Files s c (Ok tt) z
    bid_filed d g =
        let w = sym (accepted tt _ (sym d ∙ f)) ∙ is_number in record {
          answer = ap answer_from w;
          bytes = g ∙ rw (← w, ← x.read, h);
        }

-- the bidder's slot and bit written
pub slot_filed : (a : Auction) (b x marks : ℕ) (ls : List Line) {z : List ℕ} → marks ≡ set_in x b 1 → x ≡ a.cards.filed
    → z ≡ stored (with_filed (with_slot a b ls) marks) → z ≡ stored (with_card a b ls)
unfolding with_card
slot_filed a b x marks ls e f h = h ∙ ap (λ x. stored (with_filed (with_slot a b ls) x)) (e ∙ ap (λ x. set_in x b 1) f)
