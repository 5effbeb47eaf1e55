-- An auction played call by call: what cards and a calculation make of the bytes that hold a known auction. Assumes nothing.
use mathlib.Core.Path.{◌≡◌, refl, ◌∙◌, ap}
use mathlib.Core.Bool.{Bool, true, ◌&&◌}
use mathlib.Core.List.{List, []}
use Prim.Native.Nat.{ℕ}
use borrow.Author.Tests.{eq-eqb}
use lib.ListN.{length}
use lib.Dec.{eqb, ltb}
use Rattle.rules.specs.declared.Line.{Line}
use Rattle.rules.specs.declared.Auction.{Auction}
use Rattle.rules.specs.Card.{count_fits, read_card, card_of, writable}
use Rattle.rules.specs.Bid.{judged}
use Rattle.rules.specs.Round.{calculated}
use Rattle.rules.specs.Layout.{loaded}
use Rattle.rules.specs.Legal.{is_open}
use Rattle.rules.specs.Calls.{card_number, with_card, after_card, file_number, round_number, calculate_number}
use Rattle.rules.specs.Uses.{files, calculates, after}
use Rattle.rules.proofs.Tests.{told}
use Rattle.card.proofs.EveryBid.{bid, card_reads}
use Rattle.laws.specs.OneCall.{StandsIn}
use Rattle.laws.proofs.OneCall.{of_standing, file_loaded, file_stands, calculate_loaded, calculate_stands}
use Rattle.promises.specs.Runs.{round_of}

-- the bytes s stand and hold the auction a
pub record Box (s : List ℕ) (a : Auction) : Type 0 where
  pub stands : StandsIn s
  pub is : loaded s ≡ a

-- whether a bid of bidder b in the auction a can be written and passes every number of a filing
abbrev pub valid : Auction → ℕ → List Line → Bool
valid a b ls =
    count_fits a.terms.products
    && (eqb (length ls) 8
    && (writable a.terms.products b a.round ls && (is_open a && (ltb b a.terms.bidders && eqb (judged a b ls) 0))))

-- its card
abbrev pub card_for : Auction → ℕ → List Line → List ℕ
card_for a b ls = card_of a.terms.products b a.round ls

module _ (s : List ℕ) (a : Auction) (B : Box s a) where
  module _ (b : ℕ) (ls : List Line) (v : valid a b ls ≡ true) where
    reads : read_card (card_for a b ls) a.terms.products ≡ bid b a.round ls
    reads = card_reads a.terms.products b a.round ls (search told) (search told) (search told)

    passed : file_number s (card_for a b ls) ≡ 0
    passed =
        let o : is_open a ≡ true = search told depth 9 in
        let h : ltb b a.terms.bidders ≡ true = search told depth 9 in
        let j : judged a b ls ≡ 0 = search told depth 9 in
        of_standing s B.stands 3 (card_number (card_for a b ls)) ∙ ap (card_number (card_for a b ls)) B.is
        ∙ rw (reads, o, h, eq-eqb a.round a.round refl) j

    -- is accepted, and is what the bidder has filed
    pub box_filed : Box (after s (files (card_for a b ls))) (with_card a b ls)
    box_filed = record {
      stands = file_stands s B.stands (card_for a b ls);
      is = file_loaded s B.stands (card_for a b ls) passed ∙ ap (after_card (card_for a b ls)) B.is ∙ rw reads;
    }

  module _ (draw : List ℕ) (e : round_number draw [] a ≡ 0) where
    calculates_zero : calculate_number s draw [] ≡ 0
    calculates_zero = of_standing s B.stands 3 (round_number draw []) ∙ ap (round_number draw []) B.is ∙ e

    -- a calculation that is accepted is one round,
    pub box_rounds : length (round_of s (calculates draw [])) ≡ 1
    box_rounds = rw calculates_zero

    -- and leaves what it makes
    pub box_calculated : Box (after s (calculates draw [])) (calculated a draw []).auction
    box_calculated = record {
      stands = calculate_stands s B.stands draw [];
      is = calculate_loaded s B.stands draw [] calculates_zero ∙ ap (λ a. (calculated a draw []).auction) B.is;
    }
