-- A state that is opened, or that takes a card, stands. Assumes nothing.
use mathlib.Core.Path.{◌≡◌, refl, ◌∙◌, ap}
use mathlib.Core.Bool.{Bool, true, false, cond}
use mathlib.Core.List.{List}
use Prim.Native.Nat.{ℕ, zero, suc, ◌≤◌, ◌<◌}
use native.Mathlib.Omega.{arith}
use borrow.Author.Tests.{eqb-true, ltb-true, ltb-false}
use lib.ListN.{length, replicate, length-replicate, length-set}
use lib.Seq.{get_or-set_other}
use lib.Dec.{eqb, ltb}
use Rattle.rules.proofs.Numbered.{numbered}
use Rattle.std.specs.Prelude.{Result, Ok, Err}
use Rattle.rules.specs.declared.Line.{Line}
use Rattle.rules.specs.declared.Refusal.{Refusal}
use Rattle.rules.specs.declared.Bid.{Bid}
use Rattle.rules.specs.declared.Settings.{Settings}
use Rattle.rules.specs.declared.Auction.{Auction}
use Rattle.rules.specs.Settings.{settings_fit, setup, setup_of, item_of, product_at}
use Rattle.rules.specs.Card.{no_line, line_zero, line_at, line_bit, count_fits, filled, card_length, read_lines, read_refused, bid_of, read_card, bid_by}
use Rattle.rules.specs.Bid.{on_product, judged}
use Rattle.rules.specs.Legal.{is_open, zero_from}
use Rattle.rules.specs.Layout.{stored, loaded}
use Rattle.rules.specs.Calls.{opened, bid_number, card_number, bidder_on, after_card}
use Rattle.rules.proofs.Lists.{all_give, list_long}
use Rattle.rules.proofs.Tests.{told}
use Rattle.rules.specs.Stands.{Long, Stands}
use Rattle.laws.proofs.Opening.{blank, opened_setup, opened_stands, opened_long}
use Rattle.rules.proofs.Filing.{bits_filed}
use Rattle.laws.proofs.Filing.{filed_stands, filed_long}
use Rattle.rules.proofs.Fitting.{standing_loads}

-- ---- open

-- settings that fit open a standing state
pub opens : (s : Settings) → settings_fit s ≡ true → length s.eligibility ≡ 32 → Stands (opened (setup_of s))
unfolding setup_of
opens s f e = opened_stands (setup_of s) (search told) (list_long (λ p. item_of (product_at s p)) 8) e

-- its lists are as long as its arrays
pub opens_long : (s : Settings) → length s.row ≡ 8 → Long (opened (setup_of s))
unfolding setup_of
opens_long s r = opened_long (setup_of s) r

-- and the bytes that are written are read as that state
pub opens_loads : (s : Settings) → settings_fit s ≡ true → length s.eligibility ≡ 32 → length s.row ≡ 8
    → loaded (stored (opened (setup_of s))) ≡ opened (setup_of s)
unfolding opened
opens_loads s f e r = standing_loads (opened (setup_of s)) (opens s f e) (opens_long s r) (omega arith)

-- its settings are those given
pub opens_setup : (s : Settings) → length s.eligibility ≡ 32 → setup (opened (setup_of s)) ≡ setup_of s
unfolding setup_of
opens_setup s e = opened_setup (setup_of s) (list_long (λ p. item_of (product_at s p)) 8) e

-- ---- the lines of a card read

lines_long : (s : List ℕ) (n : ℕ) → length (read_lines s n) ≡ 8
unfolding read_lines
lines_long s zero = length-replicate 8 no_line
lines_long s (suc n) = length-set (read_lines s n) n (line_at s (line_bit n)) ∙ lines_long s n

lines_past : (s : List ℕ) (n p : ℕ) → n ≤ p → on_product (read_lines s n) p ≡ no_line
unfolding read_lines
lines_past s zero p h = blank no_line 8 p
lines_past s (suc n) p h =
    get_or-set_other (read_lines s n) n p (line_at s (line_bit n)) no_line (λ e. omega arith) ∙ lines_past s n p (omega arith)

past_by : (ls : List Line) (n : ℕ) → ((p : ℕ) → n ≤ p → on_product ls p ≡ no_line) → (p : ℕ) (t : Bool) → ltb p n ≡ t
    → cond t true (line_zero (on_product ls p)) ≡ true
past_by ls n h p true e = refl
past_by ls n h p false e = rw (h p (ltb-false p n e))

blank_past : (ls : List Line) (n : ℕ) → ((p : ℕ) → n ≤ p → on_product ls p ≡ no_line) → zero_from ls n ≡ true
blank_past ls n h = all_give _ 8 (λ p l. past_by ls n h p (ltb p n) refl)

module _ (s : List ℕ) (n : ℕ) where
  read_by : (P : List Line → Type 0) → P (read_lines s n) → P (replicate 8 no_line) → (t u v : Bool)
      → P (cond t (cond u (cond v (bid_of s n) (read_refused 5)) (read_refused 4)) (read_refused 29)).lines
  read_by P x y true true true = x
  read_by P x y true true false = y
  read_by P x y true false v = y
  read_by P x y false u v = y

  -- the lines are eight
  pub read_long : length (read_card s n).lines ≡ 8
  unfolding read_card
  read_long =
      read_by (λ ls. length ls ≡ 8) (lines_long s n) (length-replicate 8 no_line) (count_fits n) (eqb (length s) (card_length n)) (filled s n)

  -- none past the count
  pub read_blank : zero_from (read_card s n).lines n ≡ true
  unfolding read_card
  read_blank =
      read_by (λ ls. zero_from ls n ≡ true) (blank_past (read_lines s n) n (lines_past s n)) (blank_past (replicate 8 no_line) n (λ p h. blank no_line 8 p))
      (count_fits n) (eqb (length s) (card_length n)) (filled s n)

-- ---- file

-- a number not given, where the test must pass
pub granted : (t : Bool) (x n : ℕ) → 0 < n → cond t x n ≡ 0 → (t ≡ true) × (x ≡ 0)
granted true x n h e = (refl, e)
granted false x n h e = absurd (let z : ⊥ = omega arith in z)

card_by : (a : Auction) (ls : List Line) (c : Result Bid Refusal) → bid_number a c ls ≡ 0
    → (bidder_on c < a.terms.bidders) × (judged a (bidder_on c) ls ≡ 0) × (c ≡ Ok (bid_by (bidder_on c) a.round))
card_by a ls (Ok x) e =
    let y = granted (ltb x.bidder a.terms.bidders) _ 6 (omega arith) e in
    let z = granted (eqb x.round a.round) _ 7 (omega arith) y.1 in
    (ltb-true _ _ y.0, z.1, ap (λ r. Ok (bid_by x.bidder r)) (eqb-true _ _ z.0))
card_by a ls (Err r) e = absurd (let z : ⊥ = omega (arith, e, (numbered r).0) in z)

-- what a card filed is: bids are open, it is accepted of its bidder, and it is of this round
pub file_take : (a : Auction) (s : List ℕ) → card_number s a ≡ 0
    → (is_open a ≡ true) × (bidder_on (read_card s a.terms.products).card < a.terms.bidders)
    × (judged a (bidder_on (read_card s a.terms.products).card) (read_card s a.terms.products).lines ≡ 0)
    × ((read_card s a.terms.products).card ≡ Ok (bid_by (bidder_on (read_card s a.terms.products).card) a.round))
file_take a s e =
    let o = granted (is_open a) _ 3 (omega arith) e in
    let c = card_by a _ (read_card s a.terms.products).card o.1 in
    (o.0, c.0, c.1, c.2)

module _ (a : Auction) (S : Stands a) (L : Long a) (s : List ℕ) (e : card_number s a ≡ 0) where
  -- a card filed leaves the state standing
  pub files : Stands (after_card s a)
  files =
      let c = file_take a s e in
      filed_stands a S L c.0 _ c.1 _ (read_long s a.terms.products) c.2 (read_blank s a.terms.products)

  -- its lists stay as long
  pub files_long : Long (after_card s a)
  files_long = filed_long a _ _ L

  -- and the bytes that are written are read as that state
  pub files_loads : a.cards.filed < 4294967296 → loaded (stored (after_card s a)) ≡ after_card s a
  files_loads h =
      standing_loads (after_card s a) files files_long (bits_filed a _ _ (omega (arith, (file_take a s e).1, S.limits.bidders)) h)
