-- One call on lent bytes, from any state: what it leaves stands, and what it refuses is left as it was. Assumes nothing.
use mathlib.Core.Path.{◌≡◌, refl, sym, ◌∙◌, ap, subst}
use mathlib.Core.Bool.{Bool, true, false, cond}
use mathlib.Core.List.{List, []}
use Prim.Native.Nat.{ℕ, zero, suc, ◌*◌, ◌≤◌, ◌<◌}
use native.Mathlib.Omega.{arith}
use native.Mathlib.Nat.{div-mul-le_self, le-div_iff_mul-le}
use borrow.Author.Tests.{eqb-true, eqb-false, eq-eqb, ne_eqb}
use lib.ListN.{length, get_or, replicate}
use lib.Dec.{eqb, leb}
use Rattle.std.specs.Prelude.{Err}
use Rattle.rules.specs.Price.{Override}
use Rattle.rules.specs.declared.Tranches.{Tranches}
use Rattle.rules.specs.declared.Settings.{Settings}
use Rattle.rules.specs.declared.Auction.{Auction}
use Rattle.rules.specs.declared.Outbid.{Outbid}
use Rattle.rules.specs.declared.Calculated.{Calculated}
use Rattle.rules.specs.Answers.{outcome, said, answer_of, calculation_said, unless_refused, closed, stopped, refusal_of}
use Rattle.rules.specs.Settings.{settings_fit, setup, setup_of}
use Rattle.laws.specs.OneCall.{StandsIn, RefusedSame, FiledOnly, PriceBy, CutOnly, CutPrice}
use Rattle.rules.specs.Held.{excess}
use Rattle.rules.specs.Round.{draw_fits, override_for, overrides_fit, after_step2, after_step4, at_rest, onward, stops, settled, calculated, calculated_plain}
use Rattle.rules.specs.Cutback.{may_cut, cut_back, suggested_volume, suggested_number}
use Rattle.rules.specs.Bits.{Bytes}
use Rattle.rules.specs.Layout.{state_length, stored, loaded, all_zero}
use Rattle.rules.specs.Legal.{is_open, stands}
use Rattle.rules.specs.Card.{read_card, card_of, write_number, write_card}
use Rattle.rules.specs.Calls.{opened, open_number, open_call, of_state, card_number, file_number, bidder_on, after_card, file_call, count_number, round_number, calculate_number, calculation_done, calculate_call, plain_number, plain_call, cut_number, cutback_number, cutback_call, report_number, result_number, return_number, return_call}
use Rattle.rules.proofs.Lists.{clash, all_give, all_take}
use Rattle.rules.specs.Stands.{Stands}
use Rattle.rules.proofs.Legal.{stands_take, stands_give}
use Rattle.laws.proofs.Bids.{bids_accepted}
use Rattle.laws.proofs.Opening.{blank}
use Rattle.rules.proofs.Filing.{slot_filed, slot_other, bit_filed, bit_other}
use Rattle.rules.proofs.Storing.{stored_long, loaded_long, loaded_bits, stored_bytes}
use Rattle.rules.proofs.Fitting.{phase_small, standing_loads}
use Rattle.laws.proofs.Calling.{granted, opens, opens_loads, opens_setup, read_long, file_take, files, files_loads}
use Rattle.laws.proofs.Round.{round_stands, round_long, round_by}
use Rattle.laws.proofs.Cutback.{cut_stands, cut_long, cut_only, cut_price}

-- ---- standing

-- "Standing means", of the auction that the bytes hold
pub stood : (s : List ℕ) → StandsIn s → Stands (loaded s)
stood s S = stands_take (loaded s) S.standing

-- a standing auction that is stored and read back
stored_stands : (a : Auction) → Stands a → loaded (stored a) ≡ a → StandsIn (stored a)
stored_stands a S e =
    record { long = stored_long a; standing = rw e (stands_give a S); bits = loaded_bits (stored a) (stored_bytes a) }

-- ---- the number of a call lent a state

zero_by : (s : List ℕ) → length s ≡ state_length → (t : Bool) → all_zero s ≡ t → Stands (loaded s) → t ≡ false
unfolding loaded
zero_by s l true e S =
    let x : (loaded s).phase ≡ 0 = eqb-true (get_or s 0 0) 0 (all_take (λ i. eqb (get_or s i 0) 0) (length s) e 0 (omega arith)) in
    absurd (let z : ⊥ = omega (arith, phase_small (loaded s) S) in z)
zero_by s l false e S = refl

-- a standing state is not taken for an issued one
pub not_issued : (s : List ℕ) → StandsIn s → all_zero s ≡ false
not_issued s S = zero_by s S.long (all_zero s) refl (stood s S)

-- of a standing state a call says what the auction says
pub of_standing : (s : List ℕ) → StandsIn s → (n : ℕ) (says : Auction → ℕ) → of_state s n says ≡ says (loaded s)
of_standing s S n says = rw (eq-eqb (length s) state_length S.long, not_issued s S, S.standing)

-- and where it gives no number the state stands, and the auction says none
pub accepted_by : (s : List ℕ) (n : ℕ) → 0 < n → (says : Auction → ℕ) → of_state s n says ≡ 0
    → (length s ≡ state_length) × (stands (loaded s) ≡ true) × (says (loaded s) ≡ 0)
accepted_by s n h says e =
    let l = granted (eqb (length s) state_length) _ 1 (omega arith) e in
    let p = by (all_zero s) l.1 in
    (eqb-true (length s) state_length l.0, p.0, p.1)
  where
    by : (t : Bool) → cond t n (cond (stands (loaded s)) (says (loaded s)) 2) ≡ 0 → (stands (loaded s) ≡ true) × (says (loaded s) ≡ 0)
    by true z = absurd (let x : ⊥ = omega arith in x)
    by false z = granted (stands (loaded s)) _ 2 (omega arith) z

pub accepted_stands : (s : List ℕ) → Bytes s → (n : ℕ) → 0 < n → (says : Auction → ℕ) → of_state s n says ≡ 0 → StandsIn s
accepted_stands s B n h says e =
    let p = accepted_by s n h says e in record { long = p.0; standing = p.1; bits = loaded_bits s B }

-- ---- issued

module _ (s : List ℕ) (l : length s ≡ state_length) (z : all_zero s ≡ true) where
  issued_by : (t : Bool) → stands (loaded s) ≡ t → t ≡ false
  issued_by true e = clash z (zero_by s l (all_zero s) refl (stands_take (loaded s) e))
  issued_by false e = refl

  -- "all zero as issued": it does not stand, bids are not open, and the auction is not closed
  pub issued_not_standing : (stands (loaded s) ≡ false) × ((c : List ℕ) → file_number s c ≡ 3) × (count_number s ≡ 3)
      × ((draw : List ℕ) (os : List Override) → calculate_number s draw os ≡ 3)
      × ((draw : List ℕ) (os : List Override) (order : List ℕ) → plain_number s draw os order ≡ 3)
      × ((targets caps : List Tranches) → cutback_number s targets caps ≡ 3) × ((b : ℕ) → report_number s b ≡ 3) × (result_number s ≡ 16)
  issued_not_standing =
      let e = eq-eqb (length s) state_length l in
      (issued_by (stands (loaded s)) refl, λ c. rw (e, z), rw (e, z), λ draw os. rw (e, z), λ draw os order. rw (e, z), λ targets caps. rw (e, z), λ b. rw (e, z), rw (e, z))

-- ---- astray

-- a state of the wrong length is answered 1 by every call
pub wrong_length : (s : List ℕ) → (length s ≡ state_length → ⊥) → ((x : Settings) → open_number s x ≡ 1) × ((c : List ℕ) → file_number s c ≡ 1)
    × (count_number s ≡ 1) × ((draw : List ℕ) (os : List Override) → calculate_number s draw os ≡ 1)
    × ((draw : List ℕ) (os : List Override) (order : List ℕ) → plain_number s draw os order ≡ 1)
    × ((targets caps : List Tranches) → cutback_number s targets caps ≡ 1) × ((b : ℕ) → report_number s b ≡ 1) × (result_number s ≡ 1)
    × (return_number s ≡ 1)
wrong_length s l =
    let e = ne_eqb (length s) state_length l in
    (λ x. rw e, λ c. rw e, rw e, λ draw os. rw e, λ draw os order. rw e, λ targets caps. rw e, λ b. rw e, rw e, rw e)

-- "state neither issued nor standing": 2, to an opening 17, and to a return nothing
pub neither : (s : List ℕ) → length s ≡ state_length → all_zero s ≡ false → stands (loaded s) ≡ false
    → ((x : Settings) → open_number s x ≡ 17) × ((c : List ℕ) → file_number s c ≡ 2) × (count_number s ≡ 2)
    × ((draw : List ℕ) (os : List Override) → calculate_number s draw os ≡ 2)
    × ((draw : List ℕ) (os : List Override) (order : List ℕ) → plain_number s draw os order ≡ 2)
    × ((targets caps : List Tranches) → cutback_number s targets caps ≡ 2) × ((b : ℕ) → report_number s b ≡ 2) × (result_number s ≡ 2) × (return_number s ≡ 0)
neither s l z n =
    let e = eq-eqb (length s) state_length l in
    (λ x. rw (e, z), λ c. rw (e, z, n), rw (e, z, n), λ draw os. rw (e, z, n), λ draw os order. rw (e, z, n), λ targets caps. rw (e, z, n), λ b. rw (e, z, n), rw (e, z, n), rw e)

-- ---- refused

-- "Every refusal returns its number only and writes nothing."
unless_same : (k : ℕ) (new old : List ℕ) → 0 < (answer_of (unless_refused k new old).answer).number → (unless_refused k new old).bytes ≡ old
unless_same zero new old h = absurd (let x : ⊥ = omega arith in x)
unless_same (suc k) new old h = rw (ne_eqb (suc k) 0 (λ z. omega arith))

calculate_same : (s : List ℕ) (c : Calculated) (k : ℕ) (t : Bool)
    → 0 < (calculation_said (cond t (calculation_done c) (outcome (Err (refusal_of k)) s)).answer).number
    → (cond t (calculation_done c) (outcome (Err (refusal_of k)) s)).bytes ≡ s
calculate_same s c k true h = absurd (let x : ⊥ = omega arith in x)
calculate_same s c k false h = refl

pub refused_same : (s : List ℕ) → RefusedSame s
unfolding open_call file_call calculate_call plain_call cutback_call return_call write_card
refused_same s = record {
  opening = λ x. unless_same (open_number s x) (stored (opened (setup_of x))) s;
  filing = λ c. unless_same (file_number s c) (stored (after_card c (loaded s))) s;
  calculating = λ draw os. calculate_same s (calculated (loaded s) draw os) (calculate_number s draw os) (eqb (calculate_number s draw os) 0);
  ordering = λ draw os order.
      calculate_same s (calculated_plain (loaded s) draw os order) (plain_number s draw os order) (eqb (plain_number s draw os order) 0);
  cutting = λ targets caps. unless_same (cutback_number s targets caps) (stored (cut_back (loaded s) targets caps)) s;
  returning = unless_same (return_number s) (replicate state_length 0) s;
  writing = λ m b r ls. unless_same (write_number (length s) m b r ls) (card_of m b r ls) s;
}

-- the same by the number: where it is not 0 the bytes stay
pub open_refused : (s : List ℕ) (x : Settings) → (open_number s x ≡ 0 → ⊥) → (open_call s x).bytes ≡ s
unfolding open_call
open_refused s x h = rw (ne_eqb (open_number s x) 0 h)

pub file_refused : (s c : List ℕ) → (file_number s c ≡ 0 → ⊥) → (file_call s c).bytes ≡ s
unfolding file_call
file_refused s c h = rw (ne_eqb (file_number s c) 0 h)

pub calculate_refused : (s draw : List ℕ) (os : List Override) → (calculate_number s draw os ≡ 0 → ⊥) → (calculate_call s draw os).bytes ≡ s
unfolding calculate_call
calculate_refused s draw os h = rw (ne_eqb (calculate_number s draw os) 0 h)

pub plain_refused : (s draw : List ℕ) (os : List Override) (order : List ℕ) → (plain_number s draw os order ≡ 0 → ⊥)
    → (plain_call s draw os order).bytes ≡ s
unfolding plain_call
plain_refused s draw os order h = rw (ne_eqb (plain_number s draw os order) 0 h)

pub cutback_refused : (s : List ℕ) (targets caps : List Tranches) → (cutback_number s targets caps ≡ 0 → ⊥) → (cutback_call s targets caps).bytes ≡ s
unfolding cutback_call
cutback_refused s targets caps h = rw (ne_eqb (cutback_number s targets caps) 0 h)

-- ---- return

-- nothing but zeros
pub zeros : (n : ℕ) → all_zero (replicate n 0) ≡ true
zeros n = all_give _ (length (replicate {A = ℕ} n 0)) (λ i l. eq-eqb _ 0 (blank 0 n i))

returned : (n : ℕ) (s z : List ℕ) → n ≡ 0 → (answer_of (unless_refused n z s).answer ≡ said 0 []) × ((unless_refused n z s).bytes ≡ z)
returned n s z e = (rw e, rw e)

-- "A return accepts any state of the right length and leaves it all zero, as first issued."
pub return_issued : (s : List ℕ) → length s ≡ state_length
    → (answer_of (return_call s).answer ≡ said 0 []) × ((return_call s).bytes ≡ replicate state_length 0) × (all_zero (return_call s).bytes ≡ true)
unfolding return_call
return_issued s l =
    let r = returned (return_number s) s (replicate state_length 0) (rw (eq-eqb (length s) state_length l)) in
    (r.0, r.1, subst (λ b. all_zero b ≡ true) (sym r.1) (zeros state_length))

-- the owner's case: nothing of one hirer's auction reaches the next, whatever the state that came back, for an opening of it gives the
-- answer and the bytes that it gives of a new box
pub return_open : (s : List ℕ) (x : Settings) → length s ≡ state_length → open_call (return_call s).bytes x ≡ open_call (replicate state_length 0) x
return_open s x l = ap (λ b. open_call b x) (return_issued s l).1

-- ---- open

module _ (s : List ℕ) (x : Settings) (new : open_number s x ≡ 0) (e : length x.eligibility ≡ 32) (r : length x.row ≡ 8) where
  open_fits : settings_fit x ≡ true
  open_fits =
      let l = granted (eqb (length s) state_length) _ 1 (omega arith) new in
      let z = granted (all_zero s) _ 17 (omega arith) l.1 in
      (granted (settings_fit x) _ 15 (omega arith) z.1).0

  pub open_bytes : (open_call s x).bytes ≡ stored (opened (setup_of x))
  unfolding open_call
  open_bytes = rw new

  -- an opening accepted leaves the auction of its settings,
  pub open_loaded : loaded (open_call s x).bytes ≡ opened (setup_of x)
  open_loaded = rw open_bytes (opens_loads x open_fits e r)

  -- with the settings given,
  pub open_setup : setup (loaded (open_call s x).bytes) ≡ setup_of x
  open_setup = ap setup open_loaded ∙ opens_setup x e

  -- and it stands
  pub open_stands_lem : StandsIn (open_call s x).bytes
  open_stands_lem = rw open_bytes (stored_stands (opened (setup_of x)) (opens x open_fits e) (opens_loads x open_fits e r))

-- a standing state is not opened again: 17, and its bytes stay
pub open_standing : (s : List ℕ) (x : Settings) → StandsIn s → (answer_of (open_call s x).answer ≡ said 17 []) × ((open_call s x).bytes ≡ s)
unfolding open_call
open_standing s x S =
    let n : open_number s x ≡ 17 = rw (eq-eqb (length s) state_length S.long, not_issued s S) in
    (rw n, rw n)

-- ---- file

module _ (s : List ℕ) (S : StandsIn s) (c : List ℕ) where
  pub file_accepts : file_number s c ≡ 0 → card_number c (loaded s) ≡ 0
  file_accepts e = sym (of_standing s S 3 (card_number c)) ∙ e

  file_loads : card_number c (loaded s) ≡ 0 → loaded (stored (after_card c (loaded s))) ≡ after_card c (loaded s)
  file_loads e = files_loads (loaded s) (stood s S) (loaded_long s) c e S.bits

  -- a card accepted: its bidder's slot holds it
  pub file_loaded : file_number s c ≡ 0 → loaded (file_call s c).bytes ≡ after_card c (loaded s)
  unfolding file_call
  file_loaded e = rw e (file_loads (file_accepts e))

  -- "The last valid card in a round stands": its bidder has filed it, and the other slots are as they were
  pub file_holds : file_number s c ≡ 0 → FiledOnly (loaded s) (loaded (file_call s c).bytes)
      (bidder_on (read_card c (loaded s).terms.products).card) (read_card c (loaded s).terms.products).lines
  file_holds e =
      let a = loaded s in
      let b = bidder_on (read_card c a.terms.products).card in
      let ls = (read_card c a.terms.products).lines in
      let h : b < 32 = omega (arith, (file_take a c (file_accepts e)).1, (stood s S).limits.bidders) in
      let n = (loaded_long s).lines in
      let l = read_long c a.terms.products in
      rw (file_loaded e) (record {
        filed = bit_filed a b ls;
        lines = slot_filed a b ls h n l;
        others = λ o d. (bit_other a b ls o d, slot_other a b ls h n l o d);
      })

  file_by : (t : Bool) → eqb (file_number s c) 0 ≡ t → StandsIn (cond t (stored (after_card c (loaded s))) s)
  file_by true e =
      let k = file_accepts (eqb-true (file_number s c) 0 e) in
      stored_stands (after_card c (loaded s)) (files (loaded s) (stood s S) (loaded_long s) c k) (file_loads k)
  file_by false e = S

  -- a card filed or refused leaves a standing state
  pub file_stands : StandsIn (file_call s c).bytes
  unfolding file_call
  file_stands = file_by (eqb (file_number s c) 0) refl

-- what it leaves of bytes is bytes
pub file_bytes : (s c : List ℕ) → Bytes s → Bytes (file_call s c).bytes
unfolding file_call
file_bytes s c B = by (eqb (file_number s c) 0)
  where
    by : (t : Bool) → Bytes (cond t (stored (after_card c (loaded s))) s)
    by true = stored_bytes (after_card c (loaded s))
    by false = B

-- ---- calculate

no_cards_lem : (a : Auction) (os : List Override) (o : Outbid) (t u : Bool)
    → (cond t (at_rest closed a o) (cond u (at_rest stopped a o) (onward os (at_rest closed a o)))).cards.filed ≡ 0
no_cards_lem a os o true u = refl
no_cards_lem a os o false true = refl
no_cards_lem a os o false false = refl

-- no cards are left of a round
settled_filed : (a : Auction) (os : List Override) (o : Outbid) → (settled a os o).cards.filed ≡ 0
settled_filed a os o = no_cards_lem a os o (eqb (excess (at_rest closed a o)) 0) (stops (at_rest closed a o))

round_filed : (a : Auction) (draw : List ℕ) (os : List Override) → (calculated a draw os).auction.cards.filed ≡ 0
unfolding calculated
round_filed a draw os = settled_filed a os (after_step4 a draw (after_step2 a draw).places)

module _ (s : List ℕ) (S : StandsIn s) (draw : List ℕ) (os : List Override) where
  -- a calculation accepted: bids are open, the draw is in order, and every override given is within its limits
  pub calculate_accepts : calculate_number s draw os ≡ 0
      → (is_open (loaded s) ≡ true) × (draw_fits (loaded s).terms.bidders draw ≡ true) × (overrides_fit os ≡ true)
  calculate_accepts e =
      let o = granted (is_open (loaded s)) _ 3 (omega arith) (sym (of_standing s S 3 (round_number draw os)) ∙ e) in
      let d = granted (draw_fits (loaded s).terms.bidders draw) _ 14 (omega arith) o.1 in
      (o.0, d.0, (granted (overrides_fit os) 0 19 (omega arith) d.1).0)

  module _ (e : calculate_number s draw os ≡ 0) where
    round_stood : Stands (calculated (loaded s) draw os).auction
    round_stood =
        let o = calculate_accepts e in
        round_stands (loaded s) draw os (stood s S) (loaded_long s) o.0 o.1 o.2 (bids_accepted (loaded s) (stood s S) o.0)

    round_loads : loaded (stored (calculated (loaded s) draw os).auction) ≡ (calculated (loaded s) draw os).auction
    round_loads =
        let o = calculate_accepts e in
        standing_loads (calculated (loaded s) draw os).auction round_stood
        (round_long (loaded s) draw os (stood s S) (loaded_long s) o.0 o.1 o.2 (bids_accepted (loaded s) (stood s S) o.0))
        (omega (arith, round_filed (loaded s) draw os))

    -- a calculation accepted: the bytes hold the auction that the round leaves,
    pub calculate_loaded : loaded (calculate_call s draw os).bytes ≡ (calculated (loaded s) draw os).auction
    unfolding calculate_call
    calculate_loaded = rw e round_loads

    -- each price worked out by the manager's decrement where one is given, else by the table's
    pub calculate_by_whom : (p : ℕ) → p < (loaded s).terms.products
        → PriceBy (loaded s) (loaded (calculate_call s draw os).bytes) (override_for os p) p
    calculate_by_whom =
        let o = calculate_accepts e in
        rw calculate_loaded
        (round_by (loaded s) draw os (stood s S) (loaded_long s) o.0 o.1 o.2 (bids_accepted (loaded s) (stood s S) o.0))

  calculate_by : (t : Bool) → eqb (calculate_number s draw os) 0 ≡ t
      → StandsIn (cond t (calculation_done (calculated (loaded s) draw os)) (outcome (Err (refusal_of (calculate_number s draw os))) s)).bytes
  calculate_by true e =
      let k = eqb-true (calculate_number s draw os) 0 e in
      stored_stands (calculated (loaded s) draw os).auction (round_stood k) (round_loads k)
  calculate_by false e = S

  -- a round calculated or refused leaves a standing state
  pub calculate_stands : StandsIn (calculate_call s draw os).bytes
  unfolding calculate_call
  calculate_stands = calculate_by (eqb (calculate_number s draw os) 0) refl

-- ---- cutback

module _ (s : List ℕ) (S : StandsIn s) (targets caps : List Tranches) where
  -- a cutback accepted: bids are open, and every condition of 20 is met
  pub cutback_accepts : cutback_number s targets caps ≡ 0 → (is_open (loaded s) ≡ true) × (may_cut (loaded s) targets caps ≡ true)
  cutback_accepts e =
      let o = granted (is_open (loaded s)) _ 3 (omega arith) (sym (of_standing s S 3 (cut_number targets caps)) ∙ e) in
      (o.0, (granted (may_cut (loaded s) targets caps) 0 20 (omega arith) o.1).0)

  -- and where they are met it is accepted
  pub cutback_may : is_open (loaded s) ≡ true → may_cut (loaded s) targets caps ≡ true → cutback_number s targets caps ≡ 0
  cutback_may o m = of_standing s S 3 (cut_number targets caps) ∙ rw (o, m)

  module _ (e : cutback_number s targets caps ≡ 0) where
    cut_stood : Stands (cut_back (loaded s) targets caps)
    cut_stood = let o = cutback_accepts e in cut_stands (loaded s) targets caps (stood s S) o.0 o.1

    cut_loads : loaded (stored (cut_back (loaded s) targets caps)) ≡ cut_back (loaded s) targets caps
    cut_loads =
        let o = cutback_accepts e in
        let f = ap (λ c. c.filed) (cut_only (loaded s) targets caps (stood s S) o.0 o.1).cards in
        standing_loads (cut_back (loaded s) targets caps) cut_stood (cut_long (loaded s) targets caps (stood s S) o.0 o.1 (loaded_long s))
        (omega (arith, f, S.bits))

    -- a cutback accepted: the bytes hold the auction cut back,
    pub cutback_loaded : loaded (cutback_call s targets caps).bytes ≡ cut_back (loaded s) targets caps
    unfolding cutback_call
    cutback_loaded = rw e cut_loads

    -- in which nothing else has changed,
    pub cutback_only : CutOnly (loaded s) (loaded (cutback_call s targets caps).bytes) targets caps
    cutback_only =
        let o = cutback_accepts e in
        rw cutback_loaded (cut_only (loaded s) targets caps (stood s S) o.0 o.1)

    -- at prices worked out from the starting prices
    pub cutback_price : (p : ℕ) → p < (loaded s).terms.products → CutPrice (loaded s) (loaded (cutback_call s targets caps).bytes) p
    cutback_price =
        let o = cutback_accepts e in
        rw cutback_loaded (cut_price (loaded s) targets caps (stood s S) o.0 o.1)

  cutback_by : (t : Bool) → eqb (cutback_number s targets caps) 0 ≡ t → StandsIn (cond t (stored (cut_back (loaded s) targets caps)) s)
  cutback_by true e =
      let k = eqb-true (cutback_number s targets caps) 0 e in
      stored_stands (cut_back (loaded s) targets caps) (cut_stood k) (cut_loads k)
  cutback_by false e = S

  -- a cutback made or refused leaves a standing state
  pub cutback_stands : StandsIn (cutback_call s targets caps).bytes
  unfolding cutback_call
  cutback_stands = cutback_by (eqb (cutback_number s targets caps) 0) refl

-- ---- the suggested volume

-- it is the largest volume v with v x ratio at most tranches bid x 100
pub suggested_largest : (bid ratio : ℕ) → suggested_number bid ratio ≡ 0
    → (suggested_volume bid ratio * ratio ≤ bid * 100) × ((v : ℕ) → v * ratio ≤ bid * 100 → v ≤ suggested_volume bid ratio)
suggested_largest bid ratio e =
    let h = some_ratio ratio (eqb ratio 0) refl e in
    (div-mul-le_self (bid * 100) ratio, λ v l. (le-div_iff_mul-le h).1 l)
  where
    some_ratio : (r : ℕ) (t : Bool) → eqb r 0 ≡ t → ◌≡◌ {A = ℕ} (cond t 31 (cond (leb bid 51200) 0 31)) 0 → 0 < r
    some_ratio r true f g = absurd (let z : ⊥ = omega arith in z)
    some_ratio r false f g = let d = eqb-false r 0 f in omega (arith, d)
