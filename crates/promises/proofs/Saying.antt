-- What each call says: document 01's number, 0 where nothing is refused, and the values of its answer. Assumes nothing.
use mathlib.Core.Path.{◌≡◌, refl, ◌∙◌, ap}
use mathlib.Core.Logic.{◌⊎◌, inl, inr}
use native.Mathlib.Omega.{arith}
use borrow.Author.Tests.{ne_eqb}
use mathlib.Core.Bool.{Bool, true, false, ◌&&◌, cond}
use mathlib.Core.List.{List, [], ◌∷◌}
use Prim.Native.Nat.{ℕ, zero, suc}
use lib.Dec.{eqb, ltb, leb}
use Rattle.rules.specs.Bid.{judged}
use Rattle.rules.specs.Settings.{settings_fit}
use Rattle.rules.specs.Legal.{stands, is_open}
use Rattle.rules.proofs.Numbered.{numbered}
use Rattle.rules.specs.declared.Auction.{Auction}
use Rattle.rules.specs.declared.Calculation.{Calculation}
use Rattle.rules.specs.declared.Bid.{Bid}
use Rattle.rules.specs.declared.Refusal.{Refusal}
use Rattle.std.specs.Prelude.{Err, Result, Ok}
use Rattle.rules.specs.Price.{Override}
use Rattle.rules.specs.declared.Tranches.{Tranches}
use Rattle.rules.specs.declared.Line.{Line}
use Rattle.rules.specs.declared.CardRead.{CardRead}
use Rattle.rules.specs.declared.Settings.{Settings}
use Rattle.rules.specs.declared.Calculated.{Calculated}
use Rattle.rules.specs.declared.Reported.{Reported}
use Rattle.rules.specs.declared.Awarded.{Awarded}
use Rattle.rules.specs.Answers.{said, outcome, answer_from, answer_of, card_said, count_said, calculation_said, report_said, award_said, volume_said, phase_number, phase_of, refusal_of, Outcome, Said, number_of, answer_or, first_number, closed}
use Rattle.rules.specs.Held.{free_of, excess}
use Rattle.rules.specs.Report.{range_of, report_on, report_refused, result_of, result_refused}
use Rattle.rules.specs.Round.{calculated, calculated_plain, draw_fits, order_fits, overrides_fit}
use Rattle.rules.specs.Cutback.{suggested_volume, suggested_number, may_cut}
use Rattle.rules.specs.Layout.{loaded, state_length, all_zero}
use Rattle.rules.specs.Bits.{field_at}
use Rattle.rules.specs.Card.{no_line, card_length, count_fits, filled, read_lines, read_refused, bid_of, read_number, read_card, write_number, write_card, writable}
use Rattle.rules.specs.Calls.{open_number, open_call, file_number, file_call, count_number, count_call, to_file, calculation_done, calculate_number, calculate_call, plain_number, plain_call, cutback_number, cutback_call, report_number, report_call, result_number, result_call, return_number, return_call, read_call, write_call, suggested_call, of_state, open_number_of, round_number, order_number, cut_number, bidder_number, closed_number, card_number, bid_number}
use lib.ListN.{length, replicate}

-- ---- the number of each call is 0 or some refusal's

record Known (n : ℕ) : Type 0 where
  is : (n ≡ 0) ⊎ (number_of (refusal_of n) ≡ n)

none : Known 0
none = record { is = inl refl }

one : (n : ℕ) → number_of (refusal_of n) ≡ n → Known n
one n e = record { is = inr e }

known_if : (t : Bool) {n m : ℕ} → Known n → Known m → Known (cond t n m)
known_if true k l = k
known_if false k l = l

known_said : (n : ℕ) → Known n → answer_of (answer_from n) ≡ said n []
known_said n k = by n k.is
  where
    by : (n : ℕ) → (n ≡ 0) ⊎ (number_of (refusal_of n) ≡ n) → answer_of (answer_from n) ≡ said n []
    by zero c = refl
    by (suc n) (inl e) = absurd (let x : ⊥ = omega arith in x)
    by (suc n) (inr e) = ap (λ k. said k []) e

module _ (s : List ℕ) where
  of_state_known : (w : ℕ) (f : Auction → ℕ) → Known w → Known (f (loaded s)) → Known (of_state s w f)
  of_state_known w f k l = known_if (eqb (length s) state_length) (known_if (all_zero s) k (known_if (stands (loaded s)) l (one 2 refl))) (one 1 refl)

  open_known : (x : Settings) → Known (open_number s x)
  open_known x =
      known_if (eqb (length s) state_length) (known_if (all_zero s) (known_if (settings_fit x) none (one 15 refl)) (one 17 refl)) (one 1 refl)

  return_known : Known (return_number s)
  return_known = known_if (eqb (length s) state_length) none (one 1 refl)

  count_known : Known (count_number s)
  count_known = of_state_known 3 open_number_of (one 3 refl) (known_if (is_open (loaded s)) none (one 3 refl))

  calculate_known : (draw : List ℕ) (os : List Override) → Known (calculate_number s draw os)
  calculate_known draw os =
      of_state_known 3 (round_number draw os) (one 3 refl)
      (known_if (is_open (loaded s))
      (known_if (draw_fits (loaded s).terms.bidders draw) (known_if (overrides_fit os) none (one 19 refl)) (one 14 refl)) (one 3 refl))

  plain_known : (draw : List ℕ) (os : List Override) (order : List ℕ) → Known (plain_number s draw os order)
  plain_known draw os order =
      first_known (calculate_number s draw os) _ (calculate_known draw os)
      (known_if (order_fits (loaded s).terms.products order) none (one 23 refl))
    where
      first_known : (n m : ℕ) → Known n → Known m → Known (first_number n m)
      first_known zero m k l = l
      first_known (suc n) m k l = k

  cutback_known : (targets caps : List Tranches) → Known (cutback_number s targets caps)
  cutback_known targets caps =
      of_state_known 3 (cut_number targets caps) (one 3 refl)
      (known_if (is_open (loaded s)) (known_if (may_cut (loaded s) targets caps) none (one 20 refl)) (one 3 refl))

  report_known : (b : ℕ) → Known (report_number s b)
  report_known b =
      of_state_known 3 (bidder_number b) (one 3 refl)
      (known_if (ltb b (loaded s).terms.bidders) (known_if (is_open (loaded s) && eqb (loaded s).round 1) (one 18 refl) none) (one 6 refl))

  result_known : Known (result_number s)
  result_known = of_state_known 16 closed_number (one 16 refl) (known_if (eqb (loaded s).phase closed) none (one 16 refl))

judged_known : (a : Auction) (b : ℕ) (ls : List Line) → Known (judged a b ls)
unfolding judged
judged_known a b ls =
    known_if _ (one 8 refl) (known_if _ (one 9 refl) (known_if _ (one 10 refl) (known_if _ (one 11 refl) (known_if _ (one 12 refl) (known_if _ (one 13 refl) none)))))

bid_known : (a : Auction) (x : Result Bid Refusal) (ls : List Line) → Known (bid_number a x ls)
bid_known a (Ok x) ls =
    known_if (ltb x.bidder a.terms.bidders) (known_if (eqb x.round a.round) (judged_known a x.bidder ls) (one 7 refl)) (one 6 refl)
bid_known a (Err e) ls = one (number_of e) (ap number_of (numbered e).1)

file_known : (s c : List ℕ) → Known (file_number s c)
file_known s c = of_state_known s 3 (card_number c) (one 3 refl) (known_if (is_open (loaded s)) (bid_known (loaded s) _ _) (one 3 refl))

write_known : (room n b r : ℕ) (ls : List Line) → Known (write_number room n b r ls)
unfolding write_number
write_known room n b r ls =
    known_if (count_fits n) (known_if (eqb room (card_length n)) (known_if (writable n b r ls) none (one 30 refl)) (one 4 refl)) (one 29 refl)

suggested_known : (bid ratio : ℕ) → Known (suggested_number bid ratio)
suggested_known bid ratio = known_if (eqb ratio 0) (one 31 refl) (known_if (leb bid 51200) none (one 31 refl))

-- ---- what it says

-- open, file, cutback, return and write say their number
pub open_said : (s : List ℕ) (x : Settings) → answer_of (open_call s x).answer ≡ said (open_number s x) []
unfolding open_call
open_said s x = known_said (open_number s x) (open_known s x)

pub file_said : (s c : List ℕ) → answer_of (file_call s c).answer ≡ said (file_number s c) []
unfolding file_call
file_said s c = known_said (file_number s c) (file_known s c)

pub cutback_said : (s : List ℕ) (targets caps : List Tranches)
    → answer_of (cutback_call s targets caps).answer ≡ said (cutback_number s targets caps) []
unfolding cutback_call
cutback_said s targets caps = known_said (cutback_number s targets caps) (cutback_known s targets caps)

pub return_said : (s : List ℕ) → answer_of (return_call s).answer ≡ said (return_number s) []
unfolding return_call
return_said s = known_said (return_number s) (return_known s)

pub write_said : (room : List ℕ) (n b r : ℕ) (ls : List Line)
    → answer_of (write_call room n b r ls).answer ≡ said (write_number (length room) n b r ls) []
unfolding write_card
write_said room n b r ls = known_said (write_number (length room) n b r ls) (write_known (length room) n b r ls)

-- read says the bidder and the round, and the lines stand beside it; or its number with all lines zero
read_by : (c l f : Bool) (bid : CardRead)
    → (card_said (cond c (cond l (cond f bid (read_refused 5)) (read_refused 4)) (read_refused 29)).card
    ≡ cond (eqb (cond c (cond l (cond f 0 5) 4) 29) 0) (card_said bid.card) (said (cond c (cond l (cond f 0 5) 4) 29) []))
    × ((cond c (cond l (cond f bid (read_refused 5)) (read_refused 4)) (read_refused 29)).lines
    ≡ cond (eqb (cond c (cond l (cond f 0 5) 4) 29) 0) bid.lines (replicate 8 no_line))
read_by true true true bid = (refl, refl)
read_by true true false bid = (refl, refl)
read_by true false f bid = (refl, refl)
read_by false l f bid = (refl, refl)

pub read_said : (s : List ℕ) (n : ℕ)
    → (card_said (read_call s n).card
    ≡ cond (eqb (read_number s n) 0) (said 0 (field_at s 0 5 ∷ field_at s 5 12 ∷ [])) (said (read_number s n) []))
    × ((read_call s n).lines ≡ cond (eqb (read_number s n) 0) (read_lines s n) (replicate 8 no_line))
unfolding read_card
read_said s n = read_by (count_fits n) (eqb (length s) (card_length n)) (filled s n) (bid_of s n)

-- count says how many are still to file
count_by : (n m : ℕ) → Known n → count_said (answer_or n m) ≡ cond (eqb n 0) (said 0 (m ∷ [])) (said n [])
count_by n m k = by n k.is
  where
    by : (n : ℕ) → (n ≡ 0) ⊎ (number_of (refusal_of n) ≡ n) → count_said (answer_or n m) ≡ cond (eqb n 0) (said 0 (m ∷ [])) (said n [])
    by zero c = refl
    by (suc n) (inl e) = absurd (let x : ⊥ = omega arith in x)
    by (suc n) (inr e) = rw (ne_eqb (suc n) 0 (omega arith)) (ap (λ k. said k []) e)

-- an answer by its number, as said
by_number : {A : Type 0} (says : A → Said) (n : ℕ) (x y : A) → Known n → says y ≡ said (number_of (refusal_of n)) []
    → says (cond (eqb n 0) x y) ≡ cond (eqb n 0) (says x) (said n [])
by_number says n x y k h = by n k.is h
  where
    by : (n : ℕ) → (n ≡ 0) ⊎ (number_of (refusal_of n) ≡ n) → says y ≡ said (number_of (refusal_of n)) []
        → says (cond (eqb n 0) x y) ≡ cond (eqb n 0) (says x) (said n [])
    by zero c h = refl
    by (suc n) (inl e) h = absurd (let x : ⊥ = omega arith in x)
    by (suc n) (inr e) h = rw (ne_eqb (suc n) 0 (omega arith)) (h ∙ ap (λ k. said k []) e)

pub count_said_lem : (s : List ℕ)
    → count_said (count_call s) ≡ cond (eqb (count_number s) 0) (said 0 (to_file (loaded s) ∷ [])) (said (count_number s) [])
unfolding count_call
count_said_lem s = count_by (count_number s) (to_file (loaded s)) (count_known s)

-- calculate says the counts kept and outbid
pub calculate_said : (s draw : List ℕ) (os : List Override)
    → calculation_said (calculate_call s draw os).answer
    ≡ cond (eqb (calculate_number s draw os) 0)
    (said 0 ((calculated (loaded s) draw os).kept ∷ (calculated (loaded s) draw os).outbid ∷ []))
    (said (calculate_number s draw os) [])
unfolding calculate_call
calculate_said s draw os =
    by_number (λ (o : Outcome (Result Calculation Refusal)). calculation_said o.answer) (calculate_number s draw os) _ _ (calculate_known s draw os) refl

pub plain_said : (s draw : List ℕ) (os : List Override) (order : List ℕ)
    → calculation_said (plain_call s draw os order).answer
    ≡ cond (eqb (plain_number s draw os order) 0)
    (said 0 ((calculated_plain (loaded s) draw os order).kept ∷ (calculated_plain (loaded s) draw os order).outbid ∷ []))
    (said (plain_number s draw os order) [])
unfolding plain_call
plain_said s draw os order =
    by_number (λ (o : Outcome (Result Calculation Refusal)). calculation_said o.answer) (plain_number s draw os order) _ _ (plain_known s draw os order) refl

-- report says f, the phase and the range
pub report_said_lem : (s : List ℕ) (b : ℕ)
    → report_said (report_call s b).report
    ≡ cond (eqb (report_number s b) 0)
    (said 0 (
    free_of (loaded s) b
    ∷ phase_number (phase_of (loaded s).phase) ∷ (range_of (excess (loaded s))).low ∷ (range_of (excess (loaded s))).high ∷ []))
    (said (report_number s b) [])
unfolding report_call report_on
report_said_lem s b = by_number (λ (r : Reported). report_said r.report) (report_number s b) _ _ (report_known s b) refl

-- result says its number, and the awards and prices stand beside it
pub result_said : (s : List ℕ)
    → award_said (result_call s).award ≡ cond (eqb (result_number s) 0) (said 0 []) (said (result_number s) [])
unfolding result_call result_of
result_said s = by_number (λ (r : Awarded). award_said r.award) (result_number s) _ _ (result_known s) refl

-- the suggested volume, or 31
pub suggested_said : (bid ratio : ℕ)
    → volume_said (suggested_call bid ratio)
    ≡ cond (eqb (suggested_number bid ratio) 0) (said 0 (suggested_volume bid ratio ∷ [])) (said (suggested_number bid ratio) [])
unfolding suggested_call
suggested_said bid ratio = count_by (suggested_number bid ratio) (suggested_volume bid ratio) (suggested_known bid ratio)
