-- "Where an answer is an enum, a definition gives this paper's number and values for each of the enum's cases." Assumes nothing.
use Rattle.std.specs.Prelude.{◌≡◌, cond, List, [], ◌∷◌, ℕ, zero, suc, eqb, Option, None, Some, Result, Ok, Err}
use Rattle.rules.specs.declared.Refusal.{Refusal}
use Rattle.rules.specs.declared.Refusal.TheVariants as refusal
use Rattle.rules.specs.declared.Bid.{Bid}
use Rattle.rules.specs.declared.Calculation.{Calculation}
use Rattle.rules.specs.declared.Phase.{Phase}
use Rattle.rules.specs.declared.Phase.TheVariants.{Issued, Open, Closed, Stopped}
use Rattle.rules.specs.declared.Report.{Report}

-- what a call lent bytes leaves: its answer, and the bytes at the end
pub record Outcome (A : Type 0) : Type 0 where
  pub answer : A
  pub bytes : List ℕ

abbrev pub outcome : {A : Type 0} → A → List ℕ → Outcome A
outcome a s = record { answer = a; bytes = s }

-- what a contract says by the call's definition d, "its answer and the final bytes it was lent": the answer is r, the bytes are s
abbrev pub Leaves : {A : Type 0} → Outcome A → A → List ℕ → Type 0
Leaves d r s = (r ≡ d.answer) × (s ≡ d.bytes)

-- the same of a call that is lent bytes only to read, or none
abbrev pub Gives : {A : Type 0} → A → A → Type 0
Gives d r = r ≡ d

-- the paper's number, 0 where nothing is refused, and the values that the answer itself holds
pub record Said : Type 0 where
  pub number : ℕ
  pub values : List ℕ

abbrev pub said : ℕ → List ℕ → Said
said n vs = record { number = n; values = vs }

-- the phases by the state's first byte
abbrev pub issued : ℕ
issued = 0

abbrev pub bids_open : ℕ
bids_open = 1

abbrev pub closed : ℕ
closed = 2

abbrev pub stopped : ℕ
stopped = 3

abbrev pub phase_number : Phase → ℕ
phase_number Issued = issued
phase_number Open = bids_open
phase_number Closed = closed
phase_number Stopped = stopped

abbrev pub phase_of : ℕ → Phase
phase_of n = cond (eqb n issued) Issued (cond (eqb n bids_open) Open (cond (eqb n closed) Closed Stopped))

-- "the first that applies": this number, or the next one where this is none
abbrev pub first_number : ℕ → ℕ → ℕ
first_number zero next = next
first_number (suc n) next = suc n

-- ---- "Each refusal has one number": document 01's numbers and document 02's

abbrev pub number_of : Refusal → ℕ
number_of refusal.StateLength = 1
number_of refusal.NotStanding = 2
number_of refusal.NotOpen = 3
number_of refusal.CardLength = 4
number_of refusal.Filling = 5
number_of refusal.NoBidder = 6
number_of refusal.OtherRound = 7
number_of refusal.AboveCap = 8
number_of refusal.Reduced = 9
number_of refusal.AboveEligibility = 10
number_of refusal.Withdrawn = 11
number_of refusal.ExitPrice = 12
number_of refusal.Priorities = 13
number_of refusal.Draw = 14
number_of refusal.Setting = 15
number_of refusal.NotClosed = 16
number_of refusal.NotIssued = 17
number_of refusal.RoundOne = 18
number_of refusal.Override = 19
number_of refusal.Cutback = 20
number_of refusal.Order = 23
number_of refusal.ProductCount = 29
number_of refusal.Field = 30
number_of refusal.Suggestion = 31

-- the refusal that has this number
abbrev pub refusal_of : ℕ → Refusal
refusal_of n =
    cond (eqb n 1) refusal.StateLength
    (cond (eqb n 2) refusal.NotStanding
    (cond (eqb n 3) refusal.NotOpen
    (cond (eqb n 4) refusal.CardLength
    (cond (eqb n 5) refusal.Filling
    (cond (eqb n 6) refusal.NoBidder
    (cond (eqb n 7) refusal.OtherRound
    (cond (eqb n 8) refusal.AboveCap
    (cond (eqb n 9) refusal.Reduced
    (cond (eqb n 10) refusal.AboveEligibility
    (cond (eqb n 11) refusal.Withdrawn
    (cond (eqb n 12) refusal.ExitPrice
    (cond (eqb n 13) refusal.Priorities
    (cond (eqb n 14) refusal.Draw
    (cond (eqb n 15) refusal.Setting
    (cond (eqb n 16) refusal.NotClosed
    (cond (eqb n 17) refusal.NotIssued
    (cond (eqb n 18) refusal.RoundOne
    (cond (eqb n 19) refusal.Override
    (cond (eqb n 20) refusal.Cutback
    (cond (eqb n 23) refusal.Order
    (cond (eqb n 29) refusal.ProductCount
    (cond (eqb n 30) refusal.Field
    refusal.Suggestion))))))))))))))))))))))

-- the answer of open, file, cutback, return and write
abbrev pub Answer : Type 0
Answer = Result (Unit {0}) Refusal

-- a call's number as its answer: 0 is what it gives, any other the refusal
abbrev pub answer_or : {A : Type 0} → ℕ → A → Result A Refusal
answer_or zero x = Ok x
answer_or (suc n) x = Err (refusal_of (suc n))

abbrev pub answer_from : ℕ → Answer
answer_from n = answer_or n tt

-- the new bytes where nothing is refused; "Every refusal returns its number only and writes nothing."
abbrev pub unless_refused : ℕ → List ℕ → List ℕ → Outcome Answer
unless_refused n new old = outcome (answer_from n) (cond (eqb n 0) new old)

-- what an answer says: the number of its refusal, or 0 and its values
abbrev pub says : {A : Type 0} → (A → List ℕ) → Result A Refusal → Said
says values (Ok x) = said 0 (values x)
says values (Err e) = said (number_of e) []

abbrev pub answer_of : Answer → Said
answer_of = says (λ x. [])

-- a field that ends past the card is a card of the wrong length, number 4
abbrev pub field_said : Option ℕ → Said
field_said (Some v) = said 0 (v ∷ [])
field_said None = said 4 []

abbrev pub card_said : Result Bid Refusal → Said
card_said = says (λ x. x.bidder ∷ x.round ∷ [])

abbrev pub count_said : Result ℕ Refusal → Said
count_said = says (λ n. n ∷ [])

abbrev pub calculation_said : Result Calculation Refusal → Said
calculation_said = says (λ c. c.kept ∷ c.outbid ∷ [])

abbrev pub report_said : Result Report Refusal → Said
report_said = says (λ r. r.free.0 ∷ phase_number r.phase ∷ r.range.low ∷ r.range.high ∷ [])

abbrev pub award_said : Answer → Said
award_said = answer_of

abbrev pub volume_said : Result ℕ Refusal → Said
volume_said = count_said
