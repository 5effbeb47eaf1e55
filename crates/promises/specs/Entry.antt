-- Document 02, request 6: "Who filed first doesn't matter." Cards filed one after the other, and in another order. Assumes nothing.
use Rattle.rules.specs.Answers.{Answer}
use Rattle.std.specs.Prelude.{◌≡◌, Bool, false, ◌&&◌, ◌||◌, not, cond, List, [], ◌∷◌, map, ℕ, eqb}
use Rattle.rules.specs.declared.Line.{Line}
use Rattle.rules.specs.Card.{read_card}
use Rattle.rules.specs.Layout.{loaded}
use Rattle.rules.specs.Calls.{bidder_on, file_number, file_call}
use Rattle.rules.specs.Uses.{Call, files}
use Rattle.laws.specs.OneCall.{FiledOnly}

-- ---- two cards

-- the bidder that the card c names, in the auction that the state s holds
abbrev pub bidder_of : List ℕ → List ℕ → ℕ
bidder_of s c = bidder_on (read_card c (loaded s).terms.products).card

-- and the lines on it
abbrev pub lines_of : List ℕ → List ℕ → List Line
lines_of s c = (read_card c (loaded s).terms.products).lines

-- "two .. valid cards of one bidder"
pub record OfOneBidder (s c d : List ℕ) : Type 0 where
  pub first : file_number s c ≡ 0
  pub second : file_number s d ≡ 0
  pub bidder : bidder_of s c ≡ bidder_of s d

-- not "two different valid cards of one bidder": the cards name two bidders, or one of them is refused, or they are the same card
abbrev pub MayExchange : List ℕ → List ℕ → List ℕ → Type 0
MayExchange s c d = OfOneBidder s c d → c ≡ d

-- they "leave the same state in either order and get the same answers": c first and then d, and d first and then c
pub record EitherOrder (s c d : List ℕ) : Type 0 where
  pub state : (file_call (file_call s c).bytes d).bytes ≡ (file_call (file_call s d).bytes c).bytes
  pub answer_c : (file_call s c).answer ≡ (file_call (file_call s d).bytes c).answer
  pub answer_d : (file_call (file_call s c).bytes d).answer ≡ (file_call s d).answer

-- "the later stands": c and then d leave what d alone leaves, in which d is the bid that their bidder has filed
pub record LaterStands (s c d : List ℕ) : Type 0 where
  pub state : (file_call (file_call s c).bytes d).bytes ≡ (file_call s d).bytes
  pub filed : FiledOnly (loaded s) (loaded (file_call (file_call s c).bytes d).bytes) (bidder_of s d) (lines_of s d)

-- ---- any number of cards

-- the cards as calls, in their order
abbrev pub filings : List (List ℕ) → List Call
filings cs = map files cs

-- the answer to each
abbrev pub answers_to : List ℕ → List (List ℕ) → List Answer
answers_to s [] = []
answers_to s (c ∷ cs) = (file_call s c).answer ∷ answers_to (file_call s c).bytes cs

-- whether one of the cards is valid and of bidder b
abbrev pub has_valid : List ℕ → ℕ → List (List ℕ) → Bool
has_valid s b [] = false
has_valid s b (c ∷ cs) = (eqb (file_number s c) 0 && eqb (bidder_of s c) b) || has_valid s b cs

-- "the later stands": of the cards, the valid ones that no later valid one of the same bidder follows
abbrev pub last_valid : List ℕ → List (List ℕ) → List (List ℕ)
last_valid s [] = []
last_valid s (c ∷ cs) = cond (eqb (file_number s c) 0 && not (has_valid s (bidder_of s c) cs)) (c ∷ last_valid s cs) (last_valid s cs)
