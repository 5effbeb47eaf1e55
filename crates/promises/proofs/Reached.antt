-- Document 02, request 11: no smaller bound holds. The quiet rounds of starred/Quiet, by calls from an opening. Assumes nothing.
use mathlib.Core.Path.{◌≡◌, refl, sym, ◌∙◌, ap}
use mathlib.Core.Bool.{true}
use mathlib.Core.List.{List, [], ◌∷◌, ◌++◌}
use Prim.Native.Nat.{ℕ, zero, suc, ◌+◌, ◌≤◌, ◌<◌}
use native.Mathlib.Omega.{arith}
use borrow.Author.Tests.{leb-true}
use lib.ListN.{length, length-append, get_or, replicate}
use lib.Dec.{leb}
use Rattle.rules.specs.declared.Line.{Line}
use Rattle.rules.specs.declared.Product.{Product}
use Rattle.rules.specs.declared.Settings.{Settings}
use Rattle.rules.specs.declared.Unit.TheVariants as unit
use Rattle.rules.specs.declared.Auction.{Auction}
use Rattle.rules.specs.Count.{all_up_to, from}
use Rattle.rules.specs.Units.{tranches, quote}
use Rattle.rules.specs.Parts.{row, no_row, no_lane}
use Rattle.rules.specs.Settings.{setup, no_product, setup_of, target_of}
use Rattle.rules.specs.Card.{card_of}
use Rattle.rules.specs.Lots.{in_order, exits_fit}
use Rattle.rules.specs.Held.{held}
use Rattle.rules.specs.Bid.{judged, price_at}
use Rattle.rules.specs.Round.{calculated}
use Rattle.rules.specs.Legal.{is_open}
use Rattle.rules.specs.Calls.{opened, open_number, with_card, round_number}
use Rattle.rules.specs.Uses.{Call, files, calculates, after}
use Rattle.starred.specs.Cases.{T, b, card, filed, figures, draw, Holds, All}
use Rattle.starred.specs.Quiet.{s, q1, q2, q3, q4, q5, q6, quiet, quiet_hold}
use Rattle.laws.specs.Quiet.{Quiet, denied_standing, volume}
use Rattle.laws.proofs.OneCall.{open_stands_lem, open_loaded}
use Rattle.promises.specs.Runs.{run, opened_by, round_of, rounds, cutbacks}
use Rattle.promises.specs.Quiet.{Calculates, MovesWithin, Played, Enough, Reached}
use Rattle.promises.proofs.Useful.{new_box, new_takes}
use Rattle.promises.proofs.Boxes.{Box, valid, card_for, box_filed, box_rounds, box_calculated}
use Rattle.promises.proofs.Quiet.{unmoved}

-- ---- setting T

abbrev product : Product
product = record { target = tranches 2; cap = tranches 2; start = (quote 0 1000).price }

unfoldable pub setting_t : Settings
setting_t = record {
  unit = unit.Kwh;
  products = 2;
  bidders = 3;
  rows = 2;
  statewide = tranches 4;
  product = product ∷ product ∷ replicate 6 no_product;
  eligibility = tranches 3 ∷ tranches 3 ∷ tranches 3 ∷ replicate 29 (tranches 0);
  row = row 0 100 ∷ row 50 300 ∷ replicate 6 no_row;
}

pub T_opens : open_number new_box setting_t ≡ 0
unfolding setting_t setup_of all_up_to from
T_opens = new_takes setting_t refl

abbrev b0 : List ℕ
b0 = opened_by new_box setting_t

B0 : Box b0 (opened T)
unfolding setting_t setup_of opened from
B0 = record {
  stands = open_stands_lem new_box setting_t T_opens refl refl;
  is = open_loaded new_box setting_t T_opens refl refl;
}

-- ---- round by round: the box c with the cards of a round, and the box b after its calculation

abbrev cards : ℕ → List Line → List Line → List Line → List Call
cards r x y z = files (card_of 2 0 r x) ∷ files (card_of 2 1 r y) ∷ files (card_of 2 2 r z) ∷ []

abbrev calculation : Call
calculation = calculates (draw 0 1 2) []

module _ (s : List ℕ) (a : Auction) (B : Box s a) where
  three : (x y z : List Line) → valid a 0 x ≡ true → valid (with_card a 0 x) 1 y ≡ true → valid (with_card (with_card a 0 x) 1 y) 2 z ≡ true
      → Box (run s (files (card_for a 0 x) ∷ files (card_for (with_card a 0 x) 1 y) ∷ files (card_for (with_card (with_card a 0 x) 1 y) 2 z) ∷ [])) (filed a x y z)
  three x y z u v w = box_filed _ _ (box_filed _ _ (box_filed s a B 0 x u) 1 y v) 2 z w

  turn : (w : Auction) (k o : ℕ) → round_number (draw 0 1 2) [] a ≡ 0 → calculated a (draw 0 1 2) [] ≡ figures w k o
      → Calculates s calculation × Box (after s calculation) w
  turn w k o e f =
      let C = box_calculated s a B (draw 0 1 2) e in
      (box_rounds s a B (draw 0 1 2) e, record { stands = C.stands; is = C.is ∙ ap (λ c. c.auction) f })

abbrev cards1 : List Call
cards1 = cards 1 (card (b 0) (b 2)) (card (b 1) (b 1)) (card (b 0) (b 1))

abbrev c1 : List ℕ
c1 = run b0 cards1

abbrev b1 : List ℕ
b1 = after c1 calculation

turn1 : Calculates c1 calculation × Box b1 q1
unfolding opened with_card judged all_up_to from in_order exits_fit Holds All quiet
turn1 = turn c1 _ (three b0 (opened T) B0 _ _ _ refl refl refl) q1 0 0 refl quiet_hold.0.2

abbrev cards2 : List Call
cards2 = cards 2 (card (s 2) (b 0)) (card (s 2) (b 0)) (card (s 1) (b 0))

abbrev c2 : List ℕ
c2 = run b1 cards2

abbrev b2 : List ℕ
b2 = after c2 calculation

turn2 : Calculates c2 calculation × Box b2 q2
unfolding opened with_card judged all_up_to from in_order exits_fit Holds All quiet
turn2 = turn c2 _ (three b1 q1 turn1.1 _ _ _ refl refl refl) q2 2 0 refl quiet_hold.1.0.2

abbrev cards3 : List Call
cards3 = cards 3 (card (b 0) (b 0)) (card (b 0) (s 2)) (card (b 0) (s 1))

abbrev c3 : List ℕ
c3 = run b2 cards3

abbrev b3 : List ℕ
b3 = after c3 calculation

turn3 : Calculates c3 calculation × Box b3 q3
unfolding opened with_card judged all_up_to from in_order exits_fit Holds All quiet
turn3 = turn c3 _ (three b2 q2 turn2.1 _ _ _ refl refl refl) q3 2 1 refl quiet_hold.1.1.0.2

abbrev cards4 : List Call
cards4 = cards 4 (card (b 1) (b 0)) (card (b 0) (b 0)) (card (b 0) (b 1))

abbrev c4 : List ℕ
c4 = run b3 cards4

abbrev b4 : List ℕ
b4 = after c4 calculation

turn4 : Calculates c4 calculation × Box b4 q4
unfolding opened with_card judged all_up_to from in_order exits_fit Holds All quiet
turn4 = turn c4 _ (three b3 q3 turn3.1 _ _ _ refl refl refl) q4 0 1 refl quiet_hold.1.1.1.0.2

abbrev cards5 : List Call
cards5 = cards 5 (card (b 1) (b 0)) (card (b 0) (b 1)) (card (b 0) (b 1))

abbrev c5 : List ℕ
c5 = run b4 cards5

abbrev b5 : List ℕ
b5 = after c5 calculation

turn5 : Calculates c5 calculation × Box b5 q5
unfolding opened with_card judged all_up_to from in_order exits_fit Holds All quiet
turn5 = turn c5 _ (three b4 q4 turn4.1 _ _ _ refl refl refl) q5 0 1 refl quiet_hold.1.1.1.1.0.2

abbrev cards6 : List Call
cards6 = cards 6 (card (b 2) (b 0)) (card (b 0) (b 1)) (card (b 0) (b 1))

abbrev c6 : List ℕ
c6 = run b5 cards6

abbrev b6 : List ℕ
b6 = after c6 calculation

turn6 : Calculates c6 calculation × Box b6 q6
unfolding opened with_card judged all_up_to from in_order exits_fit Holds All quiet
turn6 = turn c6 _ (three b5 q5 turn5.1 _ _ _ refl refl refl) q6 0 1 refl quiet_hold.1.1.1.1.1.0.2

-- ---- the calls from each of the quiet boxes on

abbrev from5 : List Call
from5 = cards6 ++ calculation ∷ []

abbrev from4 : List Call
from4 = cards5 ++ calculation ∷ from5

abbrev from3 : List Call
from3 = cards4 ++ calculation ∷ from4

abbrev from2 : List Call
from2 = cards3 ++ calculation ∷ from3

one_more : (s : List ℕ) (cs : List Call) (n : ℕ) → Calculates s calculation → length (rounds (after s calculation) cs) ≡ n
    → length (rounds s (calculation ∷ cs)) ≡ n + 1
one_more s cs n o e = omega (arith, length-append (round_of s calculation) (rounds (after s calculation) cs))

count5 : length (rounds b5 from5) ≡ 1
count5 = one_more c6 [] 0 turn6.0 refl

count4 : length (rounds b4 from4) ≡ 2
count4 = one_more c5 from5 1 turn5.0 count5

count3 : length (rounds b3 from3) ≡ 3
count3 = one_more c4 from4 2 turn4.0 count4

count2 : length (rounds b2 from2) ≡ 4
count2 = one_more c3 from3 3 turn3.0 count3

-- they end in q6, with bids open and at the prices of each of these boxes
still_there : (s : List ℕ) (a : Auction) → Box s a → (cs : List Call) → cutbacks s cs ≡ [] → Box (run s cs) q6 → q6.lanes ≡ a.lanes
    → (k : ℕ) → MovesWithin k s cs → ⊥
still_there s a B cs u Z e =
    unmoved s B.stands cs u (ap is_open Z.is) (λ p _.
    ap (λ a. price_at a p) Z.is ∙ ap (λ l. (get_or l p no_lane).price) e ∙ sym (ap (λ a. price_at a p) B.is))

reaches : (s : List ℕ) (a : Auction) (cs : List Call) (d : ℕ) → Played s → Calculates s calculation × Box (after s calculation) a → Quiet a → denied_standing a ≡ d
    → length (rounds (after s calculation) cs) ≡ d → cutbacks (after s calculation) cs ≡ [] → Box (run (after s calculation) cs) q6 → q6.lanes ≡ a.lanes
    → Reached s calculation cs d
reaches s a cs d P t q e n u Z l = record {
  played = P;
  calculates = t.0;
  quiet = rw t.1.is q;
  denied = ap denied_standing t.1.is ∙ e;
  follow = n;
  unmoved = still_there (after s calculation) a t.1 cs u Z l;
}

-- the calls to each of these boxes
abbrev to3 : List Call
to3 = cards1 ++ calculation ∷ cards2 ++ calculation ∷ cards3

abbrev to4 : List Call
to4 = to3 ++ calculation ∷ cards4

abbrev to5 : List Call
to5 = to4 ++ calculation ∷ cards5

abbrev to6 : List Call
to6 = to5 ++ calculation ∷ cards6

played : (cs : List Call) → Played (run b0 cs)
unfolding setting_t
played cs = record { issued = new_box; settings = setting_t; eligibility = refl; row = refl; opens = T_opens; calls = cs; left = refl }

-- of an auction with two products
quiet_by : (a : Auction) → a.terms.products ≡ 2 → is_open a ≡ true → leb (held a.records a.terms.bidders 0) (target_of (setup a) 0) ≡ true
    → leb (held a.records a.terms.bidders 1) (target_of (setup a) 1) ≡ true → Quiet a
quiet_by a e o x y = record { bidding = o; none_above = λ p h. by p (omega arith) }
  where
    by : (p : ℕ) → p < 2 → held a.records a.terms.bidders p ≤ target_of (setup a) p
    by zero h = leb-true _ _ x
    by (suc zero) h = leb-true _ _ y
    by (suc (suc p)) h = absurd (let z : ⊥ = omega arith in z)

-- "within D + 1 further calculations": with D of 3, 2, 1 and 0, D are not enough
pub bound_reached : Reached c3 calculation from3 3 × Reached c4 calculation from4 2 × Reached c5 calculation from5 1 × Reached c6 calculation [] 0
unfolding from
bound_reached = (
  reaches c3 q3 from3 3 (played to3) turn3 (quiet_by q3 refl refl refl refl) refl count3 refl turn6.1 refl,
  reaches c4 q4 from4 2 (played to4) turn4 (quiet_by q4 refl refl refl refl) refl count4 refl turn6.1 refl,
  reaches c5 q5 from5 1 (played to5) turn5 (quiet_by q5 refl refl refl refl) refl count5 refl turn6.1 refl,
  reaches c6 q6 [] 0 (played to6) turn6 (quiet_by q6 refl refl refl refl) refl refl refl turn6.1 refl,
)

-- so that nobody can say "within D"
pub no_smaller : (d k : ℕ) → d < 4 → k ≤ d → Enough k d → ⊥
no_smaller d k h l all = by d h l all
  where
    against : (s : List ℕ) (cs : List Call) (d : ℕ) → Reached s calculation cs d → k ≤ d → Enough k d → ⊥
    against s cs d R l all = R.unmoved k (all s R.played calculation R.calculates R.quiet R.denied cs (omega (arith, R.follow)))

    by : (d : ℕ) → d < 4 → k ≤ d → Enough k d → ⊥
    by zero h = against c6 [] 0 bound_reached.3
    by (suc zero) h = against c5 from5 1 bound_reached.2
    by (suc (suc zero)) h = against c4 from4 2 bound_reached.1
    by (suc (suc (suc zero))) h = against c3 from3 3 bound_reached.0
    by (suc (suc (suc (suc d)))) h = absurd (let x : ⊥ = omega arith in x)

-- nor fewer calculations in a row than there are tranches in all: here four of each
pub volume_reached : (volume (setup_of setting_t) ≡ 4) × (length (rounds b2 from2) ≡ 4) × ((k : ℕ) → MovesWithin k b2 from2 → ⊥)
unfolding setting_t setup_of from
volume_reached = (refl, count2, still_there b2 q2 turn2.1 from2 refl turn6.1 refl)
