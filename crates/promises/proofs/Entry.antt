-- Document 02, request 6: "Clerks ask whether entry order can change a round." Of any bytes of a state. Assumes nothing.
use mathlib.Core.Path.{◌≡◌, refl, sym, ◌∙◌, ap, ap₂, subst}
use mathlib.Core.Logic.Or
use mathlib.Core.Logic.{∥∥₁_elim}
use mathlib.Core.HLevel.{hedberg}
use mathlib.Core.Bool.{Bool, true, false, ◌&&◌, ◌||◌, not, cond, Bool-set}
use mathlib.Core.List.Permᴰ
use mathlib.Core.List.Pairwise
use mathlib.Core.List.{List, [], ◌∷◌, map, Mem, mem-cons_self, not-mem-nil, eq-or-mem_of_mem-cons, List-discrete, Perm, Permᴰ, Pairwise}
use Prim.Native.Nat.{ℕ}
use native.Mathlib.Omega.{arith}
use native.Mathlib.Decide.{ℕ_discrete}
use borrow.Author.Tests.{eqb-true, eqb-false, eq-eqb}
use lib.Dec.{eqb}
use Rattle.rules.specs.Price.{Override}
use Rattle.rules.specs.Answers.{answer_from}
use Rattle.rules.specs.Bits.{Bytes}
use Rattle.rules.specs.Card.{read_card}
use Rattle.rules.specs.Bid.{slot_of}
use Rattle.rules.specs.Layout.{stored, loaded}
use Rattle.rules.specs.Calls.{card_number, file_number, with_card, bidder_on, after_card, file_call, calculate_call}
use Rattle.rules.proofs.Sums.{and_left, and_right}
use Rattle.rules.proofs.Lists.{clash}
use Rattle.rules.proofs.Filing.{number_filed, Entry, Room, exchanged, later_filed}
use Rattle.rules.proofs.Storing.{loaded_long, loaded_bits}
use Rattle.card.proofs.EveryBid.{bid, no_two_alike}
use Rattle.laws.specs.OneCall.{StandsIn}
use Rattle.laws.proofs.Calling.{read_long, file_take}
use Rattle.laws.proofs.OneCall.{stood, of_standing, accepted_stands, file_accepts, file_refused, file_loaded, file_holds, file_stands, file_bytes}
use Rattle.promises.specs.Runs.{run}
use Rattle.promises.specs.Entry.{bidder_of, lines_of, OfOneBidder, MayExchange, EitherOrder, LaterStands, filings, answers_to, has_valid, last_valid}

-- ---- what no filing changes

-- after t a card is answered, and names its bidder, as after s
record Alike (s t : List ℕ) : Type 0 where
  number : (c : List ℕ) → file_number t c ≡ file_number s c
  bidder : (c : List ℕ) → bidder_of t c ≡ bidder_of s c

accepted_bytes : (s c : List ℕ) → file_number s c ≡ 0 → (file_call s c).bytes ≡ stored (after_card c (loaded s))
unfolding file_call
accepted_bytes s c e = rw e

module _ (s : List ℕ) (B : Bytes s) where
  stand : (c : List ℕ) → file_number s c ≡ 0 → StandsIn s
  stand c e = accepted_stands s B 3 (omega arith) (card_number c) e

  alike_by : (d : List ℕ) (t : Bool) → eqb (file_number s d) 0 ≡ t → Alike s (file_call s d).bytes
  unfolding with_card
  alike_by d true e =
      let k = eqb-true (file_number s d) 0 e in
      let S = stand d k in
      let l = file_loaded s S d k in
      record {
        number = λ c.
            of_standing (file_call s d).bytes (file_stands s S d) 3 (card_number c) ∙ ap (card_number c) l ∙ number_filed (loaded s) (bidder_of s d) (lines_of s d) c
            ∙ sym (of_standing s S 3 (card_number c));
        bidder = λ c. ap (λ a. bidder_on (read_card c a.terms.products).card) l;
      }
  alike_by d false e = rw (file_refused s d (eqb-false (file_number s d) 0 e)) (record { number = λ c. refl; bidder = λ c. refl })

  -- whatever card was filed before
  alike : (d : List ℕ) → Alike s (file_call s d).bytes
  alike d = alike_by d (eqb (file_number s d) 0) refl

  -- any card gets the answer that it gets without
  pub same_answer : (c d : List ℕ) → (file_call (file_call s d).bytes c).answer ≡ (file_call s c).answer
  unfolding file_call
  same_answer c d = ap answer_from ((alike d).number c)

  -- ---- two cards

  -- a card that is refused is refused after another too
  refused_after : (c d : List ℕ) → (file_number s d ≡ 0 → ⊥) → (file_call (file_call s c).bytes d).bytes ≡ (file_call s c).bytes
  refused_after c d h = file_refused (file_call s c).bytes d (λ e. h (sym ((alike c).number d) ∙ e))

  room : Room (loaded s)
  room = record { size = (loaded_long s).lines; bits = loaded_bits s B }

  entry : (c : List ℕ) → file_number s c ≡ 0 → Entry (bidder_of s c) (lines_of s c)
  entry c e = record {
    few = omega (arith, (file_take (loaded s) c (file_accepts s (stand c e) c e)).1, (stood s (stand c e)).limits.bidders);
    long = read_long c (loaded s).terms.products;
  }

  -- what an accepted card reads to
  reads : (c : List ℕ) → file_number s c ≡ 0 → read_card c (loaded s).terms.products ≡ bid (bidder_of s c) (loaded s).round (lines_of s c)
  reads c e = ap (λ x. record { card = x; lines = lines_of s c }) (file_take (loaded s) c (file_accepts s (stand c e) c e)).3

  module _ (c d : List ℕ) (e : file_number s c ≡ 0) (f : file_number s d ≡ 0) where
    both_bytes : (file_call (file_call s c).bytes d).bytes ≡ stored (with_card (with_card (loaded s) (bidder_of s c) (lines_of s c)) (bidder_of s d) (lines_of s d))
    unfolding with_card
    both_bytes =
        accepted_bytes (file_call s c).bytes d ((alike c).number d ∙ f)
        ∙ ap (λ a. stored (after_card d a)) (file_loaded s (stand c e) c e)

    later_bytes : bidder_of s c ≡ bidder_of s d → (file_call (file_call s c).bytes d).bytes ≡ (file_call s d).bytes
    later_bytes n =
        both_bytes
        ∙ ap (λ b. stored (with_card (with_card (loaded s) b (lines_of s c)) (bidder_of s d) (lines_of s d))) n
        ∙ ap stored (later_filed (loaded s) room (bidder_of s d) (lines_of s c) (subst (λ b. Entry b (lines_of s c)) n (entry c e)) (lines_of s d) (entry d f))
        ∙ sym (accepted_bytes s d f)

  -- "Of two different valid cards of one bidder the later stands": the state is as if the earlier had not been filed
  pub later_stands : (c d : List ℕ) → OfOneBidder s c d → LaterStands s c d
  later_stands c d O =
      let q = later_bytes c d O.first O.second O.bidder in
      record { state = q; filed = rw q (file_holds s (stand d O.second) d O.second) }

  two_accepted : (c d : List ℕ) → MayExchange s c d → (e : file_number s c ≡ 0) (f : file_number s d ≡ 0)
      → (file_call (file_call s c).bytes d).bytes ≡ (file_call (file_call s d).bytes c).bytes
  two_accepted c d M e f =
      elim (ℕ_discrete (bidder_of s d) (bidder_of s c)) [
        | yes n ↦ let q = M (record { first = e; second = f; bidder = sym n }) in rw q
        | no n ↦
            both_bytes c d e f ∙ ap stored (exchanged (loaded s) room (bidder_of s c) (lines_of s c) (entry c e) (bidder_of s d) (lines_of s d) (entry d f) n)
            ∙ sym (both_bytes d c f e)
      ]

  state_by : (c d : List ℕ) → MayExchange s c d → (t u : Bool) → eqb (file_number s c) 0 ≡ t → eqb (file_number s d) 0 ≡ u
      → (file_call (file_call s c).bytes d).bytes ≡ (file_call (file_call s d).bytes c).bytes
  state_by c d M true true e f = two_accepted c d M (eqb-true (file_number s c) 0 e) (eqb-true (file_number s d) 0 f)
  state_by c d M true false e f =
      let h = eqb-false (file_number s d) 0 f in
      refused_after c d h ∙ sym (ap (λ x. (file_call x c).bytes) (file_refused s d h))
  state_by c d M false u e f =
      let h = eqb-false (file_number s c) 0 e in
      ap (λ x. (file_call x d).bytes) (file_refused s c h) ∙ sym (refused_after d c h)

  -- any two cards, accepted or refused, but two different valid ones of one bidder
  pub either_order : (c d : List ℕ) → MayExchange s c d → EitherOrder s c d
  either_order c d M = record {
    state = state_by c d M (eqb (file_number s c) 0) (eqb (file_number s d) 0) refl refl;
    answer_c = sym (same_answer c d);
    answer_d = same_answer d c;
  }

  -- so "cards of two different bidders, each accepted or refused"
  pub two_bidders : (c d : List ℕ) → (bidder_of s c ≡ bidder_of s d → ⊥) → EitherOrder s c d
  two_bidders c d n = either_order c d (λ O. absurd (n O.bidder))

  -- "The same card filed twice leaves what once leaves", and is answered the same
  pub twice_once : (c : List ℕ) → ((file_call (file_call s c).bytes c).bytes ≡ (file_call s c).bytes) × ((file_call (file_call s c).bytes c).answer ≡ (file_call s c).answer)
  twice_once c = (by (eqb (file_number s c) 0) refl, same_answer c c)
    where
      by : (t : Bool) → eqb (file_number s c) 0 ≡ t → (file_call (file_call s c).bytes c).bytes ≡ (file_call s c).bytes
      by true e = let k = eqb-true (file_number s c) 0 e in later_bytes c c k k refl
      by false e = refused_after c c (eqb-false (file_number s c) 0 e)

  -- order matters for two different valid cards of one bidder: where they leave the same state in either order they are the same card
  pub order_matters : (c d : List ℕ) → Bytes c → Bytes d → EitherOrder s c d → MayExchange s c d
  order_matters c d hc hd E O =
      let alone = sym (later_stands c d O).state ∙ E.state ∙ later_bytes d c O.second O.first (sym O.bidder) in
      let lines =
      sym (file_holds s (stand c O.first) c O.first).lines ∙ ap₂ (λ z b. slot_of (loaded z) b) (sym alone) O.bidder
      ∙ (file_holds s (stand d O.second) d O.second).lines in
      no_two_alike c d (loaded s).terms.products (bidder_of s c) (loaded s).round (lines_of s c) hc hd (reads c O.first)
      (reads d O.second ∙ ap₂ (λ b ls. bid b (loaded s).round ls) (sym O.bidder) (sym lines))

-- ---- any number of cards

list_set : (c d : List ℕ) (p q : c ≡ d) → p ≡ q
list_set = hedberg (List-discrete ℕ_discrete)

-- the cards' numbers and bidders are what they are, whichever was filed
exchange_after : (s t : List ℕ) → Alike s t → (c d : List ℕ) → MayExchange s c d → MayExchange t c d
exchange_after s t A c d M O =
    M (record {
      first = sym (A.number c) ∙ O.first;
      second = sym (A.number d) ∙ O.second;
      bidder = sym (A.bidder c) ∙ O.bidder ∙ A.bidder d;
    })

exchange_back : (s c d : List ℕ) → MayExchange s c d → MayExchange s d c
exchange_back s c d M O = sym (M (record { first = O.second; second = O.first; bidder = sym O.bidder }))

-- each card gets the answer that it gets by itself, wherever it stands among the others
pub answers_same : (s : List ℕ) → Bytes s → (cs : List (List ℕ)) → answers_to s cs ≡ map (λ c. (file_call s c).answer) cs
answers_same s B [] = refl
answers_same s B (c ∷ cs) =
    ap (λ l. (file_call s c).answer ∷ l) (answers_same (file_call s c).bytes (file_bytes s c B) cs ∙ as_before cs)
  where
    as_before : (ds : List (List ℕ)) → map (λ d. (file_call (file_call s c).bytes d).answer) ds ≡ map (λ d. (file_call s d).answer) ds
    as_before [] = refl
    as_before (d ∷ ds) = ap₂ ◌∷◌ (same_answer s B d c) (as_before ds)

order_by : (s : List ℕ) → Bytes s → {cs ds : List (List ℕ)} → Permᴰ cs ds → Pairwise (MayExchange s) cs → run s (filings cs) ≡ run s (filings ds)
order_by s B Permᴰ.nil P = refl
order_by s B (Permᴰ.cons {a = c} {l₂ = ds} e p) (Pairwise.cons h P) =
    order_by (file_call s c).bytes (file_bytes s c B) p (Pairwise.imp (exchange_after s (file_call s c).bytes (alike s B c)) P)
    ∙ ap (λ x. run (file_call s x).bytes (filings ds)) e
order_by s B (Permᴰ.swap {a = c} {b = d} {l = cs} e f) (Pairwise.cons h P) =
    ap (λ t. run t (filings cs)) (either_order s B c d (h d mem-cons_self)).state
    ∙ ap₂ (λ x y. run (file_call (file_call s x).bytes y).bytes (filings cs)) f e
order_by s B (Permᴰ.trans {l₂ = ds} p q) P =
    order_by s B p P
    ∙ order_by s B q (Permᴰ.pairwise (λ c d x y i O. list_set c d (x O) (y O) i) (exchange_back s) p P)

-- cards of which no two are different valid ones of one bidder leave the same state in any order
pub any_order : (s : List ℕ) → Bytes s → (cs ds : List (List ℕ)) → Perm cs ds → Pairwise (MayExchange s) cs → run s (filings cs) ≡ run s (filings ds)
any_order s B cs ds p P = ∥∥₁_elim p (list_set (run s (filings cs)) (run s (filings ds))) (λ q. order_by s B q P)

-- ---- each bidder's last valid card

module _ (s t : List ℕ) (A : Alike s t) where
  valid_alike : (b : ℕ) (cs : List (List ℕ)) → has_valid t b cs ≡ has_valid s b cs
  valid_alike b [] = refl
  valid_alike b (c ∷ cs) = rw (A.number c, A.bidder c, valid_alike b cs)

  last_alike : (cs : List (List ℕ)) → last_valid t cs ≡ last_valid s cs
  last_alike [] = refl
  last_alike (c ∷ cs) = rw (A.number c, A.bidder c, valid_alike (bidder_of s c) cs, last_alike cs)

-- a valid card that a later valid one of the same bidder follows leaves nothing
superseded : (s : List ℕ) → Bytes s → (c : List ℕ) → file_number s c ≡ 0 → (cs : List (List ℕ)) → has_valid s (bidder_of s c) cs ≡ true
    → run (file_call s c).bytes (filings cs) ≡ run s (filings cs)
superseded s B c e [] h = clash h refl
superseded s B c e (d ∷ ds) h =
    by (eqb (file_number s d) 0 && eqb (bidder_of s d) (bidder_of s c)) refl (λ k.
    let t = (file_call s d).bytes in
    let A = alike s B d in
    superseded t (file_bytes s d B) c (A.number c ∙ e) ds
    (ap (λ b. has_valid t b ds) (A.bidder c) ∙ valid_alike s t A (bidder_of s c) ds ∙ k))
  where
    by : (t : Bool) → (eqb (file_number s d) 0 && eqb (bidder_of s d) (bidder_of s c)) ≡ t
        → (has_valid s (bidder_of s c) ds ≡ true → run (file_call (file_call s d).bytes c).bytes (filings ds) ≡ run (file_call s d).bytes (filings ds))
        → run (file_call (file_call s c).bytes d).bytes (filings ds) ≡ run (file_call s d).bytes (filings ds)
    by true f later =
        let k = eqb-true (file_number s d) 0 (and_left (eqb (file_number s d) 0) _ f) in
        let n = eqb-true (bidder_of s d) (bidder_of s c) (and_right (eqb (file_number s d) 0) _ f) in
        ap (λ t. run t (filings ds)) (later_stands s B c d (record { first = e; second = k; bidder = sym n })).state
    by false f later =
        ap (λ t. run t (filings ds))
        (either_order s B c d (λ O. clash (rw (eq-eqb (file_number s d) 0 O.second, eq-eqb (bidder_of s d) (bidder_of s c) (sym O.bidder))) f)).state
        ∙ later (rw f at h)

-- any cards leave what each bidder's last valid card among them leaves
pub last_counts : (s : List ℕ) → Bytes s → (cs : List (List ℕ)) → run s (filings cs) ≡ run s (filings (last_valid s cs))
last_counts s B [] = refl
last_counts s B (c ∷ cs) =
    by (eqb (file_number s c) 0) (has_valid s (bidder_of s c) cs) refl refl (last_counts s B cs)
    (last_counts (file_call s c).bytes (file_bytes s c B) cs
    ∙ ap (λ ds. run (file_call s c).bytes (filings ds)) (last_alike s (file_call s c).bytes (alike s B c) cs))
  where
    by : (t u : Bool) → eqb (file_number s c) 0 ≡ t → has_valid s (bidder_of s c) cs ≡ u → run s (filings cs) ≡ run s (filings (last_valid s cs))
        → run (file_call s c).bytes (filings cs) ≡ run (file_call s c).bytes (filings (last_valid s cs))
        → run (file_call s c).bytes (filings cs) ≡ run s (filings (cond (t && not u) (c ∷ last_valid s cs) (last_valid s cs)))
    by true true e f without with = superseded s B c (eqb-true (file_number s c) 0 e) cs f ∙ without
    by true false e f without with = with
    by false u e f without with = ap (λ t. run t (filings cs)) (file_refused s c (eqb-false (file_number s c) 0 e)) ∙ without

or_right : (t : Bool) {u : Bool} → u ≡ true → (t || u) ≡ true
or_right true e = refl
or_right false e = e

module _ (s : List ℕ) where
  -- a card among the last valid ones is a valid one
  valid_last : (d : List ℕ) (cs : List (List ℕ)) → file_number s d ≡ 0 → Mem d (last_valid s cs) → has_valid s (bidder_of s d) cs ≡ true
  valid_last d [] k m = absurd (not-mem-nil m)
  valid_last d (c ∷ cs) k m = by (eqb (file_number s c) 0 && not (has_valid s (bidder_of s c) cs)) m (valid_last d cs k)
    where
      here : d ≡ c → has_valid s (bidder_of s d) (c ∷ cs) ≡ true
      here e = rw (← e, eq-eqb (file_number s d) 0 k, eq-eqb (bidder_of s d) (bidder_of s d) refl)

      there : has_valid s (bidder_of s d) cs ≡ true → has_valid s (bidder_of s d) (c ∷ cs) ≡ true
      there e = or_right (eqb (file_number s c) 0 && eqb (bidder_of s c) (bidder_of s d)) e

      by : (t : Bool) → Mem d (cond t (c ∷ last_valid s cs) (last_valid s cs)) → (Mem d (last_valid s cs) → has_valid s (bidder_of s d) cs ≡ true)
          → has_valid s (bidder_of s d) (c ∷ cs) ≡ true
      by true x later = Or.elim (Bool-set (has_valid s (bidder_of s d) (c ∷ cs)) true) (eq-or-mem_of_mem-cons x) here (λ y. there (later y))
      by false x later = there (later x)

  -- of which no two are of one bidder
  last_apart : (cs : List (List ℕ)) → Pairwise (MayExchange s) (last_valid s cs)
  last_apart [] = Pairwise.nil
  last_apart (c ∷ cs) = by (eqb (file_number s c) 0) (has_valid s (bidder_of s c) cs) refl (last_apart cs)
    where
      by : (t u : Bool) → has_valid s (bidder_of s c) cs ≡ u → Pairwise (MayExchange s) (last_valid s cs)
          → Pairwise (MayExchange s) (cond (t && not u) (c ∷ last_valid s cs) (last_valid s cs))
      by true false e P =
          Pairwise.cons (λ d m O. clash (valid_last d cs O.second m) (ap (λ b. has_valid s b cs) (sym O.bidder) ∙ e)) P
      by true true e P = P
      by false u e P = P

-- so two lists of cards leave the same state where the last valid cards are the same, in whatever order the cards stand,
pub same_last : (s : List ℕ) → Bytes s → (cs ds : List (List ℕ)) → Perm (last_valid s cs) (last_valid s ds) → run s (filings cs) ≡ run s (filings ds)
same_last s B cs ds p =
    last_counts s B cs ∙ any_order s B (last_valid s cs) (last_valid s ds) p (last_apart s cs) ∙ sym (last_counts s B ds)

-- and entry order cannot change a round: any calculation after them gives the same answer and leaves the same state
pub same_round : (s : List ℕ) → Bytes s → (cs ds : List (List ℕ)) → Perm (last_valid s cs) (last_valid s ds) → (draw : List ℕ) (os : List Override)
    → calculate_call (run s (filings cs)) draw os ≡ calculate_call (run s (filings ds)) draw os
same_round s B cs ds p draw os = ap (λ t. calculate_call t draw os) (same_last s B cs ds p)
