-- Every bid that can be written has one card, which reads back to it. Assumes nothing.
use mathlib.Core.Path.{◌≡◌, refl, sym, ap, ◌∙◌}
use mathlib.Core.Logic.{inl, inr}
use mathlib.Core.Bool.{Bool, true, false, ◌&&◌, cond, and-eq-true_iff}
use mathlib.Core.List.{List}
use Prim.Native.Nat.{ℕ, ◌+◌, ◌-◌, ◌*◌, ◌/◌, ◌≤◌, ◌<◌}
use native.Mathlib.Decide.{dec_lt}
use native.Mathlib.Omega.{arith}
use lib.ListN.{length, get_or, replicate, length-replicate}
use lib.Seq.{ext_get_or}
use lib.Dec.{ltb, eqb}
use borrow.Author.Tests.{lt-ltb, le-ltb, ltb-true, eq-eqb, eqb-true}
use Rattle.rules.specs.declared.Line.{Line}
use Rattle.rules.specs.declared.CardRead.{CardRead}
use Rattle.rules.specs.declared.Refusal.{Refusal}
use Rattle.rules.specs.declared.Bid.{Bid}
use Rattle.std.specs.Prelude.{Result, Ok, Err, is_ok}
use Rattle.rules.proofs.Lists.{clash}
use Rattle.rules.specs.Bits.{Bytes, bit_at, field_at, put_field}
use Rattle.rules.specs.Count.{all_up_to}
use Rattle.rules.specs.Card.{no_line, line_bits, line_bit, card_length, count_fits, read_lines, filled, read_refused, bid_by, bid_of, read_card, put_lines, card_of, writable}
use Rattle.card.specs.Parts.{line_writable}
use Rattle.bits.proofs.BitLaws.{Agree, field_agree, agree_field, length_put, put_out, field_before, field_put, bits_ext, bytes_put, bytes_zero, bit_zero, field_zero}
use Rattle.card.proofs.AnswerLaws.{counted, read_bid}
use Rattle.card.proofs.LineLaws.{agree_line, Fits, fits, zero_line, all_at, length_put_lines, bytes_put_lines, lines_out, lines_put, length_read, read_past, read_at}
use Rattle.card.proofs.EveryCard.{card_fits}

abbrev pub bid : ℕ → ℕ → List Line → CardRead
bid b r ls = record { card = Ok (bid_by b r); lines = ls }

-- what it is that a bid can be written
record Fitting (n b r : ℕ) (ls : List Line) : Type 0 where
  bidder : b < 32
  round : r < 4096
  lines : (i : ℕ) → i < n → Fits (get_or ls i no_line)
  past : (i : ℕ) → n ≤ i → i < 8 → get_or ls i no_line ≡ no_line

fitting : (n b r : ℕ) (ls : List Line) → n ≤ 8 → writable n b r ls ≡ true → Fitting n b r ls
fitting n b r ls h e =
    let p = (and-eq-true_iff (ltb b 32) (ltb r 4096 && all_up_to (line_writable n ls) 8)).0 e in
    let q = (and-eq-true_iff (ltb r 4096) (all_up_to (line_writable n ls) 8)).0 p.1 in
    record {
      bidder = ltb-true _ _ p.0;
      round = ltb-true _ _ q.0;
      lines = λ i l. fits (get_or ls i no_line) (rw (lt-ltb i n l) at (all_at (line_writable n ls) 8 i q.1 (omega arith)));
      past = λ i m l. zero_line (get_or ls i no_line) (rw (le-ltb i n m) at (all_at (line_writable n ls) 8 i q.1 l));
    }

-- ---- the card of a bid

module _ (n b r : ℕ) (ls : List Line) where
  -- bidder and round in a card otherwise zero
  head : List ℕ
  head = put_field (put_field (replicate (card_length n) 0) 0 5 b) 5 12 r

  length_head : length head ≡ card_length n
  unfolding head
  length_head = simp (length_put, length-replicate)

  -- the card of a bid has the length of its count
  pub card_long : length (card_of n b r ls) ≡ card_length n
  unfolding card_of head
  card_long = length_put_lines head ls n ∙ length_head

  -- and is a list of bytes
  pub card_bytes : Bytes (card_of n b r ls)
  unfolding card_of
  card_bytes = bytes_put_lines _ ls n (bytes_put _ 5 12 r (bytes_put _ 0 5 b (bytes_zero (card_length n))))

  -- its filling bits are zero
  card_filled : filled (card_of n b r ls) n ≡ true
  unfolding card_of
  card_filled = eq-eqb _ 0 (field_zero (card_of n b r ls) (line_bit n) (8 * card_length n - line_bit n) rest)
    where
      rest : (k : ℕ) → line_bit n ≤ k → bit_at (card_of n b r ls) k ≡ 0
      rest k o =
          lines_out _ ls n k (inr o) ∙ put_out _ 5 12 r k (inr (omega arith)) ∙ put_out _ 0 5 b k (inr (omega arith)) ∙ bit_zero (card_length n) k

  module _ (count : count_fits n ≡ true) (eight : length ls ≡ 8) (fit : writable n b r ls ≡ true) where
    -- every bid that can be written has a card that reads back to it
    pub card_reads : read_card (card_of n b r ls) n ≡ bid b r ls
    unfolding card_of head
    card_reads = read_bid s n (counted n count).0 most card_long card_filled ∙ (λ i. record { card = Ok (bid_by (eb i) (er i)); lines = el i })
      where
        most : n ≤ 8
        most = (counted n count).1

        f : Fitting n b r ls
        f = fitting n b r ls most fit

        s : List ℕ
        s = put_lines head ls n

        before : (at w : ℕ) → at + w ≤ 17 → field_at s at w ≡ field_at head at w
        before at w h = field_agree s head at w (λ k a l. lines_out head ls n k (inl (omega arith)))

        eb : field_at s 0 5 ≡ b
        eb =
            before 0 5 (omega arith) ∙ field_before _ 5 12 r 0 5 (omega arith)
            ∙ field_put _ 0 5 b (simp length-replicate (omega arith)) f.bidder

        er : field_at s 5 12 ≡ r
        er = before 5 12 (omega arith) ∙ field_put _ 5 12 r (simp (length_put, length-replicate) (omega arith)) f.round

        each : (i : ℕ) → i < length (read_lines s n) → get_or (read_lines s n) i no_line ≡ get_or ls i no_line
        each i l =
            let l8 : i < 8 = omega (arith, length_read s n) in
            elim (dec_lt i n) [
              | yes m ↦ read_at s n i m most ∙ lines_put head ls n (omega (arith, length_head)) f.lines i m
              | no m ↦
                  let p : n ≤ i = omega (arith, m) in
                  read_past s n i p l8 ∙ sym (f.past i p l8)
            ]

        el : read_lines s n ≡ ls
        el = ext_get_or no_line (read_lines s n) ls (length_read s n ∙ sym eight) each

-- ---- a card that reads to a bid

-- what it is that a card reads to a bid
record Accepted (s : List ℕ) (n b r : ℕ) (ls : List Line) : Type 0 where
  count : count_fits n ≡ true
  long : length s ≡ card_length n
  filled : field_at s (line_bit n) (8 * card_length n - line_bit n) ≡ 0
  bidder : field_at s 0 5 ≡ b
  round : field_at s 5 12 ≡ r
  lines : read_lines s n ≡ ls

abbrev unwrapped : Result Bid Refusal → Bid
unwrapped (Ok x) = x
unwrapped (Err e) = bid_by 0 0

refused_no_bid : (k b r : ℕ) (ls : List Line) → read_refused k ≡ bid b r ls → ⊥
refused_no_bid k b r ls e =
    clash refl (ap (λ (x : CardRead). is_ok x.card) (sym e))

tests_passed : (c l f : Bool) (x : CardRead) (b r : ℕ) (ls : List Line) →
    cond c (cond l (cond f x (read_refused 5)) (read_refused 4)) (read_refused 29) ≡ bid b r ls →
    ((c ≡ true) × (l ≡ true)) × ((f ≡ true) × (x ≡ bid b r ls))
tests_passed true true true x b r ls e = ((refl, refl), (refl, e))
tests_passed true true false x b r ls e = absurd (refused_no_bid 5 b r ls e)
tests_passed true false f x b r ls e = absurd (refused_no_bid 4 b r ls e)
tests_passed false l f x b r ls e = absurd (refused_no_bid 29 b r ls e)

accepted : (s : List ℕ) (n b r : ℕ) (ls : List Line) → read_card s n ≡ bid b r ls → Accepted s n b r ls
unfolding read_card
accepted s n b r ls e =
    let p = tests_passed (count_fits n) (eqb (length s) (card_length n)) (filled s n) (bid_of s n) b r ls e in
    let w = ap (λ (x : CardRead). unwrapped x.card) p.1.1 in
    record {
      count = p.0.0;
      long = eqb-true _ _ p.0.1;
      filled = eqb-true _ _ p.1.0;
      bidder = ap (λ (x : Bid). x.bidder) w;
      round = ap (λ (x : Bid). x.round) w;
      lines = ap (λ (x : CardRead). x.lines) p.1.1;
    }

-- no two cards read alike: two lists of bytes that read to the same bid are the same
pub no_two_alike : (s t : List ℕ) (n b r : ℕ) (ls : List Line) → Bytes s → Bytes t → read_card s n ≡ bid b r ls → read_card t n ≡ bid b r ls → s ≡ t
no_two_alike s t n b r ls hs ht es et = bits_ext s t (x.long ∙ sym y.long) hs ht same
  where
    x : Accepted s n b r ls
    x = accepted s n b r ls es

    y : Accepted t n b r ls
    y = accepted t n b r ls et

    inside : (i : ℕ) → i < n → Agree s t (line_bit i) line_bits
    inside i l =
        agree_line s t (line_bit i)
        (sym (read_at s n i l (counted n x.count).1) ∙ ap (λ (u : List Line). get_or u i no_line) (x.lines ∙ sym y.lines) ∙ read_at t n i l (counted n x.count).1)

    same : Agree s t 0 (8 * length s)
    same k a l =
        elim (dec_lt k 5) [
          | yes p ↦ agree_field s t 0 5 (x.bidder ∙ sym y.bidder) k a p
          | no p ↦
              elim (dec_lt k 17) [
                | yes q ↦ agree_field s t 5 12 (x.round ∙ sym y.round) k (omega (arith, p)) q
                | no q ↦
                    elim (dec_lt k (line_bit n)) [
                      | yes m ↦ inside ((k - 17) / line_bits) (omega (arith, q)) k (omega (arith, q)) (omega (arith, q))
                      | no m ↦
                          agree_field s t (line_bit n) (8 * card_length n - line_bit n) (x.filled ∙ sym y.filled) k (omega (arith, m)) (omega (arith, x.long))
                    ]
              ]
        ]

-- every card that reads to a bid is that bid's card
pub read_is_card : (s : List ℕ) (n b r : ℕ) (ls : List Line) → Bytes s → read_card s n ≡ bid b r ls → s ≡ card_of n b r ls
read_is_card s n b r ls hs e =
    let x = accepted s n b r ls e in
    no_two_alike s (card_of n b r ls) n b r ls hs (card_bytes n b r ls) e
    (card_reads n b r ls x.count (ap length (sym x.lines) ∙ length_read s n)
    (rw (x.bidder, x.round, x.lines) at (card_fits s n (counted n x.count).1)))
