-- What a sum begun holds after one byte more, and after the padding. Assumes nothing.
use Rattle.std.proofs.Common.{◌≡◌, ℕ, zero, suc, ◌+◌, ◌-◌, ◌*◌, ◌/◌, ◌%◌, ◌^◌, ◌<◌, ◌≤◌, ◌≢◌, List, [], ◌∷◌, ◌++◌, length, get_or, take, drop, set, replicate, sym, refl, ap, ◌∙◌, append_assoc, add-one, arith, length-append, length-drop, length-set, drop_of_length-le, take_all, take-suc, take-suc-set, ne_eqb}
use native.Mathlib.Decide.{ℕ_discrete}
use lib.ListN.{length-replicate}
use lib.Seq.{take-append-le, drop-append-le}
use Rattle.sums.specs.declared.Sum.{Sum}
use Rattle.sums.specs.Block.{after_block}
use Rattle.sums.specs.Sum.{hash_up_to, hash_of, Holds, after_byte, zeros, padding, padded, length_up_to}

-- the whole blocks of a message are blocks of a longer one
hash_front : (m ys : List ℕ) (n : ℕ) → n * 64 ≤ length m → hash_up_to (m ++ ys) n ≡ hash_up_to m n
unfolding hash_up_to
hash_front m ys zero h = refl
hash_front m ys (suc n) h =
    let room : 64 ≤ length (drop (n * 64) m) = rw length-drop (omega arith) in
    rw (hash_front m ys n (omega arith), drop-append-le (n * 64) m ys (omega arith), take-append-le 64 (drop (n * 64) m) ys room)

abbrev pub pushed : Sum → ℕ → ℕ → Sum
pushed s at x =
    record { words = after_byte s.words (set s.block at x) at; block = set s.block at x; count = (s.count + 1) % 2 ^ 64 }

module _ (s : Sum) (m : List ℕ) (x : ℕ) (h : Holds s m) where
  long : length (m ++ (x ∷ [])) ≡ length m + 1
  long = length-append m (x ∷ [])

  block_more : take (suc (length m % 64)) (set s.block (length m % 64) x) ≡ drop (length m / 64 * 64) (m ++ (x ∷ []))
  block_more =
      rw (take-suc-set s.block (length m % 64) x (omega (arith, h.room)), h.rest, drop-append-le (length m / 64 * 64) m (x ∷ []) (omega arith))

  module _ (full : length m % 64 ≡ 63) where
    next : length (m ++ (x ∷ [])) / 64 ≡ suc (length m / 64)
    next = omega (arith, long)

    whole : drop (length m / 64 * 64) (m ++ (x ∷ [])) ≡ set s.block 63 x
    whole =
        let short : length (set s.block 63 x) ≤ 64 = simp length-set (omega (arith, h.room)) in
        sym (rw full at block_more) ∙ take_all 64 (set s.block 63 x) short

    words_full : after_block s.words (set s.block 63 x) ≡ hash_of (m ++ (x ∷ []))
    unfolding hash_up_to
    words_full =
        let short : length (set s.block 63 x) ≤ 64 = simp length-set (omega (arith, h.room)) in
        rw (next, whole, take_all 64 (set s.block 63 x) short, hash_front m (x ∷ []) (length m / 64) (omega arith), h.words)

    rest_full : take (length (m ++ (x ∷ [])) % 64) (set s.block 63 x) ≡ drop (length (m ++ (x ∷ [])) / 64 * 64) (m ++ (x ∷ []))
    rest_full =
        let none : length (m ++ (x ∷ [])) % 64 ≡ 0 = omega (arith, long) in
        rw (none, drop_of_length-le (m ++ (x ∷ [])) (let e : length (m ++ (x ∷ [])) ≤ length (m ++ (x ∷ [])) / 64 * 64 = omega (arith, long) in e))

  module _ (part : length m % 64 ≢ 63) where
    same : length (m ++ (x ∷ [])) / 64 ≡ length m / 64
    same = omega (arith, long, part)

    words_part : s.words ≡ hash_of (m ++ (x ∷ []))
    words_part = rw (same, hash_front m (x ∷ []) (length m / 64) (omega arith)) h.words

    rest_part : take (length (m ++ (x ∷ [])) % 64) (set s.block (length m % 64) x) ≡ drop (length (m ++ (x ∷ [])) / 64 * 64) (m ++ (x ∷ []))
    rest_part =
        let at : length (m ++ (x ∷ [])) % 64 ≡ suc (length m % 64) = omega (arith, long, part) in
        rw (at, same) block_more

  pushed_at : Holds (pushed s (length m % 64) x) (m ++ (x ∷ []))
  pushed_at =
      record {
        count = rw long (omega (arith, h.count));
        words = elim (ℕ_discrete (length m % 64) 63) [ yes e ↦ rw e (words_full e) | no n ↦ rw (ne_eqb _ _ n) (words_part n) ];
        room = simp length-set h.room;
        rest = elim (ℕ_discrete (length m % 64) 63) [ yes e ↦ rw e (rest_full e) | no n ↦ rest_part n ];
      }

  pub push : Holds (pushed s (s.count % 64) x) (m ++ (x ∷ []))
  push =
      let here : s.count % 64 ≡ length m % 64 = omega (arith, h.count) in
      rw here pushed_at

abbrev pub sum_of : List ℕ → List ℕ → ℕ → Sum
sum_of w b n = record { words = w; block = b; count = n }

-- what `with` does in a turn
pub step : (s : Sum) (m bytes w : List ℕ) (i n : ℕ) → Holds s (m ++ take i bytes) → i < length bytes
    → w ≡ after_byte s.words (set s.block (s.count % 64) (get_or bytes i 0)) (s.count % 64)
    → n ≡ (s.count + 1) % 2 ^ 64
    → Holds (sum_of w (set s.block (s.count % 64) (get_or bytes i 0)) n) (m ++ take (i + 1) bytes)
step s m bytes w i n h l e f =
    let longer : (m ++ take i bytes) ++ (get_or bytes i 0 ∷ []) ≡ m ++ take (i + 1) bytes =
    append_assoc m (take i bytes) (get_or bytes i 0 ∷ []) ∙ rw (add-one i, take-suc bytes i 0 l) in
    rw (e, f, ← longer) (push s (m ++ take i bytes) (get_or bytes i 0) h)

-- ---- the padding

take_zeros : (z k : ℕ) → z ≤ k → take z (replicate {A = ℕ} k 0) ≡ replicate z 0
take_zeros zero k h = refl
take_zeros (suc z) zero h = absurd (let f : ⊥ = omega arith in f)
take_zeros (suc z) (suc k) h = ap (λ (l : List ℕ). 0 ∷ l) (take_zeros z k (omega arith))

front : (z : ℕ) → z ≤ 63 → take {A = ℕ} (z + 1 - 0) (128 ∷ replicate 63 0) ≡ 128 ∷ replicate z 0
front z h =
    let e : z + 1 - 0 ≡ suc z = omega arith in
    ap (λ (n : ℕ). take {A = ℕ} n (128 ∷ replicate 63 0)) e ∙ ap (λ (l : List ℕ). 128 ∷ l) (take_zeros z 63 h)

-- what `padded` does
pub pad : (s r : Sum) (m l : List ℕ) → Holds s m → l ≡ length_up_to (s.count * 8 % 2 ^ 64) 8
    → Holds r ((m ++ take {A = ℕ} ((119 - s.count % 64) % 64 + 1 - 0) (128 ∷ replicate 63 0)) ++ l)
    → Holds r (padded m)
unfolding padding
pad s r m l h e k =
    let z : (119 - s.count % 64) % 64 ≡ zeros (length m) = omega (arith, h.count) in
    let b : s.count * 8 % 2 ^ 64 ≡ length m * 8 % 2 ^ 64 = omega (arith, h.count) in
    let one = front ((119 - s.count % 64) % 64) (omega arith) in
    rw (append_assoc, one, z, e, b) at k

length_eight : (l i : ℕ) → length (length_up_to l i) ≡ 8
unfolding length_up_to
length_eight l zero = refl
length_eight l (suc i) = length-set (length_up_to l i) i _ ∙ length_eight l i

-- a padded message is whole blocks, so that `sha256` leaves no byte of it out
pub padded_whole : (m : List ℕ) → length (padded m) % 64 ≡ 0
unfolding padding
padded_whole m = simp (length-append, length-replicate, length_eight) (omega arith)
