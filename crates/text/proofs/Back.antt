-- What io::decimal and io::hex write is read back. Assumes nothing.
use Rattle.std.proofs.Common.{◌≡◌, ℕ, zero, suc, ◌+◌, ◌-◌, ◌*◌, ◌/◌, ◌%◌, ◌^◌, ◌<◌, ◌≤◌, Bool, true, false, ltb, List, [], ◌∷◌, ◌++◌, length, get_or, take, drop, sym, refl, ap, ◌∙◌, mod-lt, div-lt_iff_lt-mul, pow-suc, div-add-mod', div-le_self, mul-div_cancel, arith, length-append, take_all, take-suc, ltb-false, ltb-true, le-ltb, lt-ltb, ne_eqb, le-leb}
use lib.ListN.{get_or-append}
use lib.Seq.{get_or_at, take-length}
use borrow.Author.Tests.{lt-leb}
use Rattle.text.proofs.Laws.{run_stop}
use Rattle.io.specs.Digits.{last_digits, hex_digit_ascii}
use Rattle.text.specs.Nibble.{nibble_of}
use Rattle.text.specs.Words.{goes_on, run_end}
use Rattle.text.specs.Number.{digit_after, read_up_to}
use Rattle.text.specs.Hex.{pair_of, hex_up_to, got, hex_word, hex_at}
use Rattle.text.specs.declared.Run.{Run}
use Rattle.text.specs.declared.Run.TheVariants.{Spaces, Letters, Digits}
use Rattle.text.specs.declared.number.Read.TheVariants.{Value}
use Rattle.text.specs.declared.hex.Hex.TheVariants.{Bytes}

digits_length : (k n : ℕ) → length (last_digits 10 k n) ≡ k
digits_length zero n = refl
digits_length (suc k) n = rw (length-append, digits_length k (n / 10)) (omega arith)

-- a byte at the end changes nothing of what is read before it
read_front : (xs ys : List ℕ) (n : ℕ) → n ≤ length xs → read_up_to (xs ++ ys) n ≡ read_up_to xs n
unfolding read_up_to
read_front xs ys zero h = refl
read_front xs ys (suc n) h = rw (read_front xs ys n (omega arith), get_or-append xs ys 0 n (omega arith))

one_digit : (m d : ℕ) → d < 10 → m * 10 + d ≤ 4294967295 → digit_after (Value m) (hex_digit_ascii d) ≡ Value (m * 10 + d)
one_digit m d h small =
    let e : 48 + d - 48 ≡ d = omega arith in
    rw (lt-ltb d 10 h, le-ltb (48 + d) 48 (omega arith), le-ltb 57 (48 + d) (omega arith), e, le-leb (m * 10 + d) 4294967295 small)

-- a number of 32 bits in decimal
pub number_back : (k n : ℕ) → n ≤ 4294967295 → n < 10 ^ k → read_up_to (last_digits 10 k n) k ≡ Value n
unfolding read_up_to
number_back zero n most h =
    let e : n ≡ 0 = omega arith in
    rw e
number_back (suc k) n most h =
    let q : n / 10 < 10 ^ k = (div-lt_iff_lt-mul {k = 10} {x = n} {y = 10 ^ k} (omega arith)).1 (rw pow-suc at h) in
    rw (
      read_front (last_digits 10 k (n / 10)) (hex_digit_ascii (n % 10) ∷ []) k (omega (arith, digits_length k (n / 10))),
      get_or_at (last_digits 10 k (n / 10)) (hex_digit_ascii (n % 10)) [] 0 k (digits_length k (n / 10)),
      number_back k (n / 10) (omega (arith, div-le_self n 10)) q,
    )
    (one_digit (n / 10) (n % 10) (mod-lt n (omega arith)) (omega (arith, div-add-mod' n 10)) ∙ ap Value (div-add-mod' n 10))

-- bytes as text, two digits a byte
unfoldable pub written : List ℕ → List ℕ
written [] = []
written (b ∷ bs) = last_digits 16 2 b ++ written bs

written_length : (bs : List ℕ) → length (written bs) ≡ length bs * 2
unfolding written
written_length [] = refl
written_length (b ∷ bs) = let h = written_length bs in omega arith

-- what holds of every digit holds of every byte of the text
written_all : (P : ℕ → Type 0) → ((d : ℕ) → d < 16 → P (hex_digit_ascii d)) → (bs : List ℕ) (j : ℕ) → j < length (written bs) → P (get_or (written bs) j 0)
unfolding written
written_all P f [] j h = absurd (let z : ⊥ = omega arith in z)
written_all P f (b ∷ bs) zero h = f (b / 16 % 16) (mod-lt (b / 16) (omega arith))
written_all P f (b ∷ bs) (suc zero) h = f (b % 16) (mod-lt b (omega arith))
written_all P f (b ∷ bs) (suc (suc j)) h = written_all P f bs j (omega arith)

written_first : (bs : List ℕ) (n : ℕ) → n < length bs → get_or (written bs) (n * 2) 0 ≡ hex_digit_ascii (get_or bs n 0 / 16 % 16)
unfolding written
written_first [] n h = absurd (let z : ⊥ = omega arith in z)
written_first (b ∷ bs) zero h = refl
written_first (b ∷ bs) (suc n) h =
    let e : suc n * 2 ≡ suc (suc (n * 2)) = omega arith in
    rw e (written_first bs n (omega arith))

written_second : (bs : List ℕ) (n : ℕ) → n < length bs → get_or (written bs) (n * 2 + 1) 0 ≡ hex_digit_ascii (get_or bs n 0 % 16)
unfolding written
written_second [] n h = absurd (let z : ⊥ = omega arith in z)
written_second (b ∷ bs) zero h = refl
written_second (b ∷ bs) (suc n) h =
    let e : suc n * 2 + 1 ≡ suc (suc (n * 2 + 1)) = omega arith in
    rw e (written_second bs n (omega arith))

-- a digit that was written is read, and is no space
nibble_by : (d : ℕ) (t : Bool) → ltb d 10 ≡ t → d < 16 → nibble_of (hex_digit_ascii d) ≡ d
unfolding nibble_of
nibble_by d true t h =
    let e : 48 + d - 48 ≡ d = omega arith in
    let l = ltb-true d 10 t in
    rw (t, le-ltb (48 + d) 48 (omega arith), le-leb (48 + d) 57 (omega arith), e)
nibble_by d false t h =
    let e : 87 + d - 87 ≡ d = omega arith in
    let l = ltb-false d 10 t in
    let a : 57 < 87 + d = omega arith in
    let b : 70 < 87 + d = omega arith in
    rw (
      t,
      le-ltb (87 + d) 48 (omega arith),
      lt-leb _ _ a,
      le-ltb (87 + d) 65 (omega arith),
      lt-leb _ _ b,
      le-ltb (87 + d) 97 (omega arith),
      le-leb (87 + d) 102 (omega arith),
      e,
    )

nibble_back : (d : ℕ) → d < 16 → nibble_of (hex_digit_ascii d) ≡ d
nibble_back d h = nibble_by d (ltb d 10) refl h

above_by : (d : ℕ) (t : Bool) → ltb d 10 ≡ t → 32 < hex_digit_ascii d
above_by d true t = rw t (omega arith)
above_by d false t = rw t (omega arith)

byte_back : (b : ℕ) → b < 256 → pair_of (hex_digit_ascii (b / 16 % 16)) (hex_digit_ascii (b % 16)) ≡ b
byte_back b h = rw (nibble_back (b / 16 % 16) (mod-lt (b / 16) (omega arith)), nibble_back (b % 16) (mod-lt b (omega arith))) (omega arith)

-- a run to the end
run_all : (s : List ℕ) (k : Run) (i left : ℕ) → ((j : ℕ) → j < i + left → goes_on (get_or s j 0) k ≡ true) → run_end s k i left ≡ i + left
unfolding run_end
run_all s k i zero f = omega arith
run_all s k i (suc left) f =
    let e = run_all s k (i + 1) left (λ j h. f j (omega arith)) in
    rw (f i (omega arith)) (omega arith)

run_whole : (s : List ℕ) (k : Run) → ((j : ℕ) → j < length s → goes_on (get_or s j 0) k ≡ true) → run_end s k 0 (length s - 0) ≡ length s
run_whole s k f =
    let z : length s - 0 ≡ length s = omega arith in
    let e = run_all s k 0 (length s) (λ j h. f j (omega arith)) in
    rw z (omega arith)

module _ (bs : List ℕ) (small : (i : ℕ) → i < length bs → get_or bs i 0 < 256) where
  up_to_back : (n : ℕ) → n ≤ length bs → hex_up_to (written bs) n ≡ take n bs
  unfolding hex_up_to
  up_to_back zero h = refl
  up_to_back (suc n) h =
      rw (up_to_back n (omega arith), written_first bs n h, written_second bs n h, byte_back (get_or bs n 0) (small n h)) (sym (take-suc bs n 0 h))

  word_back : (a e : ℕ) (out : List ℕ) → e - a ≡ length bs * 2 → length bs ≤ 1024
      → hex_word (written bs) a e out ≡ got (Bytes (length bs) (record { at = e })) (bs ++ drop (length bs) out)
  word_back a e out n most =
      rw (
        n,
        mul-div_cancel (length bs) {n = 2} (omega arith),
        le-ltb (length bs * 2) (length bs * 2) (omega arith),
        le-ltb 1024 (length bs) most,
        up_to_back (length bs) (omega arith),
        take-length bs,
      )

  -- a line that holds the text of some bytes and nothing else
  pub hex_back : (out : List ℕ) → 0 < length bs → length bs ≤ 1024
      → hex_at (written bs) 0 out ≡ got (Bytes (length bs) (record { at = length (written bs) })) (bs ++ drop (length bs) out)
  hex_back out some most =
      let s = written bs in
      let n = written_length bs in
      let a : run_end s Spaces 0 (length s - 0) ≡ 0 =
      run_stop s Spaces 0 (length s) (omega arith)
      (written_all (λ b. goes_on b Spaces ≡ false) (λ d h. lt-leb _ _ (above_by d (ltb d 10) refl)) bs 0 (omega arith)) in
      let l =
      run_whole s Letters (written_all (λ b. goes_on b Letters ≡ true) (λ d k. lt-ltb _ _ (above_by d (ltb d 10) refl)) bs) in
      let g =
      run_whole s Digits (written_all (λ b. goes_on b Digits ≡ true) (λ d k. rw (nibble_back d k) (lt-ltb d 16 k)) bs) in
      let z : 0 ≡ length s → ⊥ = λ e. omega arith in
      rw (le-ltb (length s) 0 (omega arith), a, l, g, ne_eqb 0 (length s) z, le-ltb (length s) (length s) (omega arith), take_all (length s - 0) s (omega arith))
      (word_back 0 (length s) out (omega arith) most)
