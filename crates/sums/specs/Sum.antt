-- SHA-256 of a message: FIPS 180-4, sections 5.1.1, 5.2.1 and 6.2. Assumes nothing.
use Rattle.std.specs.Prelude.{◌≡◌, ℕ, zero, suc, ◌+◌, ◌-◌, ◌*◌, ◌/◌, ◌%◌, ◌^◌, cond, List, ◌∷◌, ◌++◌, length, take, drop, replicate, ◌==◌, nat_lt, slice_index, slice_set}
use Rattle.sums.specs.Words.{initial}
use Rattle.sums.specs.Block.{after_block}
use Rattle.sums.specs.declared.Sum.{Sum}

-- ---- padding, in whole bytes: "Append the bit '1' to the end of the message, followed by k zero bits, where k is the smallest,
-- non-negative solution to the equation l + 1 + k ≡ 448 mod 512. Then append the 64-bit block that is equal to the number l
-- expressed using a binary representation."

-- the bytes of a number of 64 bits, the most significant first
unfoldable pub length_up_to : ℕ → ℕ → List ℕ
length_up_to l zero = replicate 8 0
length_up_to l (suc i) = slice_set (length_up_to l i) i (l / 2 ^ (56 - 8 * i) % 256)

-- so many zero bytes after the one that begins with the bit 1: n + 1 + zeros n is 56 modulo 64
abbrev pub zeros : ℕ → ℕ
zeros n = (119 - n % 64) % 64

-- the length is below 2^64 bits by the standard; that of a longer message is taken modulo 2^64
unfoldable pub padding : ℕ → List ℕ
padding n = (128 ∷ replicate (zeros n) 0) ++ length_up_to (n * 8 % 2 ^ 64) 8

abbrev pub padded : List ℕ → List ℕ
padded m = m ++ padding (length m)

-- ---- the hash value after the first n blocks, and of the whole message

unfoldable pub hash_up_to : List ℕ → ℕ → List ℕ
hash_up_to m zero = initial
hash_up_to m (suc n) = after_block (hash_up_to m n) (take 64 (drop (n * 64) m))

abbrev pub hash_of : List ℕ → List ℕ
hash_of m = hash_up_to m (length m / 64)

abbrev pub sha256 : List ℕ → List ℕ
sha256 m = hash_of (padded m)

-- ---- in hexadecimal digits, eight to a word

abbrev pub hex_of : ℕ → ℕ
hex_of n = cond (nat_lt n 10) (48 + n) (87 + n)

unfoldable pub digits_up_to : List ℕ → ℕ → List ℕ
digits_up_to h zero = replicate 64 0
digits_up_to h (suc i) = slice_set (digits_up_to h i) i (hex_of (slice_index h (i / 8) / 2 ^ (28 - 4 * (i % 8)) % 16))

unfoldable pub sha256_digits : List ℕ → List ℕ
sha256_digits m = digits_up_to (sha256 m) 64

-- ---- a sum begun

-- m are the bytes so far
pub record Holds (s : Sum) (m : List ℕ) : Type 0 where
  pub count : s.count ≡ length m % 2 ^ 64
  pub words : s.words ≡ hash_of m
  pub room : length s.block ≡ 64
  pub rest : take (length m % 64) s.block ≡ drop (length m / 64 * 64) m

-- the hash value once the byte at this place of the block is there: the last one makes the block whole
abbrev pub after_byte : List ℕ → List ℕ → ℕ → List ℕ
after_byte h b at = cond (at == 63) (after_block h b) h
