-- The operations on words of 32 bits: FIPS 180-4, sections 3.2, 4.1.2 and 4.2.2. Assumes nothing.
use Rattle.std.specs.Prelude.{ℕ, ◌+◌, ◌-◌, ◌*◌, ◌/◌, ◌%◌, ◌^◌, ◌<◌, List, [], ◌∷◌, bit_and, bit_or, bit_xor}

-- "Addition (+) is performed modulo 2^32"
abbrev pub plus : ℕ → ℕ → ℕ
plus x y = (x + y) % 2 ^ 32

abbrev pub complement : ℕ → ℕ
complement x = 2 ^ 32 - 1 - x

-- "ROTR^n(x) = (x >> n) ∨ (x << w - n)"
abbrev pub rotr : ℕ → ℕ → ℕ
rotr x n = bit_or (x / 2 ^ n) (x * 2 ^ (32 - n) % 2 ^ 32)

-- how far a word may be turned
pub record Turn (n : ℕ) : Type 0 where
  pub some : 0 < n
  pub few : n < 32

-- "SHR^n(x) = x >> n"
abbrev pub shr : ℕ → ℕ → ℕ
shr x n = x / 2 ^ n

-- equations 4.2 to 4.7
abbrev pub ch : ℕ → ℕ → ℕ → ℕ
ch x y z = bit_xor (bit_and x y) (bit_and (complement x) z)

abbrev pub maj : ℕ → ℕ → ℕ → ℕ
maj x y z = bit_xor (bit_xor (bit_and x y) (bit_and x z)) (bit_and y z)

unfoldable pub big_sigma : ℕ → ℕ → ℕ → ℕ → ℕ
big_sigma a b c x = bit_xor (bit_xor (rotr x a) (rotr x b)) (rotr x c)

unfoldable pub small_sigma : ℕ → ℕ → ℕ → ℕ → ℕ
small_sigma a b c x = bit_xor (bit_xor (rotr x a) (rotr x b)) (shr x c)

abbrev pub big_sigma0 : ℕ → ℕ
big_sigma0 x = big_sigma 2 13 22 x

abbrev pub big_sigma1 : ℕ → ℕ
big_sigma1 x = big_sigma 6 11 25 x

abbrev pub small_sigma0 : ℕ → ℕ
small_sigma0 x = small_sigma 7 18 3 x

abbrev pub small_sigma1 : ℕ → ℕ
small_sigma1 x = small_sigma 17 19 10 x

-- "the first thirty-two bits of the fractional parts of the cube roots of the first sixty-four prime numbers"
unfoldable pub constants : List ℕ
constants =
    1116352408 ∷ 1899447441 ∷ 3049323471 ∷ 3921009573 ∷ 961987163 ∷ 1508970993 ∷ 2453635748 ∷ 2870763221 ∷
    3624381080 ∷ 310598401 ∷ 607225278 ∷ 1426881987 ∷ 1925078388 ∷ 2162078206 ∷ 2614888103 ∷ 3248222580 ∷
    3835390401 ∷ 4022224774 ∷ 264347078 ∷ 604807628 ∷ 770255983 ∷ 1249150122 ∷ 1555081692 ∷ 1996064986 ∷
    2554220882 ∷ 2821834349 ∷ 2952996808 ∷ 3210313671 ∷ 3336571891 ∷ 3584528711 ∷ 113926993 ∷ 338241895 ∷
    666307205 ∷ 773529912 ∷ 1294757372 ∷ 1396182291 ∷ 1695183700 ∷ 1986661051 ∷ 2177026350 ∷ 2456956037 ∷
    2730485921 ∷ 2820302411 ∷ 3259730800 ∷ 3345764771 ∷ 3516065817 ∷ 3600352804 ∷ 4094571909 ∷ 275423344 ∷
    430227734 ∷ 506948616 ∷ 659060556 ∷ 883997877 ∷ 958139571 ∷ 1322822218 ∷ 1537002063 ∷ 1747873779 ∷
    1955562222 ∷ 2024104815 ∷ 2227730452 ∷ 2361852424 ∷ 2428436474 ∷ 2756734187 ∷ 3204031479 ∷ 3329325298 ∷ []

-- section 5.3.3: the same of the square roots of the first eight
abbrev pub initial : List ℕ
initial = 1779033703 ∷ 3144134277 ∷ 1013904242 ∷ 2773480762 ∷ 1359893119 ∷ 2600822924 ∷ 528734635 ∷ 1541459225 ∷ []
