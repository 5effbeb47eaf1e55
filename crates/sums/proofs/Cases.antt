-- Messages with known sums: none, `abc`, and the standard's example of two blocks. Assumes nothing.
use Rattle.std.proofs.Common.{◌≡◌, ℕ, List, [], ◌∷◌, refl}
use Rattle.sums.specs.Words.{constants, big_sigma, small_sigma}
use Rattle.sums.specs.Block.{scheduled, schedule_up_to, round_of, rounds_up_to, after_block}
use Rattle.sums.specs.Sum.{length_up_to, padding, hash_up_to, digits_up_to, sha256_digits}

none : sha256_digits [] ≡
    101 ∷ 51 ∷ 98 ∷ 48 ∷ 99 ∷ 52 ∷ 52 ∷ 50 ∷ 57 ∷ 56 ∷ 102 ∷ 99 ∷ 49 ∷ 99 ∷ 49 ∷ 52 ∷ 57 ∷ 97 ∷ 102 ∷ 98 ∷ 102 ∷ 52 ∷ 99 ∷ 56 ∷
    57 ∷ 57 ∷ 54 ∷ 102 ∷ 98 ∷ 57 ∷ 50 ∷ 52 ∷ 50 ∷ 55 ∷ 97 ∷ 101 ∷ 52 ∷ 49 ∷ 101 ∷ 52 ∷ 54 ∷ 52 ∷ 57 ∷ 98 ∷ 57 ∷ 51 ∷ 52 ∷ 99 ∷
    97 ∷ 52 ∷ 57 ∷ 53 ∷ 57 ∷ 57 ∷ 49 ∷ 98 ∷ 55 ∷ 56 ∷ 53 ∷ 50 ∷ 98 ∷ 56 ∷ 53 ∷ 53 ∷ []
unfolding constants big_sigma small_sigma scheduled schedule_up_to round_of rounds_up_to after_block length_up_to padding hash_up_to digits_up_to sha256_digits
none = refl

abc : sha256_digits (97 ∷ 98 ∷ 99 ∷ []) ≡
    98 ∷ 97 ∷ 55 ∷ 56 ∷ 49 ∷ 54 ∷ 98 ∷ 102 ∷ 56 ∷ 102 ∷ 48 ∷ 49 ∷ 99 ∷ 102 ∷ 101 ∷ 97 ∷ 52 ∷ 49 ∷ 52 ∷ 49 ∷ 52 ∷ 48 ∷ 100 ∷
    101 ∷ 53 ∷ 100 ∷ 97 ∷ 101 ∷ 50 ∷ 50 ∷ 50 ∷ 51 ∷ 98 ∷ 48 ∷ 48 ∷ 51 ∷ 54 ∷ 49 ∷ 97 ∷ 51 ∷ 57 ∷ 54 ∷ 49 ∷ 55 ∷ 55 ∷ 97 ∷ 57 ∷
    99 ∷ 98 ∷ 52 ∷ 49 ∷ 48 ∷ 102 ∷ 102 ∷ 54 ∷ 49 ∷ 102 ∷ 50 ∷ 48 ∷ 48 ∷ 49 ∷ 53 ∷ 97 ∷ 100 ∷ []
unfolding constants big_sigma small_sigma scheduled schedule_up_to round_of rounds_up_to after_block length_up_to padding hash_up_to digits_up_to sha256_digits
abc = refl

-- `abcdbcdecdefdefgefghfghighijhijkijkljklmklmnlmnomnopnopq`
unfoldable two_blocks : List ℕ
two_blocks =
    97 ∷ 98 ∷ 99 ∷ 100 ∷ 98 ∷ 99 ∷ 100 ∷ 101 ∷ 99 ∷ 100 ∷ 101 ∷ 102 ∷ 100 ∷ 101 ∷ 102 ∷ 103 ∷ 101 ∷ 102 ∷ 103 ∷ 104 ∷ 102 ∷
    103 ∷ 104 ∷ 105 ∷ 103 ∷ 104 ∷ 105 ∷ 106 ∷ 104 ∷ 105 ∷ 106 ∷ 107 ∷ 105 ∷ 106 ∷ 107 ∷ 108 ∷ 106 ∷ 107 ∷ 108 ∷ 109 ∷ 107 ∷
    108 ∷ 109 ∷ 110 ∷ 108 ∷ 109 ∷ 110 ∷ 111 ∷ 109 ∷ 110 ∷ 111 ∷ 112 ∷ 110 ∷ 111 ∷ 112 ∷ 113 ∷ []

two : sha256_digits two_blocks ≡
    50 ∷ 52 ∷ 56 ∷ 100 ∷ 54 ∷ 97 ∷ 54 ∷ 49 ∷ 100 ∷ 50 ∷ 48 ∷ 54 ∷ 51 ∷ 56 ∷ 98 ∷ 56 ∷ 101 ∷ 53 ∷ 99 ∷ 48 ∷ 50 ∷ 54 ∷ 57 ∷ 51 ∷
    48 ∷ 99 ∷ 51 ∷ 101 ∷ 54 ∷ 48 ∷ 51 ∷ 57 ∷ 97 ∷ 51 ∷ 51 ∷ 99 ∷ 101 ∷ 52 ∷ 53 ∷ 57 ∷ 54 ∷ 52 ∷ 102 ∷ 102 ∷ 50 ∷ 49 ∷ 54 ∷ 55 ∷
    102 ∷ 54 ∷ 101 ∷ 99 ∷ 101 ∷ 100 ∷ 100 ∷ 52 ∷ 49 ∷ 57 ∷ 100 ∷ 98 ∷ 48 ∷ 54 ∷ 99 ∷ 49 ∷ []
unfolding two_blocks constants big_sigma small_sigma scheduled schedule_up_to round_of rounds_up_to after_block length_up_to padding hash_up_to digits_up_to sha256_digits
two = refl
