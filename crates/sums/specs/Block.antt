-- The hash value after one block more: FIPS 180-4, section 6.2.2. Assumes nothing.
use Rattle.std.specs.Prelude.{ℕ, zero, suc, ◌+◌, ◌-◌, ◌*◌, cond, List, [], ◌∷◌, replicate, nat_lt, slice_index, slice_set}
use Rattle.sums.specs.Words.{plus, ch, maj, big_sigma0, big_sigma1, small_sigma0, small_sigma1, constants}
use Rattle.sums.specs.declared.block.Work.{Work}

-- word t of a block: "within each word, the most significant bit is stored in the left-most bit position"
abbrev pub word_of : List ℕ → ℕ → ℕ
word_of b t = ((slice_index b (t * 4) * 256 + slice_index b (t * 4 + 1)) * 256 + slice_index b (t * 4 + 2)) * 256 + slice_index b (t * 4 + 3)

-- 1. "Prepare the message schedule": word t, from those before it
unfoldable pub scheduled : List ℕ → List ℕ → ℕ → ℕ
scheduled b w t =
    cond (nat_lt t 16) (word_of b t)
    (plus (plus (plus (small_sigma1 (slice_index w (t - 2))) (slice_index w (t - 7))) (small_sigma0 (slice_index w (t - 15)))) (slice_index w (t - 16)))

abbrev pub entered : List ℕ → List ℕ → ℕ → List ℕ
entered b w t = slice_set w t (scheduled b w t)

unfoldable pub schedule_up_to : List ℕ → ℕ → List ℕ
schedule_up_to b zero = replicate 64 0
schedule_up_to b (suc t) = entered b (schedule_up_to b t) t

-- 2. "Initialize the eight working variables"
abbrev pub work_of : List ℕ → Work
work_of h =
    record {
      a = slice_index h 0;
      b = slice_index h 1;
      c = slice_index h 2;
      d = slice_index h 3;
      e = slice_index h 4;
      f = slice_index h 5;
      g = slice_index h 6;
      h = slice_index h 7;
    }

-- 3. "For t = 0 to 63"
abbrev pub temporary1 : Work → ℕ → ℕ → ℕ
temporary1 v k w = plus (plus (plus (plus v.h (big_sigma1 v.e)) (ch v.e v.f v.g)) k) w

abbrev pub temporary2 : Work → ℕ
temporary2 v = plus (big_sigma0 v.a) (maj v.a v.b v.c)

abbrev pub moved : Work → ℕ → ℕ → Work
moved v t1 t2 =
    record { a = plus t1 t2; b = v.a; c = v.b; d = v.c; e = plus v.d t1; f = v.e; g = v.f; h = v.g }

unfoldable pub round_of : Work → ℕ → ℕ → Work
round_of v k w = moved v (temporary1 v k w) (temporary2 v)

unfoldable pub rounds_up_to : Work → List ℕ → ℕ → Work
rounds_up_to v w zero = v
rounds_up_to v w (suc t) = round_of (rounds_up_to v w t) (slice_index constants t) (slice_index w t)

-- 4. "Compute the ith intermediate hash value"
abbrev pub added : List ℕ → Work → List ℕ
added h v =
    plus v.a (slice_index h 0) ∷ plus v.b (slice_index h 1) ∷ plus v.c (slice_index h 2) ∷ plus v.d (slice_index h 3)
    ∷ plus v.e (slice_index h 4) ∷ plus v.f (slice_index h 5) ∷ plus v.g (slice_index h 6) ∷ plus v.h (slice_index h 7) ∷ []

unfoldable pub after_block : List ℕ → List ℕ → List ℕ
after_block h b = added h (rounds_up_to (work_of h) (schedule_up_to b 64) 64)
