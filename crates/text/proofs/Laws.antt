-- The end of a run, one byte more; a byte of digits. Assumes nothing.
use Rattle.std.proofs.Common.{◌≡◌, ℕ, zero, suc, ◌+◌, ◌-◌, ◌*◌, ◌<◌, ◌≤◌, true, false, List, ◌++◌, length, get_or, drop, set, sym, refl, append_assoc, add-one, arith, length-append, drop-cons}
use lib.Seq.{set_at}
use Rattle.text.specs.declared.Run.{Run}
use Rattle.text.specs.Words.{goes_on, run_end}
use Rattle.text.specs.Hex.{pair_of, hex_up_to}

-- a byte that belongs to the run
pub run_more : (s : List ℕ) (k : Run) (i n : ℕ) → i < n → goes_on (get_or s i 0) k ≡ true → run_end s k i (n - i) ≡ run_end s k (i + 1) (n - (i + 1))
unfolding run_end
run_more s k i n h t =
    let e : n - i ≡ suc (n - (i + 1)) = omega arith in
    rw (e, t)

-- a byte that does not
pub run_stop : (s : List ℕ) (k : Run) (i n : ℕ) → i < n → goes_on (get_or s i 0) k ≡ false → run_end s k i (n - i) ≡ i
unfolding run_end
run_stop s k i n h t =
    let e : n - i ≡ suc (n - (i + 1)) = omega arith in
    rw (e, t)

-- no byte left
pub run_none : (s : List ℕ) (k : Run) (i n : ℕ) → n ≤ i → run_end s k i (n - i) ≡ i
unfolding run_end
run_none s k i n h =
    let e : n - i ≡ 0 = omega arith in
    rw e

pub hex_length : (w : List ℕ) (n : ℕ) → length (hex_up_to w n) ≡ n
unfolding hex_up_to
hex_length w zero = refl
hex_length w (suc n) = rw (length-append, hex_length w n) (omega arith)

-- a byte stored after the first i
pub hex_more : (w out : List ℕ) (i : ℕ) → i < length out
    → set (hex_up_to w i ++ drop i out) i (pair_of (get_or w (i * 2) 0) (get_or w (i * 2 + 1) 0)) ≡ hex_up_to w (i + 1) ++ drop (i + 1) out
unfolding hex_up_to
hex_more w out i h = rw (add-one i, drop-cons out i 0 h, set_at (hex_up_to w i) _ _ _ i (hex_length w i)) (sym (append_assoc (hex_up_to w i) _ _))
