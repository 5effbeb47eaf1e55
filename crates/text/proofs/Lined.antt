-- The end of a line and joined lines, one byte more. Assumes nothing.
use Rattle.std.proofs.Common.{◌≡◌, ℕ, suc, ◌+◌, ◌<◌, Bool, true, false, List, ◌++◌, length, get_or, take, drop, set, append_assoc, add-one, arith, get_or-drop, drop-cons, take-suc-set, drop-set-lt}
use lib.Seq.{drop-length}
use Rattle.text.specs.Lines.{ends_line, end_from, joined_byte, join_from}

module _ (m : Bool) (s f : ℕ) (w : List ℕ) (i : ℕ) where
  pub end_more : i < length w → ends_line m s f (get_or w i 0) ≡ false
      → i + end_from m s f (drop i w) ≡ i + 1 + end_from m f (get_or w i 0) (drop (i + 1) w)
  unfolding end_from
  end_more h e = rw (add-one i, drop-cons w i 0 h, e) (omega arith)

  pub end_stop : i < length w → ends_line m s f (get_or w i 0) ≡ true → i + end_from m s f (drop i w) ≡ i
  unfolding end_from
  end_stop h e = rw (drop-cons w i 0 h, e) (omega arith)

  pub end_none : i ≡ length w → i + end_from m s f (drop i w) ≡ i
  unfolding end_from
  end_none h = rw (h, drop-length w) (omega arith)

pub join_more : (s f : ℕ) (w : List ℕ) (i v : ℕ) → i < length w → v ≡ joined_byte s f (get_or w i 0) (get_or w (i + 1) 0)
    → take (i + 1) (set w i v) ++ join_from f (get_or w i 0) (drop (i + 1) (set w i v)) ≡ take i w ++ join_from s f (drop i w)
unfolding join_from
join_more s f w i v h e =
    let z : suc i + 0 ≡ suc i = omega arith in
    rw (e, add-one i, take-suc-set w i _ h, drop-set-lt (suc i) w i _ (omega arith), drop-cons w i 0 h, get_or-drop (suc i) w 0 0, z)
    (append_assoc (take i w) _ _)
