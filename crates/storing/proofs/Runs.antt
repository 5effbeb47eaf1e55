-- Runs of bytes written one after the other. Assumes nothing.
use mathlib.Core.Path.{◌≡◌, refl, ◌∙◌, ap}
use mathlib.Core.List.{List, [], ◌∷◌, ◌++◌}
use Prim.Native.Nat.{ℕ, suc, ◌+◌, ◌*◌}
use native.Mathlib.Omega.{arith}
use lib.ListN.{length, set, length-append}
use lib.Seq.{sets}
use Rattle.rules.specs.declared.Lots.{Lots}
use Rattle.rules.specs.declared.Line.{Line}
use Rattle.rules.specs.declared.Record.{Record}
use Rattle.rules.specs.Held.{going_in, denied_in}
use Rattle.rules.specs.Bid.{bid_in}
use Rattle.rules.specs.Layout.{byte1, lot_bytes, lots_bytes, record_bytes, line_bytes, lot_width, lots_width}

-- a run that begins where the one before it ends is one run with it
pub joined : (a b s : List ℕ) (k n : ℕ) → k + length a ≡ n → sets (sets s k a) n b ≡ sets s k (a ++ b)
joined [] b s k n e = let f : n ≡ k = omega arith in rw f
joined (x ∷ a) b s k n e = joined a b (set s k x) (suc k) n (omega arith)

four : (a b c d s : List ℕ) (k w : ℕ) → length a ≡ w → length b ≡ w → length c ≡ w
    → sets (sets (sets (sets s k a) (k + w) b) (k + 2 * w) c) (k + 3 * w) d ≡ sets s k (a ++ b ++ c ++ d)
four a b c d s k w la lb lc =
    let lab = length-append a b in
    let labc = length-append (a ++ b) c in
    ap (λ t. sets (sets t (k + 2 * w) c) (k + 3 * w) d) (joined a b s k (k + w) (omega arith))
    ∙ ap (λ t. sets t (k + 3 * w) d) (joined (a ++ b) c s k (k + 2 * w) (omega arith))
    ∙ joined (a ++ b ++ c) d s k (k + 3 * w) (omega arith)

pub lots_long : (l : Lots) → length (lots_bytes l) ≡ lots_width
unfolding lots_bytes
lots_long l = refl

module _ (s : List ℕ) (k : ℕ) where
  pub lots_run : (l : Lots)
      → sets (sets (sets (sets s k (lot_bytes l.one)) (k + lot_width) (lot_bytes l.two)) (k + 2 * lot_width) (lot_bytes l.three)) (k + 3 * lot_width) (lot_bytes l.four)
      ≡ sets s k (lots_bytes l)
  unfolding lots_bytes
  lots_run l = four (lot_bytes l.one) (lot_bytes l.two) (lot_bytes l.three) (lot_bytes l.four) s k lot_width refl refl refl

  pub record_run : (r : Record)
      → sets (sets (sets s k (byte1 (going_in r))) (k + 1) (byte1 (denied_in r))) (k + 2) (lots_bytes r.retained) ≡ sets s k (record_bytes r)
  record_run r =
      let a = byte1 (going_in r) in
      let b = byte1 (denied_in r) in
      let c = lots_bytes r.retained in
      ap (λ t. sets t (k + 2) c) (joined a b s k (k + 1) (omega arith)) ∙ joined (a ++ b) c s k (k + 2) (omega arith)

  pub line_run : (l : Line)
      → sets (sets (sets s k (byte1 (bid_in l))) (k + 1) (lots_bytes l.withdrawn)) (k + 1 + lots_width) (byte1 l.priority) ≡ sets s k (line_bytes l)
  line_run l =
      let a = byte1 (bid_in l) in
      let b = lots_bytes l.withdrawn in
      let c = byte1 l.priority in
      let lb = lots_long l.withdrawn in
      let lab = length-append a b in
      ap (λ t. sets t (k + 1 + lots_width) c) (joined a b s k (k + 1) (omega arith)) ∙ joined (a ++ b) c s k (k + 1 + lots_width) (omega arith)
