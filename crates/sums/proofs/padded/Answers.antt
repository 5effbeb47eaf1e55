-- `padded` meets its contract (`Laws.pad`). Assumes nothing.
use Rattle.sums.proofs.Laws.{pad}
use Rattle.sums.proofs.padded.Goals as goal

pub returns : goal.returns
returns c =
    let w = c in
    let l = w in
    λ m h. pad l.args.sum _ m _ h l.length_bytes-length.ensures (c.with-2.ensures _ (w.with.ensures m h))
