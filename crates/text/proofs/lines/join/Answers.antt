use lib.Seq.{take-length, drop-length}
use Rattle.std.proofs.Common.{◌≡◌, length, ◌∙◌, append-nil, arith}
use Rattle.text.proofs.Lined.{join_more}
use Rattle.text.specs.Lines.{join_from}
use Rattle.text.proofs.lines.join.Goals as goal

pub loop-i-preserved : goal.loop-i-preserved
loop-i-preserved c =
    let l = c.loop-i in
    join_more l.second l.first l.w l.i _ (omega arith) (rw c.byte_at-next.ensures at c.joined_byte.ensures) ∙ l.invariant

pub returns : goal.returns
unfolding join_from
returns c =
    let l = c.loop-i in
    let e : l.i ≡ length l.w = omega arith in
    rw (e, take-length l.w, drop-length l.w, append-nil) at l.invariant
