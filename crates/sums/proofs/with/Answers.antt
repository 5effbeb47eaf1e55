use Rattle.std.proofs.Common.{append-nil, refl, take_all, arith, rules}
use Rattle.sums.proofs.Laws.{sum_of, step}
use Rattle.sums.proofs.with.Goals as goal

pub loop-byte-init : goal.loop-byte-init
loop-byte-init c = (search rules, λ m h. rw (append-nil m) h)

pub loop-byte-preserved : goal.loop-byte-preserved
loop-byte-preserved c =
    let l = c.loop-byte in (
      search rules,
      λ m h. step (sum_of l.words l.block l.count) m _ _ l.byte-index _ (l.invariant.1 m h) (omega arith)
          c.after_byte-next.ensures refl,
    )

pub returns : goal.returns
returns c = λ m h. rw (take_all _ _ c.loop-byte-test.false) at (c.loop-byte.invariant.1 m h)
