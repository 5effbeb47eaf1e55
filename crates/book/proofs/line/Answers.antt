use Rattle.book.proofs.Loaded.{line_at}
use Rattle.book.proofs.line.Goals as goal

pub returns : goal.returns
returns c =
    let tranches = c in
    let d = tranches in
    rw (c.lots-withdrawn.ensures, tranches.byte.ensures.0) (line_at d.args.s.now d.args.k d.requires.1)
