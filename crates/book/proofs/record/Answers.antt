use Rattle.book.proofs.Loaded.{record_at_lem}
use Rattle.book.proofs.record.Goals as goal

pub returns : goal.returns
returns c =
    let going = c in
    let d = going in
    rw (c.lots-retained.ensures, c.byte-2.ensures.0, going.byte.ensures.0) (record_at_lem d.args.s.now d.args.k d.requires.1)
