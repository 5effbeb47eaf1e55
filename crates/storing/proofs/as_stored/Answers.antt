-- `storing::as_stored` meets its contract: each element that is lent is a byte. Assumes nothing.
use mathlib.Core.Path.{sym}
use native.Mathlib.Omega.{arith}
use Rattle.rules.specs.Bits.{Bytes}
use Rattle.book.proofs.Loaded.{phase_at}
use Rattle.storing.proofs.Kept.{kept}
use Rattle.storing.proofs.as_stored.Goals as goal

pub returns : goal.returns
returns c =
    let bytes : Bytes c.args.s.now = record { small = λ i. omega (arith, c.shared_slice_known-1.given i) } in
    (phase_at _, sym (kept _ bytes c.requires))
