use borrow.Author.Rules.{rules}
use Rattle.rules.specs.Units.{tranches}
use Rattle.rules.specs.Cutback.{free_cut}
use Rattle.rules.specs.Layout.{loaded}
use Rattle.rules.proofs.Made.{made}
use Rattle.cutback.proofs.freed.Goals as goal

pub returns : goal.returns
returns c =
    made (λ b. tranches (free_cut (loaded c.args.s.now) c.args.caps b)) 32 (λ x y q l k. search rules) c.from_fn.ensures.items
