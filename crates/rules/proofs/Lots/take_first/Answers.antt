use Rattle.rules.proofs.LotLaws.{first_some}
use Rattle.rules.proofs.Lots.take_first.Goals as goal

pub fewer-requires : goal.fewer-requires
fewer-requires c = rw (c.at-l.ensures, c.first-i.ensures) (first_some c.args.self c.requires)

pub returns : goal.returns
returns c = cc
