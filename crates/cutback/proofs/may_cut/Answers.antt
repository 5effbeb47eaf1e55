use mathlib.Core.Path.{refl, ap, ap₂, ◌∙◌}
use mathlib.Core.Bool.{◌&&◌}
use lib.Dec.{leb, eqb}
use borrow.Author.Rules.{rules}
use borrow.Author.Tests.{tests}
use Rattle.rules.specs.Settings.{setup}
use Rattle.rules.specs.Cutback.{numbers_fit}
use Rattle.rules.specs.Layout.{loaded}
use Rattle.rules.proofs.Ranges.{all_below}
use Rattle.cutback.proofs.Laws.{volume_is}
use Rattle.cutback.proofs.may_cut.Goals as goal

pub returns : goal.returns
returns c =
    let a = c.args in
    let fit =
    all_below (numbers_fit (setup (loaded c.args.s.now)) c.args.targets c.args.caps) 8 refl (λ x b q k. search (rules, tests)) c.all-fit.ensures.ran in
    ap₂ (λ x y. eqb x 2 && y) c.round.ensures (ap₂ (λ x y. eqb x 0 && y) c.filed.ensures
    (ap (λ x. c.all-fit.result && leb x c.volume.result) c.statewide-statewide.ensures
    ∙ volume_is (setup (loaded a.s.now)) a.targets a.caps _ c.volume.result c.all-fit.result c.requires.counts.products fit c.volume.ensures))
