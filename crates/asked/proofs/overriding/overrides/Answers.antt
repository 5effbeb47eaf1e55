use Rattle.std.proofs.Common.{rules}
use Rattle.asked.proofs.Overrides.{at_large, at_other, at_end, no_product, twice, no_points, missing, one_more, at_limit}
use Rattle.asked.proofs.overriding.overrides.Goals as goal

pub loop-n-init : goal.loop-n-init
loop-n-init c = (search rules, rw c.none_chosen-overrides.ensures)

pub loop-n-preserved : goal.loop-n-preserved
loop-n-preserved c = (search rules, search one_more)

pub returns-after-loop-n : goal.returns-after-loop-n
returns-after-loop-n c = search at_limit

pub returns-then-p-gt7 : goal.returns-then-p-gt7
returns-then-p-gt7 c = search no_product

pub returns-then-is_some : goal.returns-then-is_some
returns-then-is_some c = search twice

pub returns-in-NotANumber-take_points : goal.returns-in-NotANumber-take_points
returns-in-NotANumber-take_points c = search no_points

pub returns-in-End-take_points : goal.returns-in-End-take_points
returns-in-End-take_points c = search missing

pub returns-in-TooLarge : goal.returns-in-TooLarge
returns-in-TooLarge c = search at_large

pub returns-in-NotANumber : goal.returns-in-NotANumber
returns-in-NotANumber c = search at_other

pub returns-then-n-eq0 : goal.returns-then-n-eq0
returns-then-n-eq0 c = search at_end

pub returns-else-n-eq0 : goal.returns-else-n-eq0
returns-else-n-eq0 c = search at_end
