use Rattle.calls.proofs.Steps.{onward}
use borrow.Author.Rules.{rules}
use Rattle.commands.proofs.shell.answer_lines.Goals as goal

pub loop-start-preserved : goal.loop-start-preserved
loop-start-preserved g c = (search rules, search onward)

pub returns-then-run : goal.returns-then-run
returns-then-run g c = (search rules, search onward)
