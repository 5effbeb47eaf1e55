use mathlib.Core.Path.{ap, ◌∙◌}
use Rattle.rules.specs.Calls.{opened}
use Rattle.rules.specs.Layout.{stored}
use Rattle.console.proofs.Opening.{open_1, open_17, open_15, open_done, zeros}
use borrow.Author.Rules.{rules}
use Rattle.console.proofs.open.Goals as goal

pub returns-then-s-ne-STATE : goal.returns-then-s-ne-STATE
returns-then-s-ne-STATE c = open_1 _ _ (search rules)

pub returns-then-not-is_zero : goal.returns-then-not-is_zero
returns-then-not-is_zero c = open_17 _ _ (search rules) (search rules)

pub returns-then-not-settings_fit : goal.returns-then-not-settings_fit
returns-then-not-settings_fit c = open_15 _ _ (search rules) (search rules) (search rules)

pub returns : goal.returns
returns c = open_done _ _ (search rules) (search rules) (search rules) _ (c.opened.ensures ∙ ap (λ t. stored (opened t)) c.setup_of.ensures)

pub opened-requires : goal.opened-requires
opened-requires c = zeros _ (search rules) (search rules)
