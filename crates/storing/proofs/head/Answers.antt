-- `storing::head` meets its contract: the fields are one run. Assumes nothing.
use mathlib.Core.Path.{◌∙◌}
use Rattle.rules.specs.Calls.{opened}
use borrow.Author.Rules.{rules}
use Rattle.storing.proofs.head.Goals as goal

pub returns : goal.returns
unfolding opened
returns c =
    let c₁ = c in
    let c₂ = c₁ in
    let c₃ = c₂ in
    let c₄ = c₃ in
    let c₅ = c₄ in
    let c₆ = c₅ in
    let c₇ = c₆ in (
      c₁.two-2.ensures
          ∙ rw (c₂.two.ensures, c₃.byte-5.ensures, c₄.byte-4.ensures, c₅.byte-3.ensures, c₆.byte-2.ensures, c₇.byte.ensures),
      search rules,
    )
