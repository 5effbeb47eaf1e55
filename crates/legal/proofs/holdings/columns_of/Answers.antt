use mathlib.Core.Bool.{false}
use mathlib.Core.Path.{◌≡◌, sym, ◌∙◌, subst}
use Prim.Native.Nat.{ℕ, ◌≤◌, ◌<◌}
use borrow.Author.Rules.{rules}
use borrow.Author.Tests.{tests}
use lib.ListN.{get_or}
use Rattle.std.proofs.lemmas.Iterator.{YieldsList-from_slice}
use Rattle.std.proofs.lemmas.Iterator.Search.{all_from_yields_List}
use Rattle.rules.specs.Layout.{loaded}
use Rattle.rules.specs.Legal.{record_stands}
use Rattle.rules.proofs.Lists.{all_ext}
use Rattle.rules.proofs.Made.{all_listed, made_each}
use Rattle.legal.specs.Pass.{ColumnOf}
use Rattle.legal.specs.declared.holdings.Column.{Column}
use Rattle.legal.proofs.Passing.{by_columns}
use Rattle.legal.proofs.holdings.columns_of.Goals as goal

blank : Column
blank = record { held = 0; kept = 0; stands = false }

pub returns : goal.returns
returns c =
    let a = loaded c.args.s.now in
    let cs = c.from_fn-columns.result in
    let at : (p : ℕ) → p < 8 → ColumnOf a p (get_or cs p blank) = λ p l. made_each (ColumnOf a) 8 (λ p y q l k. search (rules, tests)) c.from_fn-columns.ensures.items p blank l in
    let held : (p : ℕ) → p < 8 → get_or c.map.result p 0 ≡ (get_or cs p blank).held = λ p l. let k = c.map.ensures.items.at p blank 0 l in search (rules, tests) in
    let kept : (p : ℕ) → p < 8 → get_or c.map-2.result p 0 ≡ (get_or cs p blank).kept = λ p l. let k = c.map-2.ensures.items.at p blank 0 l in search (rules, tests) in
    record {
      held = record {
        each = λ p l. held p l ∙ (at p l).held;
        few = λ p l. subst (λ x. x ≤ 12582720) (sym (held p l)) (at p l).few;
      };
      kept = λ p l. kept p l ∙ (at p l).kept;
      stand = all_from_yields_List (λ c. c.stands) _ _ _ c.all.ensures.ran (YieldsList-from_slice cs cc) (λ x b q k. search (rules, tests))
          ∙ all_listed (λ c. c.stands) cs blank 8 c.from_fn-columns.ensures.items.long ∙ all_ext _ _ 8 (λ p l. (at p l).stands) ∙ by_columns (record_stands a);
    }
