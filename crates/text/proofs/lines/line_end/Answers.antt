use Rattle.std.proofs.Common.{◌≡◌, length, sym, ap, ◌∙◌, arith, rules}
use Rattle.text.proofs.Lined.{end_more, end_stop, end_none}
use Rattle.text.specs.Lines.{end_from}
use Rattle.text.proofs.lines.line_end.Goals as goal

pub returns-then-ends_line : goal.returns-then-ends_line
returns-then-ends_line c =
    let w = c.args.w.now in
    let r = c.is_remark-remark in
    let l = c.loop-i in
    (sym (end_stop r.result l.second l.first w l.i (omega arith) (sym c.ends_line.ensures ∙ c.if-ends_line.true)) ∙ l.invariant ∙ ap (λ m. end_from m 0 0 w) r.ensures, search rules)

pub loop-i-preserved : goal.loop-i-preserved
loop-i-preserved c =
    let l = c.loop-i in
    sym (end_more c.is_remark-remark.result l.second l.first c.args.w.now l.i (omega arith) (sym c.ends_line.ensures ∙ c.if-ends_line.false)) ∙ l.invariant

pub returns : goal.returns
returns c =
    let w = c.args.w.now in
    let r = c.is_remark-remark in
    let l = c.loop-i in
    let e : l.i ≡ length w = omega arith in
    (sym e ∙ sym (end_none r.result l.second l.first w l.i e) ∙ l.invariant ∙ ap (λ m. end_from m 0 0 w) r.ensures, search rules)
