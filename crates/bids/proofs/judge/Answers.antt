use mathlib.Core.Path.{◌∙◌, ap, sym}
use native.Mathlib.Omega.{arith}
use borrow.Author.Tests.{lt-ltb, le-ltb}
use Rattle.rules.specs.Answers.{answer_from}
use Rattle.rules.specs.Layout.{loaded}
use Rattle.bids.proofs.More.{judged_is}
use Rattle.bids.proofs.judge.Goals as goal

pub overflow_add-x : goal.overflow_add-x
overflow_add-x c =
    let f = c in
    let s = f.tally_of-t.ensures.small in
    let m = f.requires.lent.counts.products in
    let h = f.struct_known-1 in
    omega arith

pub returns-then-not-y : goal.returns-then-not-y
returns-then-not-y c =
    let x = c in
    let a = x.args in
    ap answer_from (rw (x.if-not-y.true) at (judged_is (loaded a.s.now) a.b a.lines x.tally_of-t.result.sums x.tally_of-t.result.kept x.free-f.result.0 x.tally_of-t.ensures x.free-f.ensures))

pub returns-then-not-y-2 : goal.returns-then-not-y-2
returns-then-not-y-2 c =
    let x = c in
    let a = x.args in
    ap answer_from (rw (x.if-not-y.false, x.if-not-y-2.true) at (judged_is (loaded a.s.now) a.b a.lines x.tally_of-t.result.sums x.tally_of-t.result.kept x.free-f.result.0 x.tally_of-t.ensures x.free-f.ensures))

pub returns-then-x-f : goal.returns-then-x-f
returns-then-x-f c =
    let x = c in
    let a = x.args in
    ap answer_from (rw (x.if-not-y.false, x.if-not-y-2.false, lt-ltb _ _ x.if-x-f.true) at (judged_is (loaded a.s.now) a.b a.lines x.tally_of-t.result.sums x.tally_of-t.result.kept x.free-f.result.0 x.tally_of-t.ensures x.free-f.ensures))

pub returns-then-not-y-x : goal.returns-then-not-y-x
returns-then-not-y-x c =
    let x = c in
    let a = x.args in
    ap answer_from (rw (x.if-not-y.false, x.if-not-y-2.false, le-ltb _ _ x.if-x-f.false, ← x.switches-switches.ensures, ← x.withdrawals-w.ensures, x.if-not-y-x.true) at (judged_is (loaded a.s.now) a.b a.lines x.tally_of-t.result.sums x.tally_of-t.result.kept x.free-f.result.0 x.tally_of-t.ensures x.free-f.ensures))

pub returns-then-not-y-3 : goal.returns-then-not-y-3
returns-then-not-y-3 c =
    let x = c in
    let a = x.args in
    ap answer_from (rw (x.if-not-y.false, x.if-not-y-2.false, le-ltb _ _ x.if-x-f.false, ← x.switches-switches.ensures, ← x.withdrawals-w.ensures, x.if-not-y-x.false, x.if-not-y-3.true) at (judged_is (loaded a.s.now) a.b a.lines x.tally_of-t.result.sums x.tally_of-t.result.kept x.free-f.result.0 x.tally_of-t.ensures x.free-f.ensures))

pub returns-then-not-priorities_fit : goal.returns-then-not-priorities_fit
returns-then-not-priorities_fit c =
    let x = c in
    let a = x.args in
    ap answer_from (rw (x.if-not-y.false, x.if-not-y-2.false, le-ltb _ _ x.if-x-f.false, ← x.switches-switches.ensures, ← x.withdrawals-w.ensures, x.if-not-y-x.false, x.if-not-y-3.false, ← x.priorities_fit.ensures, x.if-not-priorities_fit.true) at (judged_is (loaded a.s.now) a.b a.lines x.tally_of-t.result.sums x.tally_of-t.result.kept x.free-f.result.0 x.tally_of-t.ensures x.free-f.ensures))

pub returns : goal.returns
returns c =
    let x = c in
    let a = x.args in
    ap answer_from (rw (x.if-not-y.false, x.if-not-y-2.false, le-ltb _ _ x.if-x-f.false, ← x.switches-switches.ensures, ← x.withdrawals-w.ensures, x.if-not-y-x.false, x.if-not-y-3.false, ← x.priorities_fit.ensures, x.if-not-priorities_fit.false) at (judged_is (loaded a.s.now) a.b a.lines x.tally_of-t.result.sums x.tally_of-t.result.kept x.free-f.result.0 x.tally_of-t.ensures x.free-f.ensures))
