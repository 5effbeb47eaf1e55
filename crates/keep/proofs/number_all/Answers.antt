use mathlib.Core.Path.{subst}
use native.Mathlib.Omega.{arith}
use borrow.Author.Rules.{rules}
use Rattle.rules.specs.Accept.{place_at}
use Rattle.keep.specs.Step.{Timed, Ranked}
use Rattle.table.proofs.Laws.{filled_next}
use Rattle.table.specs.Rows.{places_in}
use Rattle.keep.proofs.number_all.Goals as goal

pub loop-k-preserved : goal.loop-k-preserved
loop-k-preserved c =
    let v = c.loop-k in
    let e = c.place_at-l.ensures in
    let t = c.turn_of in
    let w = places_in c.args.ps.now in
    let turns = v.invariant.0 in
    let ranks = v.invariant.1 in (
      search rules,
      search rules,
      filled_next (λ j x. Timed x (place_at w j)) 0 v.turns v.k t.result (omega (arith, turns)) (subst (Timed t.result) e t.ensures) v.invariant.2,
      filled_next (λ j x. Ranked x (place_at w j)) 0 v.ranks v.k c.rank_of.result (omega (arith, ranks))
          (subst (Ranked c.rank_of.result) e c.rank_of.ensures) v.invariant.3,
    )

pub returns : goal.returns
returns c =
    let v = c.loop-k.invariant in
    record {
      turns_long = v.0;
      timed = λ j l. v.2 j (omega arith);
      ranks_long = v.1;
      ranked = λ j l. v.3 j (omega arith);
    }
