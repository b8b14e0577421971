use mathlib.Core.Path.{refl}
use native.Mathlib.Omega.{arith}
use Rattle.formula_judge.proofs.WalkLaws.{walk_start, walk_next, walk_false, walk_end}
use Rattle.formula_judge.proofs.Index.clauses_hold.Goals as goal

pub loop-k-init : goal.loop-k-init
loop-k-init c = (c.args.self.now.inside _, walk_start _ _ _ _ _ _ _ _ c.requires refl)

pub loop-k-preserved : goal.loop-k-preserved
loop-k-preserved c =
    let f = c.args.self.now.falls c.in-Some.k in
    (omega arith, walk_next _ _ _ _ _ _ _ _ _ c.loop-k.invariant.1 (omega arith) c.clause_holds.ensures _ c.if-not-clause_holds.false refl)

pub returns-then-not-clause_holds : goal.returns-then-not-clause_holds
returns-then-not-clause_holds c = walk_false _ _ _ _ _ _ _ _ _ c.loop-k.invariant.1 (omega arith) c.clause_holds.ensures c.if-not-clause_holds.true

pub returns : goal.returns
returns c = walk_end _ _ _ _ _ _ _ _ (omega (arith, c.in_default.ensures)) c.loop-k.invariant.1
