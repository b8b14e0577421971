use mathlib.Core.Path.{◌≡◌}
use native.Mathlib.Omega.{arith}
use Rattle.buffer.specs.Stored.{joined}
use Rattle.formula_clauses.specs.Clauses.{constraints_of}
use Rattle.formula_clauses.proofs.LineLaws.{lines_none, lines_joined}
use Rattle.formula_clauses.proofs.Clauses.put_constraints.Goals as goal

pub loop-i-init : goal.loop-i-init
unfolding joined
loop-i-init c = lines_none _

pub loop-i-preserved : goal.loop-i-preserved
loop-i-preserved c = lines_joined _ _ c.loop-i.invariant c.put_later.ensures

pub returns : goal.returns
unfolding constraints_of
returns c = let e : c.loop-i.i ≡ c.args.arrays.now.n = omega arith in rw e at c.loop-i.invariant
