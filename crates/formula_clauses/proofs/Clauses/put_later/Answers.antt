use mathlib.Core.Path.{◌≡◌}
use native.Mathlib.Omega.{arith}
use Rattle.buffer.specs.Stored.{joined}
use Rattle.formula_clauses.specs.Clauses.{later_of}
use Rattle.formula_clauses.proofs.LineLaws.{lines_none, lines_joined}
use Rattle.formula_clauses.proofs.Clauses.put_later.Goals as goal

pub loop-j-init : goal.loop-j-init
unfolding joined
loop-j-init c = lines_none _

pub loop-j-preserved : goal.loop-j-preserved
loop-j-preserved c = lines_joined _ _ c.loop-j.invariant c.put_pair.ensures

pub returns : goal.returns
unfolding later_of
returns c = let e : c.loop-j.j ≡ c.args.arrays.now.n = omega arith in rw e at c.loop-j.invariant
