use mathlib.Core.Path.{refl}
use native.Mathlib.Omega.{arith}
use Rattle.formula_clauses.proofs.Clauses.end.Goals as goal

pub returns : goal.returns
returns c = record { text = c.put_end.ensures; same = refl; count = omega arith }
