use mathlib.Core.Path.{refl}
use Rattle.formula_clauses.proofs.LineLaws.{lines_one}
use Rattle.formula_clauses.proofs.Clauses.put_clause.Goals as goal

pub returns : goal.returns
returns c = lines_one _ _ c.put_denial.ensures c.put_denial-2.ensures c.end.ensures refl refl
