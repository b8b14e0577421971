use mathlib.Core.Path.{refl}
use Rattle.formula_clauses.proofs.LineLaws.{lines_some}
use Rattle.formula_clauses.proofs.Clauses.put_some.Goals as goal

pub returns : goal.returns
returns c = lines_some _ _ c.put_words.ensures c.end.ensures refl refl
