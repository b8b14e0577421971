use mathlib.Core.Path.{sym, ◌∙◌}
use Rattle.formula_clauses.specs.Clauses.{pair_of}
use Rattle.formula_clauses.proofs.LineLaws.{lines_if, lines_skip}
use Rattle.formula_clauses.proofs.Clauses.put_pair.Goals as goal

pub returns-then-is_pair : goal.returns-then-is_pair
unfolding pair_of
returns-then-is_pair c = rw (← c.coding_of-x.ensures, ← c.coding_of-y.ensures) (lines_if _ (sym c.is_pair.ensures ∙ c.if-is_pair.true) c.put_constraint.ensures)

pub returns-else-is_pair : goal.returns-else-is_pair
unfolding pair_of
returns-else-is_pair c = lines_skip _ _ _ (sym c.is_pair.ensures ∙ c.if-is_pair.false)
