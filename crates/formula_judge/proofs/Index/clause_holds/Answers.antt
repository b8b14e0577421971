use borrow.Author.Rules.{rules}
use Rattle.formula_judge.specs.Rest.{clause_at}
use Rattle.formula_judge.proofs.ClauseLaws.{any-clause}
use Rattle.formula_judge.proofs.Index.clause_holds.Goals as goal

pub returns : goal.returns
unfolding clause_at
returns c = any-clause _ _ _ c.at-line.result c.any.new.self _ _ c.any.ensures.ran (let e = c.at-line.ensures in rw (e.0, e.1, e.2)) (λ x b q k. search rules)
