use Rattle.formula_index.specs.Chains.{last_from}
use Rattle.formula_index.proofs.LineLaws.{Going}
use Rattle.formula_index.proofs.chains.clause_at.Given as goal

abbrev pub invariant-loop-x : goal.invariant-loop-x
invariant-loop-x l = Going last_from l.t l.most l.p 0 l.line.text.now l.line.left l.line.place l.last

abbrev pub decreases-loop-x : goal.decreases-loop-x
decreases-loop-x l = l.line.left
