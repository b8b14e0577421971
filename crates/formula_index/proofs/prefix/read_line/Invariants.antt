use Rattle.formula.specs.Text.{quantified}
use Rattle.formula_index.specs.Marked.{marked}
use Rattle.formula_index.proofs.LineLaws.{Going}
use Rattle.formula_index.proofs.prefix.read_line.Given as goal

abbrev pub invariant-loop-x : goal.invariant-loop-x
invariant-loop-x l = Going (λ s ls. marked s (quantified l.universal ls)) l.t l.most l.p l.initial.sides l.line.text.now l.line.left l.line.place l.sides

abbrev pub decreases-loop-x : goal.decreases-loop-x
decreases-loop-x l = l.line.left
