use Rattle.formula_judge.proofs.Index.+judge_rest.Given as goal

-- The booleans to come fall.
abbrev pub decreases-judge_rest : goal.decreases-judge_rest
decreases-judge_rest l = l.left
