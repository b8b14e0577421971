use native.Mathlib.Omega.{arith}
use mathlib.Core.Path.{refl}
use Rattle.formula_judge.proofs.TextLaws.{Indexed, indexed, inside_by, falls_by, lost_by, judged_by_lem}
use Rattle.formula_judge.proofs.judge_text.Goals as goal
use Rattle.formula_judge.proofs.judge_text.Goals.{After-read_clauses}

-- What is read of the text.
text-indexed : (c : After-read_clauses) →
    Indexed c.args.t.now c.min-count.result c.min.result c.read_prefix-q.result c.read_clauses.new.start c.read_clauses.new.next c.read_clauses.new.head c.read_prefix-q.new.sides
text-indexed c =
    let p = c.read_prefix-q.ensures in
    let r = c.read_clauses.ensures in
    indexed c.number_at-v.ensures.value_value c.number_at-c.ensures.value_value c.min-count.ensures c.min.ensures p.value.0 p.sides_after r.start_after r.next_after r.head_after

pub returns-then-head-ne0 : goal.returns-then-head-ne0
returns-then-head-ne0 c J = lost_by (text-indexed (goal.at.returns-then-head-ne0 c).After-read_clauses) J refl c.if-head-ne0.true

pub returns : goal.returns
returns c J = judged_by_lem (text-indexed (goal.at.returns c).After-read_clauses) J refl c.if-head-ne0.false refl c.judge_rest.ensures

pub invariant_of-index : goal.invariant_of-index
invariant_of-index c = let i = text-indexed (goal.at.invariant_of-index c).After-read_clauses in record { small = omega arith; inside = inside_by i; falls = falls_by i }
