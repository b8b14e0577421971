use Rattle.formula_words.proofs.WordLaws.{put_code, put_boolean}
use Rattle.formula_words.proofs.literals.put_denial.Goals as goal

pub returns-then-x : goal.returns-then-x
returns-then-x c = put_code _ _ c.if-x.true c.put_bits.ensures

pub returns-else-x : goal.returns-else-x
returns-else-x c = let a = c.args in put_boolean a.x a.c c.if-x.false c.put_literal.ensures
