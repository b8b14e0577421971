use Rattle.formula_words.proofs.WordLaws.{put_positive, put-negative}
use Rattle.formula_words.proofs.literals.put_literal.Goals as goal
use Rattle.formula_words.proofs.literals.put_literal.Goals.{then-not-positive, else-not-positive}

pub returns : goal.returns
returns c =
    elim c.if-not-positive.branch [
      | then-not-positive w ↦ put-negative _ _ w.if-not-positive.true w.put_byte.ensures (rw w.t-is at c.put_word.ensures)
      | else-not-positive w ↦ put_positive _ _ w.if-not-positive.false (rw w.t-is at c.put_word.ensures)
    ]
