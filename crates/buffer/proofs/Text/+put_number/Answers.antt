use Rattle.buffer.proofs.DecimalLaws.{number-one, number_more}
use Rattle.buffer.proofs.Text.+put_number.Goals as goal
use Rattle.buffer.proofs.Text.+put_number.Goals.{then-x-gt9, else-x-gt9}

pub returns : goal.returns
returns t c =
    elim c.if-x-gt9.branch [
      | then-x-gt9 w ↦ number_more _ w.if-x-gt9.true c.digit.ensures w.put_number.ensures (rw w.self-is at c.put_byte.ensures)
      | else-x-gt9 w ↦ number-one _ w.if-x-gt9.false c.digit.ensures (rw w.self-is at c.put_byte.ensures)
    ]
