use Rattle.file_bytes.specs.Bytes.{variable_mark}
use Rattle.file_bytes.proofs.records.variable_mark.Goals as goal

pub returns-then-universal : goal.returns-then-universal
unfolding variable_mark
returns-then-universal c = rw c.if-universal.true

pub returns-else-universal : goal.returns-else-universal
unfolding variable_mark
returns-else-universal c = rw c.if-universal.false
