use mathlib.Core.Path.{refl, ◌∙◌}
use native.Mathlib.Numerals.{add-one}
use Rattle.file_bytes.proofs.RecordLaws.{rows_stored}
use Rattle.buffer.specs.Stored.{stored, joined}
use Rattle.file_bytes.specs.Bytes.{rows_bytes}
use Rattle.file_bytes.proofs.records.put_rows.Goals as goal

pub loop-a-init : goal.loop-a-init
unfolding rows_bytes joined stored
loop-a-init c = refl

pub loop-a-preserved : goal.loop-a-preserved
loop-a-preserved c = rw add-one ((cc) ∙ rows_stored _ _ _ _)
