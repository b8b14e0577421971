use mathlib.Core.Path.{refl, ◌∙◌}
use native.Mathlib.Numerals.{add-one}
use Rattle.file_bytes.proofs.RecordLaws.{constraints-stored}
use Rattle.buffer.specs.Stored.{stored, joined}
use Rattle.file_bytes.specs.Bytes.{constraints_bytes}
use Rattle.file_bytes.proofs.records.put_constraints.Goals as goal

pub loop-k-init : goal.loop-k-init
unfolding constraints_bytes joined stored
loop-k-init c = refl

pub loop-k-preserved : goal.loop-k-preserved
loop-k-preserved c = rw add-one ((cc) ∙ constraints-stored _ _ _ _ _ _)
