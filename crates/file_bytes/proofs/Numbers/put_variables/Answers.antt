use mathlib.Core.Path.{refl, ◌∙◌}
use native.Mathlib.Numerals.{add-one}
use Rattle.file_bytes.proofs.RecordLaws.{variables-stored}
use Rattle.buffer.specs.Stored.{stored, joined}
use Rattle.file_bytes.specs.Bytes.{variables_bytes}
use Rattle.file_bytes.proofs.Numbers.put_variables.Goals as goal

pub loop-k-init : goal.loop-k-init
unfolding variables_bytes joined stored
loop-k-init c = refl

pub loop-k-preserved : goal.loop-k-preserved
loop-k-preserved c = rw add-one ((cc) ∙ variables-stored _ _ _ _ _)
