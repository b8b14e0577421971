use mathlib.Core.Path.{◌∙◌}
use Rattle.file_bytes.proofs.RecordLaws.{variable_stored}
use Rattle.file_bytes.proofs.records.put_variable.Goals as goal

pub returns : goal.returns
returns c = (cc) ∙ variable_stored _ _ _ _
