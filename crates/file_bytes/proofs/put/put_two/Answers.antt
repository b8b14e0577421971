use Rattle.file_bytes.proofs.RecordLaws.{two_stored}
use Rattle.file_bytes.proofs.put.put_two.Goals as goal

pub returns : goal.returns
returns c = two_stored _ _ _
