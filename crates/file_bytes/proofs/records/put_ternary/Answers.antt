use Rattle.file_bytes.specs.Bytes.{from}
use Rattle.file_bytes.proofs.RecordLaws.{ternary_stored}
use Rattle.file_bytes.proofs.records.put_ternary.Goals as goal

pub returns : goal.returns
returns c = rw (c.put_bytes.ensures, c.put_two.ensures) (ternary_stored _ _ (from c.args.xs.now c.args.base) _)
