use mathlib.Core.Path.{refl}
use native.Mathlib.Numerals.{add-one}
use Rattle.buffer.specs.Stored.{stored, joined}
use Rattle.file_bytes.specs.Bytes.{from}
use Rattle.file_bytes.proofs.RecordLaws.{byte_stored}
use Rattle.file_bytes.proofs.records.put_bytes.Goals as goal

pub loop-k-init : goal.loop-k-init
unfolding joined stored
loop-k-init c = refl

pub loop-k-preserved : goal.loop-k-preserved
loop-k-preserved c = rw (add-one, c.loop-k.invariant) (byte_stored _ _ (from c.args.xs.now c.args.base) _)
