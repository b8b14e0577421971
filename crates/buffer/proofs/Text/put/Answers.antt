use native.Mathlib.Numerals.{add-one}
use Rattle.buffer.proofs.PutLaws.{put_none, put_one}
use Rattle.buffer.proofs.Text.put.Goals as goal

pub loop-b-init : goal.loop-b-init
loop-b-init c = put_none _

pub loop-b-preserved : goal.loop-b-preserved
loop-b-preserved c = rw add-one (put_one _ _ c.loop-b-test.true c.loop-b.invariant c.put_byte.ensures)
