use mathlib.Core.Path.{ap}
use native.Mathlib.Omega.{arith}
use Rattle.buffer.specs.Stored.{stored}
use Rattle.file_bytes.proofs.RecordLaws.{word_is}
use Rattle.file_bytes.proofs.put.put_word.Goals as goal

pub returns : goal.returns
returns c = rw (c.put_two.ensures, c.to_le_bytes.ensures) (ap (stored _ _) (word_is c.args.w (omega arith)))
