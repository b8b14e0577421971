use mathlib.Core.Path.{refl}
use Rattle.buffer.specs.Decimal.{digit}
use Rattle.buffer.proofs.digit.Goals as goal

pub returns : goal.returns
unfolding digit
returns c = refl
