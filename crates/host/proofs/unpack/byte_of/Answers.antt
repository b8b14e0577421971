use mathlib.Core.Path.{refl}
use Rattle.host.specs.Unpack.{byte_of}
use Rattle.host.proofs.unpack.byte_of.Goals as goal

pub returns : goal.returns
unfolding byte_of
returns c = refl
