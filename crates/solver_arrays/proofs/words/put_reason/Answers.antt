use mathlib.Core.Path.{refl}
use Rattle.solver_arrays.specs.Words.{put_reason}
use Rattle.solver_arrays.proofs.words.put_reason.Goals as goal

pub returns : goal.returns
unfolding put_reason
returns c = refl
