use mathlib.Core.Path.{refl}
use native.Mathlib.Omega.{arith}
use Rattle.file_decoder.specs.Tables.{near_start, index_start, rows_start}
use Rattle.file_decoder.proofs.Stated.{start_in_range}
use Rattle.file_decoder.proofs.unconstrained.Goals as goal

pub invariant_of-arrays : goal.invariant_of-arrays
unfolding index_start
invariant_of-arrays c = record { first = omega arith; most = c.requires.1; some = c.requires.0; in_range = start_in_range }

pub returns : goal.returns
unfolding near_start index_start rows_start
returns c = record { own = refl; n = refl; universal = refl; domains = refl; near = refl; index = refl; rows = refl }
