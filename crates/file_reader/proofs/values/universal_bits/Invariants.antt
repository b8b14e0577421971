use mathlib.Core.Path.{◌≡◌}
use Rattle.file_reader.specs.Reading.{universal_bits}
use Rattle.file_reader.proofs.values.universal_bits.Given as goal

abbrev pub invariant-loop-k : goal.invariant-loop-k
invariant-loop-k l = l.out ≡ universal_bits l.v.file.now l.v.start l.k
