use mathlib.Core.Path.{◌≡◌}
use Rattle.file_reader.specs.Reading.{domains_to}
use Rattle.file_reader.proofs.values.domains.Given as goal

abbrev pub invariant-loop-k : goal.invariant-loop-k
invariant-loop-k l = l.out ≡ domains_to l.v.file.now l.v.start l.k
