use mathlib.Core.Path.{◌≡◌}
use Rattle.refusal.specs.Chain.{Fine}
use Rattle.file_records.specs.Records.{variables_test}
use Rattle.file_records.proofs.variables.variables_test.Given as goal

abbrev pub invariant-loop-k : goal.invariant-loop-k
invariant-loop-k l = variables_test l.f l.start l.k ≡ Fine
