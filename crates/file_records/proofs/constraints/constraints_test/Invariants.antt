use mathlib.Core.Path.{◌≡◌}
use Rattle.refusal.specs.Chain.{Fine}
use Rattle.file_records.specs.Records.{constraints_test, last_pair}
use Rattle.file_records.proofs.constraints.constraints_test.Given as goal

abbrev pub invariant-loop-k : goal.invariant-loop-k
invariant-loop-k l =
    let v = l.v in
    (constraints_test v.file.now v.start v.n l.q l.k ≡ Fine) × (l.last ≡ last_pair v.file.now l.q l.k)
