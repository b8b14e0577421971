use mathlib.Core.Path.{◌≡◌}
use Rattle.refusal.specs.Chain.{Fine}
use Rattle.file_bytes.specs.Bytes.{domain_in}
use Rattle.file_writer.specs.Tests.{last_in, constraints_test}
use Rattle.file_writer.proofs.tests.constraints_test.Given as goal

abbrev pub invariant-loop-t : goal.invariant-loop-t
invariant-loop-t l = (constraints_test (domain_in l.domains) l.x.n l.xs l.t-counter ≡ Fine) × (l.last ≡ last_in l.xs l.t-counter)
