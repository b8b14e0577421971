use Prim.Native.Nat.{◌≤◌}
use mathlib.Core.Path.{◌≡◌}
use lib.ListN.{length}
use Rattle.refusal.specs.Chain.{Fine}
use Rattle.file_bytes.specs.Bytes.{domain_in, start_in}
use Rattle.file_writer.specs.Tests.{last_scope_in, ternaries_test}
use Rattle.file_writer.proofs.tests.ternaries_test.Given as goal

abbrev pub invariant-loop-k : goal.invariant-loop-k
invariant-loop-k l =
    (ternaries_test (domain_in l.domains) l.x.n l.xs l.k ≡ Fine) × (l.last ≡ last_scope_in l.xs l.k)
    × (l.base ≡ start_in l.xs l.k) × (l.base ≤ length l.xs)
