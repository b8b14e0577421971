use Prim.Native.Nat.{◌-◌, ◌≤◌}
use mathlib.Core.Path.{◌≡◌}
use lib.ListN.{length}
use Rattle.file_bytes.specs.Bytes.{start_in, count_in}
use Rattle.file_bytes.proofs.records.count_records.Given as goal

abbrev pub invariant-loop-base : goal.invariant-loop-base
invariant-loop-base l = (l.base ≡ start_in l.xs l.t) × (l.t ≤ count_in l.xs)

abbrev pub decreases-loop-base : goal.decreases-loop-base
decreases-loop-base l = length l.xs - l.base
