use Prim.Native.Nat.{◌+◌}
use mathlib.Core.Path.{◌≡◌}
use Rattle.refusal.specs.Chain.{Fine}
use Rattle.file_reader.specs.Reading.{verdict_of}
use Rattle.file_constraints.specs.Ternaries.{after_constraints, t_of, ternary_at}
use Rattle.file_decoder.specs.FileProblem.{ternary_of}
use Rattle.ternary_decoder.specs.Stated.{TernaryStated}
use Rattle.ternary_decoder.proofs.entries.put_ternaries.Given as goal

abbrev pub invariant-loop-r : goal.invariant-loop-r
invariant-loop-r l =
    let A = l.initial.arrays in
    let B = l.arrays in
    (l.place ≡ ternary_at l.f l.q l.r) × (B.n ≡ A.n + l.r) × (B.universal ≡ A.universal) × ((fine : verdict_of l.f ≡ Fine) → l.q ≡ after_constraints l.f
    → l.count ≡ t_of l.f → TernaryStated (ternary_of l.f fine) l.m 0 A → TernaryStated (ternary_of l.f fine) l.m l.r B)
