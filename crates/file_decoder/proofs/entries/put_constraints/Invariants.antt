use mathlib.Core.Path.{◌≡◌}
use Rattle.file_decoder.specs.Tables.{near_to, index_to, rows_to, SameVariables}
use Rattle.file_decoder.proofs.entries.put_constraints.Given as goal

abbrev pub invariant-loop-t : goal.invariant-loop-t
invariant-loop-t l =
    let A = l.initial.arrays in
    let B = l.arrays in
    (B.near ≡ near_to A.near l.f l.q l.t) × (B.index ≡ index_to A.index l.f l.q l.t) × (B.rows ≡ rows_to A.rows l.f l.q l.t) × SameVariables A B
