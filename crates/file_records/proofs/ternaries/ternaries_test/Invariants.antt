use Prim.Native.Nat.{◌+◌, ◌*◌, ◌≤◌}
use mathlib.Core.Path.{◌≡◌}
use Rattle.refusal.specs.Chain.{Fine}
use Rattle.file_layout.specs.Layout.{ternary_at, leading}
use Rattle.file_records.specs.Records.{last_scope, ternaries_test}
use Rattle.file_records.proofs.ternaries.ternaries_test.Given as goal

-- Those passed are counted and fine, and none has a body of more than 769 bytes.
abbrev pub invariant-loop-count : goal.invariant-loop-count
invariant-loop-count l =
    let v = l.v in
    let f = v.file.now in
    (l.count ≤ leading f l.q 33)
    × (ternaries_test f v.start v.n l.q l.count ≡ Fine)
    × (l.last ≡ last_scope f l.q l.count)
    × (l.end ≡ ternary_at f l.q l.count)
    × (l.end ≤ 17992 + 771 * l.count)
