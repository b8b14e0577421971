use mathlib.Core.Path.{◌≡◌, sym}
use native.Mathlib.Omega.{arith}
use Rattle.std.specs.Prelude.{◌+◌, ◌-◌}
use Rattle.file_lookup.specs.Part.{part}
use Rattle.file_lookup.proofs.PartLaws.{part_short, part_there}
use Rattle.file_lookup.proofs.part.part_at.Goals as goal

pub returns-then-f-k : goal.returns-then-f-k
returns-then-f-k c = sym (part_short _ _ _ (omega arith))

pub returns : goal.returns
unfolding part
returns c = let e : c.args.p + c.args.k - c.args.p ≡ c.args.k = omega arith in rw e (sym (part_there _ _ _ (omega arith)))
