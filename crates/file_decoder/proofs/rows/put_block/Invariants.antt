use Prim.Native.Nat.{ℕ}
use mathlib.Core.Path.{◌≡◌}
use Rattle.file_decoder.specs.Tables.{put_to, Gives}
use Rattle.file_decoder.proofs.rows.put_block.Given as goal

abbrev pub invariant-loop-a : goal.invariant-loop-a
invariant-loop-a g l = (r : ℕ → ℕ) → Gives (goal.R-post g l.row) r → l.rows ≡ put_to l.initial.rows l.base r l.a
