use Prim.Native.Nat.{ℕ}
use mathlib.Core.Path.{◌≡◌}
use Rattle.file_layout.specs.Numbers.{rows_fit, Gives}
use Rattle.file_layout.proofs.numbers.constraint_fits.Given as goal

abbrev pub invariant-loop-a : goal.invariant-loop-a
invariant-loop-a g l = (r : ℕ → ℕ) → Gives (goal.R-post g l.row) 16 r → l.fits ≡ rows_fit l.di l.dj r l.a
