-- Words that are all zero, and arrays of one variable without a value.
use Prim.Native.Nat.{ℕ}
use mathlib.Core.Path.{◌≡◌}
use native.Mathlib.Omega.{arith}
use lib.ListN.{get_or, replicate, length-replicate, get_or-replicate, get_or-eq_default}
use Rattle.mask.proofs.Logic.{by_lt}
use Rattle.solver_arrays.specs.Blocks.{InRange}

pub zeros : (n x : ℕ) → ◌≡◌ {A = ℕ} (get_or (replicate n 0) x 0) 0
zeros n x =
    by_lt x n
    (λ h. get_or-replicate n x 0 0 h)
    (λ h. get_or-eq_default (replicate n 0) 0 {n = x} (omega (arith, length-replicate {A = ℕ} n 0)))

-- No block is named.
pub zeros_in_range : (n : ℕ) → InRange (replicate n 0)
zeros_in_range n x = omega (arith, zeros n x)
