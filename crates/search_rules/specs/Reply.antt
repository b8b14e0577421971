-- The reply of rule 2 in numbers.
use Rattle.std.specs.Prelude.{ℕ, Result, Ok, Err}
use Rattle.solver_arrays.specs.declared.words.Loss.{Loss}

-- The variables that rule 2 took values from; none at a loss.
abbrev pub narrowed_of : Result ℕ Loss → ℕ
narrowed_of (Ok m) = m
narrowed_of (Err e) = 0
