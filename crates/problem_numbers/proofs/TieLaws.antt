-- Two variables are tied either way round.
use mathlib.Core.Path.{◌≡◌}
use mathlib.Core.Bool.{or_comm}
use Prim.Native.Nat.{ℕ}
use Rattle.game.specs.Problem.{Problem}
use Rattle.problem_numbers.specs.Numbers.{tied}

pub tied_back : (P : Problem) (i j : ℕ) → tied P i j ≡ tied P j i
unfolding tied
tied_back P i j = or_comm (P.constrained i j) (P.constrained j i)
