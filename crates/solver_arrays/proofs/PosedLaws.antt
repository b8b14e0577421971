-- Arrays that state a problem over its variables.
use Prim.Native.Nat.{ℕ, ◌<◌}
use mathlib.Core.Path.{◌≡◌, ap, ◌∙◌}
use mathlib.Core.List.{List}
use lib.ListN.{get_or}
use lib.Seq.{get_or-take}
use Rattle.game.specs.Problem.{Problem}
use Rattle.solver_arrays.specs.declared.arrays.Arrays.{Arrays}
use Rattle.solver_arrays.specs.Arrays.{Poses}

-- The domain of each variable.
pub posed_domain : (P : Problem) (A : Arrays) → Poses P A → (i : ℕ) → i < A.n → get_or P.domain i 0 ≡ get_or A.domains i 0
posed_domain P A h i b = ap (λ (l : List ℕ). get_or l i 0) h.domain ∙ get_or-take A.n A.domains i 0 b
