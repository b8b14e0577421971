-- Rule 1 on the words of a turn: what it replies and leaves.
use Rattle.std.specs.Prelude.{◌≡◌, Bool, true, false, List, ℕ, ◌<◌, T, get_or}
use Rattle.mask.specs.Mask.{bit}
use Rattle.game.specs.Problem.{Problem}
use Rattle.game.specs.Reasons.{explain_arc}
use Rattle.solver_arrays.specs.Arrays.{States}
use Rattle.solver_arrays.specs.Words.{list_in, why_in, holding}
use Rattle.rule_arc_passes.specs.Passes.{Rests}
use Rattle.rule_arc.specs.Loss.{bars_in}
use Rattle.solver_arrays.specs.declared.arrays.Arrays.{Arrays}

-- For the problem that the arrays state: the words hold the list and the reasons that rule 1 leaves, and the reply is its loss with, where it
-- is lost, its conflict set.
pub record Arced (P : Problem) (n : ℕ) (entry exit : List ℕ) (lost : Bool) (conflict : ℕ) : Type 0 where
  pub words : exit ≡ holding n entry (explain_arc P (list_in n entry) (why_in n entry)).list (explain_arc P (list_in n entry) (why_in n entry)).why
  pub loss : lost ≡ (explain_arc P (list_in n entry) (why_in n entry)).loss
  pub set : lost ≡ true → conflict ≡ (explain_arc P (list_in n entry) (why_in n entry)).set

-- Variable k has no effect on x: no value of an existential x dies because of it, and it bars no value of a universal x.
pub record Calm (A : Arrays) (w : List ℕ) (x k : ℕ) : Type 0 where
  pub rests : T (bit (get_or A.near x 0) k) → Rests A w x k
  pub clear : T (bit (get_or A.near x 0) k) → bit A.universal x ≡ true → bars_in A x k (get_or w x 0) (get_or w k 0) ≡ false

-- So has every variable outside the mask changed.
abbrev pub CalmBut : (n changed : ℕ) (A : Arrays) (w : List ℕ) → Type 0
CalmBut n changed A w = (x k : ℕ) → x < n → k < n → bit changed k ≡ false → Calm A w x k

-- No domain outside the mask changed is empty.
abbrev pub FullBut : ℕ → ℕ → List ℕ → Type 0
FullBut n changed w = (x : ℕ) → x < n → bit changed x ≡ false → ¬ (get_or w x 0 ≡ 0)

-- For every problem that the arrays state.
abbrev pub ArcSteps : (A : Arrays) (entry exit : List ℕ) (lost : Bool) (conflict : ℕ) → Type 0
ArcSteps A entry exit lost conflict = (P : Problem) → States P A.n A → Arced P A.n entry exit lost conflict
