-- What the functions of rules 2 and 3 reply and leave, in the words of the game.
use Rattle.std.specs.Prelude.{◌≡◌, false, cond, List, ℕ, ◌<◌, ltb, get_or, Option}
use Rattle.std.specs.Int.Bits.{bit_or}
use Rattle.mask.specs.Mask.{bit}
use Rattle.mask.specs.Found.{found}
use Rattle.game.specs.Problem.{Problem}
use Rattle.game.specs.Forward.{forward_named}
use Rattle.game.specs.LookAhead.{ahead_named}
use Rattle.game.specs.Reasons.{explain_forward, neighbours}
use Rattle.solver_arrays.specs.Arrays.{States}
use Rattle.solver_arrays.specs.Words.{list_in, why_in, reason_in, holding}
use Rattle.solver_arrays.specs.declared.arrays.Arrays.{Arrays}
use Rattle.rule_forward.specs.declared.steps.Ahead.{Ahead}
use Rattle.rule_forward.specs.OneValue.{ahead}

module _ (P : Problem) (n : ℕ) where
  -- The words w after the forward check of value a of x.
  unfoldable pub after_forward : ℕ → ℕ → List ℕ → List ℕ
  after_forward x a w = let o = explain_forward P x a (list_in n w) (why_in n w) in holding n w o.list o.why

  -- The value that a loss of look ahead names, and the variable; 16 and n where there is no loss.
  unfoldable pub ahead_value : ℕ → List ℕ → ℕ
  ahead_value i w = cond (P.universal i) (ahead_named P i (list_in n w)) 16

  unfoldable pub ahead_variable : ℕ → List ℕ → ℕ
  ahead_variable i w = cond (ltb (ahead_value i w) 16) (forward_named P i (ahead_value i w) (list_in n w)) n

-- The conflict set of a loss at x in the check of variable k, by the reasons in w.
unfoldable pub conflict_in : Problem → ℕ → ℕ → List ℕ → ℕ
conflict_in P k x w = bit_or (reason_in w k) (bit_or (reason_in w x) (neighbours P x))

-- The domains outside the mask m, but for that of x, are as they were.
abbrev pub UnmovedBut : ℕ → ℕ → List ℕ → List ℕ → Type 0
UnmovedBut x m w w' = (k : ℕ) → k < 32 → ¬ (k ≡ x) → bit m k ≡ false → get_or w' k 0 ≡ get_or w k 0

-- The conflict set of a loss at x, in the check of k or in look ahead at k, is r.
abbrev pub ForwardConflict : (A : Arrays) (k x : ℕ) (w : List ℕ) (r : ℕ) → Type 0
ForwardConflict A k x w r = (P : Problem) → States P A.n A → x < A.n → r ≡ conflict_in P k x w

-- For every problem that the arrays state.
module _ (A : Arrays) where
  -- The forward check of value a of x turns the words w into w' and replies r.
  abbrev pub Forwarded : (x a : ℕ) (w w' : List ℕ) (r : Option ℕ) → Type 0
  Forwarded x a w w' r = (P : Problem) → States P A.n A → (r ≡ found A.n (forward_named P x a (list_in A.n w))) × (w' ≡ after_forward P A.n x a w)

  -- Look ahead at i over the words w replies r.
  abbrev pub LookedAhead : (i : ℕ) (w : List ℕ) (r : Option Ahead) → Type 0
  LookedAhead i w r = (P : Problem) → States P A.n A → r ≡ ahead (ahead_value P A.n i w) (ahead_variable P A.n i w)
