-- The steps of a turn before and between its values.
use Rattle.std.specs.Prelude.{◌≡◌, Bool, true, false, not, ◌&&◌, List, ℕ, ◌≤◌, eqb, get_or, length, Result, Ok, Err}
use Rattle.game.specs.Problem.{Problem}
use Rattle.game.specs.Rule.{uses}
use Rattle.game.specs.Reasons.{Step, explained}
use Rattle.game.specs.Search.{untried, skippable, narrow_next}
use Rattle.solver_arrays.specs.Arrays.{States}
use Rattle.solver_arrays.specs.Words.{list_in, why_in, leaf_in}
use Rattle.rule_skip.specs.Skip.{LeafSmall}
use Rattle.solver_arrays.specs.declared.words.Loss.{Loss}
use Rattle.search_rules.specs.RuledTurn.{Plays}
use Rattle.search_steps.specs.declared.Entered.{Entered}
use Rattle.solver_arrays.specs.declared.arrays.Arrays.{Arrays}

-- The values to try, and whether rules 4 and 5 narrowed them; at a loss none.
abbrev pub left_of : Result Entered Loss → ℕ
left_of (Ok e) = e.left
left_of (Err l) = 0

abbrev pub narrowed_of : Result Entered Loss → Bool
narrowed_of (Ok e) = e.narrowed
narrowed_of (Err l) = false

-- The step of the rules of a turn over the list and the reasons that the words w hold.
abbrev pub step_of : Problem → ℕ → ℕ → ℕ → List ℕ → List ℕ → Step
step_of P n S c p w = explained P S c p (list_in n w) (why_in n w)

-- After the rules of the turn of variable d: a loss with its set; or the words hold the list and the reasons that the turn tries values of,
-- `left` is the mask of these values, and `narrowed` says whether rules 4 and 5 changed it. Words behind the reasons stay. At a loss the words
-- hold the list of the rule that found it.
pub record Enters (P : Problem) (n S c d : ℕ) (p w w' : List ℕ) (lost : Bool) (conflict left : ℕ) (narrowed : Bool) : Type 0 where
  pub size : length w' ≡ length w
  pub kept : (k : ℕ) → 96 ≤ k → get_or w' k 0 ≡ get_or w k 0
  pub loss : lost ≡ (step_of P n S c p w).loss
  pub set : lost ≡ true → conflict ≡ (step_of P n S c p w).set
  pub lost_list : lost ≡ true → list_in n w' ≡ (step_of P n S c p w).list
  pub list : lost ≡ false → list_in n w' ≡ (narrow_next P S d (step_of P n S c p w).list).list
  pub why : lost ≡ false → why_in n w' ≡ (step_of P n S c p w).why
  pub tried : lost ≡ false → left ≡ get_or w' d 0
  pub change : lost ≡ false → narrowed ≡ not (eqb (get_or (narrow_next P S d (step_of P n S c p w).list).list d 0) (get_or (step_of P n S c p w).list d 0))

-- In every problem that the arrays state.
module _ (n : ℕ) (A : Arrays) where
  abbrev pub EntersTurn : (S c d : ℕ) (w w' : List ℕ) (lost : Bool) (conflict left : ℕ) (narrowed : Bool) → Type 0
  EntersTurn S c d w w' lost conflict left narrowed =
      (P : Problem) → States P n A → (p : List ℕ) → Plays c d p w → Enters P n S c d p w w' lost conflict left narrowed

  -- The mask r is what is left of `left` after value a of variable d gave the leaf in the words.
  abbrev pub LeavesUntried : (S d left a : ℕ) (w : List ℕ) (r : ℕ) → Type 0
  LeavesUntried S d left a w r =
      (P : Problem) → States P n A → LeafSmall n w → r ≡ untried (λ b. uses S 7 && skippable P (list_in n w) d (leaf_in n w) b) a left
