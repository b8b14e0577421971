-- Problems with three-way constraints, and their game, defined directly (document 02, card 7): "Verdict and marks of the original choices equal those of the
-- game with three-way tables".
use Rattle.std.specs.Prelude.{Bool, true, ◌&&◌, List, [], ◌∷◌, ◌++◌, ℕ, ◌≤◌, ◌<◌, eqb, length}
use Rattle.mask.specs.Range.{some, each}
use Rattle.mask.specs.Mask.{mask_of}
use Rattle.game.specs.Problem.{Problem}
use Rattle.game.specs.Game.{Play, satisfied, won}
use Rattle.game.specs.Lists.{domains}
use Rattle.game.specs.Position.{position}

-- A problem of binary constraints and `ternary` three-way ones. Constraint r joins the variables one r < two r < three r and permits `size r` triples of
-- values, "a count of 1 to 16, and that many good triples": triple q is first r q, second r q, third r q.
pub record TernaryProblem : Type 0 where
  pub binary : Problem
  pub ternary : ℕ
  pub one : ℕ → ℕ
  pub two : ℕ → ℕ
  pub three : ℕ → ℕ
  pub size : ℕ → ℕ
  pub first : ℕ → ℕ → ℕ
  pub second : ℕ → ℕ → ℕ
  pub third : ℕ → ℕ → ℕ
  pub order : (r : ℕ) → r < ternary → (one r < two r) × (two r < three r) × (three r < binary.n)
  pub filled : (r : ℕ) → r < ternary → (1 ≤ size r) × (size r ≤ 16)

module _ (J : TernaryProblem) where
  open J use {binary, ternary, one, two, three, size, first, second, third}

  -- Constraint r permits the values a, b, c.
  unfoldable pub permits : ℕ → ℕ → ℕ → ℕ → Bool
  permits r a b c = some (size r) (λ q. true) (λ q. eqb a (first r q) && (eqb b (second r q) && eqb c (third r q)))

  -- Every two-way and every three-way constraint holds.
  unfoldable pub meets_all : Play → Bool
  meets_all p = satisfied binary.compatible binary.n p && each ternary (λ r. true) (λ r. permits r (p (one r)) (p (two r)) (p (three r)))

  -- The verdict of the plays p: the game over their position, in which all constraints are looked at when the problem's own variables are played.
  unfoldable pub ternary_verdict : List ℕ → Bool
  ternary_verdict p = won binary.universal meets_all (domains (position binary p)) binary.n 0 (λ j. 0)

  -- The mask of the next variable's values that win when played.
  unfoldable pub ternary_winning : List ℕ → ℕ
  ternary_winning p = mask_of 16 (λ a. domains binary.domain (length p) a && ternary_verdict (p ++ (a ∷ [])))
