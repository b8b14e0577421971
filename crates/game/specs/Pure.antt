-- Rule 4, pure.
use Rattle.std.specs.Prelude.{Bool, true, cond, not, ◌&&◌, List, ℕ, eqb, set}
use Rattle.mask.specs.Range.{some, each, first}
use Rattle.mask.specs.Mask.{mask_of}
use Rattle.game.specs.Problem.{Problem}
use Rattle.game.specs.Game.{Domains}
use Rattle.game.specs.Lists.{domains}
use Rattle.game.specs.Support.{clashes}

-- The smallest value of a domain.
unfoldable pub lowest : (ℕ → Bool) → ℕ → Bool
lowest m a = m a && not (some a m (λ b. true))

module _ (P : Problem) where
  open P use {n, universal, compatible}

  -- "An option is pure if it goes with every option in the masks of all other choices (000, definition 2)."
  unfoldable pub is_pure : Domains → ℕ → ℕ → Bool
  is_pure D x a = D x a && each n (λ j. not (eqb j x)) (λ j. each 16 (D j) (λ b. compatible x a j b))

  -- "Shift: if any is pure, narrowing to the smallest. Day: narrowing to the options that are not pure; where all are pure, the smallest
  -- stays."
  unfoldable pub purged : Domains → ℕ → ℕ → Bool
  purged D x a =
      let existential = cond (some 16 (is_pure D x) (λ b. true)) (lowest (is_pure D x) a) (D x a) in
      let rest = D x a && not (is_pure D x a) in
      let least = lowest (D x) a in
      cond (universal x) (cond (some 16 (D x) (λ b. not (is_pure D x b))) rest least) existential

  -- "The reply is the mask of pure options."
  unfoldable pub pure : ℕ → List ℕ → ℕ
  pure x l = mask_of 16 (is_pure (domains l) x)

  -- The narrowing that the rule names, at variable x.
  unfoldable pub purge : ℕ → List ℕ → List ℕ
  purge x l = set l x (mask_of 16 (purged (domains l) x))

  -- Card 5. "Each option of the mask that is not pure": the mask is that of variable x in the lent list.
  unfoldable pub is_impure : Domains → ℕ → ℕ → Bool
  is_impure D x a = D x a && not (is_pure D x a)

  -- "The first choice and option in that order which it does not go with": the variables in order of play, x left out, and the values of each
  -- ascending; n and 16 where value a of x goes with all, over a list of n domains.
  unfoldable pub clash_variable : Domains → ℕ → ℕ → ℕ
  clash_variable D x a = first n (λ j. let s = clashes P D x a j in not (eqb j x) && s)

  unfoldable pub clash_value : Domains → ℕ → ℕ → ℕ
  clash_value D x a = let j = clash_variable D x a in first 16 (λ b. D j b && not (compatible x a j b))
