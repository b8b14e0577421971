-- Rule 2, forward check.
use Rattle.std.specs.Prelude.{Bool, cond, not, ◌&&◌, List, ℕ, eqb, ltb}
use Rattle.mask.specs.Range.{some, first}
use Rattle.game.specs.Problem.{Problem}
use Rattle.game.specs.Game.{Domains}
use Rattle.game.specs.Lists.{domains, masks_of}
use Rattle.game.specs.Support.{clashes, empty}
use Rattle.game.specs.Rule.{ListRule}

module _ (P : Problem) where
  open P use {n, universal, compatible, constrained}

  -- "Its mask becomes that option; later shift's masks lose the options that clash with it; day's masks stay."
  unfoldable pub forward_domains : Domains → ℕ → ℕ → Domains
  forward_domains D x a j b = cond (eqb j x) (eqb b a) (cond (ltb x j && not (universal j)) (compatible x a j b && D j b) (D j b))

  -- The check loses at variable j: "a later shift's mask is empty or a later day's mask holds a clash".
  abbrev pub forward_fails : Domains → ℕ → ℕ → ℕ → Bool
  forward_fails D x a j = let s = clashes P D x a j in let e = empty P (forward_domains D x a) j in cond (universal j) s e

  unfoldable pub forward_loss : Domains → ℕ → ℕ → Bool
  forward_loss D x a = some n (ltb x) (forward_fails D x a)

  -- The forward check of value a of variable x; "the list holds this result then too".
  unfoldable pub forward : ℕ → ℕ → ListRule
  forward x a l = record { loss = forward_loss (domains l) x a; list = masks_of n (forward_domains (domains l) x a) }

  -- The variable that a loss names: the lowest later one that is emptied or clashes (n if there is none).
  unfoldable pub forward_named : ℕ → ℕ → List ℕ → ℕ
  forward_named x a l = first n (λ j. let f = forward_fails (domains l) x a j in ltb x j && f)
