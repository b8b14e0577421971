-- Rule 5, interchangeable values ("alike").
use Rattle.std.specs.Prelude.{Bool, not, ◌&&◌, List, ℕ, eqb, set}
use Rattle.std.specs.Bool.{beq}
use Rattle.mask.specs.Range.{some, each}
use Rattle.mask.specs.Mask.{mask_of}
use Rattle.game.specs.Problem.{Problem}
use Rattle.game.specs.Game.{Domains}
use Rattle.game.specs.Lists.{domains}

module _ (P : Problem) where
  open P use {n, universal, compatible}

  -- "Options of a choice are alike if they go with the same options in the masks of all other choices."
  unfoldable pub interchange : Domains → ℕ → ℕ → ℕ → Bool
  interchange D x a b = each n (λ j. not (eqb j x)) (λ j. each 16 (D j) (λ c. beq (compatible x a j c) (compatible x b j c)))

  -- "The smallest of each group": no smaller value is like it.
  unfoldable pub representatives : Domains → ℕ → ℕ → Bool
  representatives D x a = D x a && not (some a (D x) (λ b. interchange D x b a))

  -- "The reply is the mask of the smallest of each group."
  unfoldable pub interchangeable : ℕ → List ℕ → ℕ
  interchangeable x l = mask_of 16 (representatives (domains l) x)

  -- The narrowing that the rule names, at variable x.
  unfoldable pub represent : ℕ → List ℕ → List ℕ
  represent x l = set l x (interchangeable x l)
