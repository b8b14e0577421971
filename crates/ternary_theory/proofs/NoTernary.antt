-- Without three-way constraints the game is that of the binary ones: a problem that has none keeps its verdict and its marks.
use mathlib.Core.Path.{◌≡◌, ap, ◌∙◌, fun_ext}
use mathlib.Core.Bool.{Bool, true, ◌&&◌, and-true}
use mathlib.Core.List.{List, [], ◌∷◌, ◌++◌}
use Prim.Native.Nat.{ℕ}
use lib.ListN.{length}
use Rattle.mask.specs.Range.{each}
use Rattle.mask.specs.Mask.{mask_of}
use Rattle.game.specs.Game.{Play, satisfied, won, wins}
use Rattle.game.specs.Lists.{domains, wins_over}
use Rattle.game.specs.Position.{position}
use Rattle.game.specs.Winning.{verdict, winning_values}
use Rattle.game.specs.Ternary.{TernaryProblem, permits, meets_all, ternary_verdict, ternary_winning}

module _ (J : TernaryProblem) (none : J.ternary ≡ 0) where
  open J use {binary, one, two, three}
  open binary use {n, domain, universal, compatible}

  -- The test at the end is that of the binary constraints.
  none_left : meets_all J ≡ satisfied compatible n
  unfolding meets_all each
  none_left =
      fun_ext λ p.
      ap (λ (k : ℕ). satisfied compatible n p && each k (λ r. true) (λ r. permits J r (p (one r)) (p (two r)) (p (three r)))) none
      ∙ and-true (satisfied compatible n p)

  -- The verdict.
  pub ternary_none : (p : List ℕ) → ternary_verdict J p ≡ verdict binary p
  unfolding ternary_verdict verdict wins_over wins
  ternary_none p = ap (λ (Q : Play → Bool). won universal Q (domains (position binary p)) n 0 (λ j. 0)) none_left

  -- The marks.
  pub ternary_none_winning : (p : List ℕ) → ternary_winning J p ≡ winning_values binary p
  unfolding ternary_winning winning_values
  ternary_none_winning p =
      ap (λ (f : ℕ → Bool). mask_of 16 f) (fun_ext λ a. ap (λ (b : Bool). domains domain (length p) a && b) (ternary_none (p ++ (a ∷ []))))
