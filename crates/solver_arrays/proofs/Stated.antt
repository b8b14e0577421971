-- What the arrays state: tests over the other variables are tests over the neighbours, since free pairs are compatible.
use mathlib.Core.Path.{◌≡◌, sym, ap, ◌∙◌, fun_ext}
use mathlib.Core.Bool.{Bool, false, not}
use mathlib.Core.List.{List}
use Prim.Native.Nat.{ℕ, ◌<◌}
use native.Mathlib.Omega.{arith}
use lib.Dec.{T, not_T, eqb, eqb→eq}
use lib.ListN.{get_or}
use Rattle.mask.specs.Range.{each}
use Rattle.mask.specs.Mask.{bit}
use Rattle.mask.proofs.Logic.{same, clash, test, by_lt}
use Rattle.mask.proofs.Range.{each_in, each_out}
use Rattle.mask.proofs.Bits.{bit_of_zero}
use Rattle.game.specs.Problem.{Problem}
use Rattle.game.specs.Lists.{domains}
use Rattle.solver_arrays.specs.Arrays.{States}
use Rattle.solver_arrays.specs.Words.{list_in}
use Rattle.solver_arrays.proofs.WordLaws.{get_d_list_in}
use Rattle.solver_arrays.specs.declared.arrays.Arrays.{Arrays}

-- The domain of a variable, as the words hold it.
pub domain_of_lem : (n : ℕ) (w : List ℕ) (j : ℕ) → j < n → domains (list_in n w) j ≡ bit (get_or w j 0)
unfolding domains
domain_of_lem n w j h = fun_ext λ b. ap (λ (m : ℕ). bit m b) (get_d_list_in n w j h)

module _ (P : Problem) (n : ℕ) (A : Arrays) (S : States P n A) (x : ℕ) (l : x < n) where
  -- A test that holds of every free pair need only be made of the neighbours.
  pub neighbours :
      (f g : ℕ → Bool) → ((j : ℕ) → j < n → f j ≡ g j) → ((j : ℕ) → P.constrained x j ≡ false → T (f j))
      → each P.n (λ j. not (eqb j x)) f ≡ each 32 (bit (get_or A.near x 0)) g
  neighbours f g e free =
      ap (λ v. each v (λ j. not (eqb j x)) f) S.size
      ∙ same (each n (λ j. not (eqb j x)) f) (each 32 (bit (get_or A.near x 0)) g)
      (λ t. each_in 32 (bit (get_or A.near x 0)) g λ j h b.
      by_lt j n
      (λ k. rw (← (e j k)) (each_out n (λ j. not (eqb j x)) f t j k (other j (rw (S.joined x j l k) b))))
      (λ k. absurd (clash (S.inside x j l k ∙ bit_of_zero j) b)))
      (λ t. each_in n (λ j. not (eqb j x)) f λ j h ne.
      test (P.constrained x j)
      (λ c. rw (e j h) (each_out 32 (bit (get_or A.near x 0)) g t j (omega (arith, S.most)) (rw (S.joined x j l h) at c)))
      (free j))
    where
      other : (j : ℕ) → T (P.constrained x j) → T (not (eqb j x))
      other j c = not_T (eqb j x) (λ t. P.apart x j c (sym (eqb→eq j x t)))
