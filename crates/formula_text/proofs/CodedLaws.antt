-- What is coded of a variable, for the problem that the arrays state.
use mathlib.Core.Path.{◌≡◌, refl, sym, ap, ap₂, ◌∙◌}
use mathlib.Core.Bool.{Bool}
use Prim.Native.Nat.{ℕ, zero, suc, ◌+◌, ◌-◌, ◌≤◌, ◌<◌}
use native.Mathlib.Omega.{arith}
use lib.ListN.{get_or}
use Rattle.mask.specs.Range.{count}
use Rattle.mask.specs.Mask.{bit}
use Rattle.game.specs.Problem.{Problem}
use Rattle.game.specs.Lists.{domains}
use Rattle.formula.specs.Encoding.{width_for, ways_for, size, width, base, ways, closes}
use Rattle.solver_arrays.specs.declared.arrays.Arrays.{Arrays}
use Rattle.solver_arrays.specs.Arrays.{Poses}
use Rattle.solver_arrays.proofs.PosedLaws.{posed_domain}
use Rattle.formula_words.specs.declared.coded.Coded.{Coded}
use Rattle.formula_words.specs.Coding.{size_in, base_in, coded_in}
use Rattle.formula_text.specs.Body.{closes_in, all_in}

-- What is coded of variable i of a problem.
unfoldable pub code_of : Problem → ℕ → Coded
code_of P i = record {
  universal = P.universal i;
  base = base P i;
  size = size P i;
  width = width P i;
  ways = ways P i;
  domain = get_or P.domain i 0;
}

made : {u u' : Bool} {b b' s s' w w' c c' d d' : ℕ} → u ≡ u' → b ≡ b' → s ≡ s' → w ≡ w' → c ≡ c' → d ≡ d'
    → ◌≡◌ {A = Coded} (record { universal = u; base = b; size = s; width = w; ways = c; domain = d })
    (record { universal = u'; base = b'; size = s'; width = w'; ways = c'; domain = d' })
made p q r s t o = cc

module _ (P : Problem) (A : Arrays) (S : Poses P A) where
  size_is : (i : ℕ) → i < A.n → size_in A i ≡ size P i
  unfolding size_in size domains
  size_is i h = ap (λ m. count 16 (bit m)) (sym (posed_domain P A S i h))

  pub side_is : (i : ℕ) → i < A.n → bit A.universal i ≡ P.universal i
  side_is i h = sym (S.states.side i h)

  width_is : (i : ℕ) → i < A.n → width_for (bit A.universal i) (size_in A i) ≡ width P i
  unfolding width
  width_is i h = ap₂ width_for (side_is i h) (size_is i h)

  ways_is : (i : ℕ) → i < A.n → ways_for (bit A.universal i) (size_in A i) ≡ ways P i
  unfolding ways
  ways_is i h = ap₂ ways_for (side_is i h) (size_is i h)

  base_is : (i : ℕ) → i ≤ A.n → base_in A i ≡ base P i
  unfolding base_in base
  base_is zero h = refl
  base_is (suc i) h = ap₂ (λ x y. x + y) (base_is i (omega arith)) (width_is i (omega arith))

  pub coded_is : (i : ℕ) → i < A.n → coded_in A i ≡ code_of P i
  unfolding coded_in code_of
  coded_is i h = made (side_is i h) (base_is i (omega arith)) (size_is i h) (width_is i h) (ways_is i h) (sym (posed_domain P A S i h))

  -- How many booleans all variables become; whether the last is universal.
  pub all_is : all_in A ≡ base P P.n
  unfolding all_in
  all_is = base_is A.n (omega arith) ∙ ap (base P) (sym S.states.size)

  pub closes_is : closes_in A ≡ closes P
  unfolding closes_in closes
  closes_is = side_is (A.n - 1) (omega (arith, A.some)) ∙ ap (λ k. P.universal (k - 1)) (sym S.states.size)
