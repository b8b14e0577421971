-- Rule 5 (interchangeable): its narrowing keeps the verdict.
use mathlib.Core.Path.{◌≡◌, refl, ◌∙◌}
use mathlib.Core.Bool.{Bool, true, false, not, beq}
use Prim.Native.Nat.{ℕ, zero, suc, ◌≤◌, ◌<◌}
use native.Mathlib.Omega.{arith}
use lib.Dec.{T, not_T, eqb, eqb→eq}
use Rattle.game.specs.Interchangeable.{interchange, representatives}
use Rattle.mask.proofs.Logic.{clash, test, and_in, and_out}
use Rattle.mask.proofs.Range.{each_out, some_out}
use Rattle.mask.specs.Range.{some, each}
use Rattle.game.specs.Game.{replace, Domains}
use Rattle.game.specs.Problem.{Problem}
use Rattle.theory.proofs.Laws
use Rattle.theory.proofs.Laws.{Equivalent}
use Rattle.theory.proofs.Swap.{start}
use Rattle.theory.proofs.Transfer.{In}

module _ (P : Problem) where
  open P use {n, universal, compatible, symmetric}

  -- What the test says of two values.
  interchange_out : (D : Domains) (x a b : ℕ) → T (interchange P D x a b) → Equivalent P D x a b
  unfolding interchange
  interchange_out D x a b t j l ne c m =
      eq (compatible x a j c) (compatible x b j c)
      (each_out 16 (D j) (λ c. beq (compatible x a j c) (compatible x b j c))
      (each_out n (λ j. not (eqb j x)) (λ j. each 16 (D j) (λ c. beq (compatible x a j c) (compatible x b j c))) t j l (not_T (eqb j x) (λ e. ne (eqb→eq j x e)))) c m.0 m.1)
    where
      eq : (p q : Bool) → T (beq p q) → p ≡ q
      eq true true t = refl
      eq true false t = absurd t
      eq false true t = absurd t
      eq false false t = refl

  -- Every value has one like it that stays: go down to the smallest.
  pub represented : (D : Domains) (x k b : ℕ) → b < k → k ≤ 16 → T (D x b) → (a : ℕ) × In (representatives P D x) a × Equivalent P D x a b
  unfolding representatives
  represented D x zero b l h t = absurd (omega arith)
  represented D x (suc k) b l h t =
      test (some b (D x) (λ a. interchange P D x a b))
      (λ s. let r = some_out b (D x) (λ a. interchange P D x a b) s in up r.0 (interchange_out D x r.0 b r.3) (represented D x k r.0 (omega (arith, r.1)) (omega arith) r.2))
      (λ e. (b, (omega arith, and_in (D x b) (not (some b (D x) (λ a. interchange P D x a b))) t (not_T (some b (D x) (λ a. interchange P D x a b)) (clash e))), λ j l ne c m. refl))
    where
      up : (c : ℕ) → Equivalent P D x c b → (a : ℕ) × In (representatives P D x) a × Equivalent P D x a c → (a : ℕ) × In (representatives P D x) a × Equivalent P D x a b
      up c e r = (r.0, r.1, λ j l ne d m. r.2 j l ne d m ∙ e j l ne d m)

  -- What stays is a part of the domain.
  pub representatives_in_lem : (D : Domains) (x a : ℕ) → T (representatives P D x a) → T (D x a)
  unfolding representatives
  representatives_in_lem D x a t = (and_out (D x a) (not (some a (D x) (λ b. interchange P D x b a))) t).0

  -- RULE 5: the narrowing keeps the verdict.
  pub interchangeable_law : (D : Domains) (x : ℕ) → x < n → start P D ≡ start P (replace D x (representatives P D x))
  interchangeable_law D x lx = Laws.substitute P D x (representatives P D x) lx (λ a m. representatives_in_lem D x a m.1) (λ b m. represented D x 16 b m.0 (omega arith) m.1)
