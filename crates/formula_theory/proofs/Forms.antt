-- Each clause of a problem's formula has what its three forms have: at least one value of a variable, a pair of ways that clash, the closing one.
use mathlib.Core.Path.{◌≡◌}
use mathlib.Core.Bool.{Bool, true, false, not, ◌&&◌}
use mathlib.Core.List.{List, [], ◌∷◌, ◌++◌}
use Prim.Native.Nat.{ℕ, zero, suc, ◌<◌}
use native.Mathlib.Omega.{arith}
use lib.Dec.{T, ltb, ltb→lt, T_not}
use Rattle.mask.proofs.Logic.{fails, and_out}
use Rattle.game.specs.Problem.{Problem}
use Rattle.buffer.specs.Stored.{joined}
use Rattle.formula.specs.Formula.{Literal, only_if}
use Rattle.formula.specs.Encoding.{ways, stands, denial, at_least_one, existential_clauses, clash, clash_clauses, constraint_clauses, pair_clauses, closes, fresh, closing_clauses, formula_of}

-- Each clause has C.
unfoldable pub all_have : (List Literal → Type 0) → List (List Literal) → Type 0
all_have C [] = Unit {0}
all_have C (c ∷ cs) = C c × all_have C cs

module _ (C : List Literal → Type 0) where
  have_both : (xs ys : List (List Literal)) → all_have C xs → all_have C ys → all_have C (xs ++ ys)
  unfolding all_have
  have_both [] ys f g = g
  have_both (c ∷ xs) ys f g = (f.0, have_both xs ys f.1 g)

  have_if : (b : Bool) (xs : List (List Literal)) → (T b → all_have C xs) → all_have C (only_if b xs)
  unfolding only_if all_have
  have_if true xs f = f tt
  have_if false xs f = tt

  have_joined : (g : ℕ → List (List Literal)) (k : ℕ) → ((i : ℕ) → i < k → all_have C (g i)) → all_have C (joined g k)
  unfolding joined all_have
  have_joined g zero f = tt
  have_joined g (suc k) f = have_both (joined g k) (g k) (have_joined g k (λ i h. f i (omega arith))) (f k (omega arith))

  have_one : (c : List Literal) → C c → all_have C (c ∷ [])
  unfolding all_have
  have_one c f = (f, tt)

  module _ (P : Problem) where
    open P use {n, universal, constrained}

    pub record Forms : Type 0 where
      pub some : (i : ℕ) → i < n → universal i ≡ false → C (at_least_one P i)
      pub apart : (i j : ℕ) → i < j → j < n → T (constrained i j) → (a b : ℕ) → a < 16 → b < 16 → T (clash P i a j b)
          → (c e : ℕ) → c < ways P i → T (stands P i c a) → e < ways P j → T (stands P j e b) → C (denial P i c ++ denial P j e)
      pub closing : T (closes P) → C (record { positive = true; boolean = fresh P } ∷ [])

    pub all_forms : Forms → all_have C (formula_of P).clauses
    unfolding formula_of existential_clauses pair_clauses constraint_clauses clash_clauses closing_clauses
    all_forms y =
        have_both (existential_clauses P ++ pair_clauses P) (closing_clauses P)
        (have_both (existential_clauses P) (pair_clauses P)
        (have_joined (λ i. only_if (not (universal i)) (at_least_one P i ∷ [])) n
        λ i h. have_if (not (universal i)) (at_least_one P i ∷ []) λ e. have_one (at_least_one P i) (y.some i h (fails (T_not (universal i) e))))
        (have_joined (λ i. joined (λ j. only_if (ltb i j && constrained i j) (constraint_clauses P i j)) n) n
        λ i hi. have_joined (λ j. only_if (ltb i j && constrained i j) (constraint_clauses P i j)) n
        λ j hj. have_if (ltb i j && constrained i j) (constraint_clauses P i j)
        λ k. let q = and_out (ltb i j) (constrained i j) k in
        have_joined (λ a. joined (λ b. only_if (clash P i a j b) (clash_clauses P i a j b)) 16) 16
        λ a la. have_joined (λ b. only_if (clash P i a j b) (clash_clauses P i a j b)) 16
        λ b lb. have_if (clash P i a j b) (clash_clauses P i a j b)
        λ x. have_joined (λ c. only_if (stands P i c a) (joined (λ e. only_if (stands P j e b) ((denial P i c ++ denial P j e) ∷ [])) (ways P j))) (ways P i)
        λ c lc. have_if (stands P i c a) (joined (λ e. only_if (stands P j e b) ((denial P i c ++ denial P j e) ∷ [])) (ways P j))
        λ sc. have_joined (λ e. only_if (stands P j e b) ((denial P i c ++ denial P j e) ∷ [])) (ways P j)
        λ e le. have_if (stands P j e b) ((denial P i c ++ denial P j e) ∷ [])
        λ se. have_one (denial P i c ++ denial P j e) (y.apart i j (ltb→lt i j q.0) hj q.1 a b la lb x c e lc sc le se)))
        (have_if (closes P) ((record { positive = true; boolean = fresh P } ∷ []) ∷ []) λ c. have_one (record { positive = true; boolean = fresh P } ∷ []) (y.closing c))
