-- Clauses that hold, by their parts: one behind another, joined, under a test.
use mathlib.Core.Bool.{Bool, true, false}
use mathlib.Core.List.{List, [], ◌∷◌, ◌++◌}
use Prim.Native.Nat.{ℕ, zero, suc, ◌<◌}
use native.Mathlib.Omega.{arith}
use lib.Dec.{T}
use Rattle.mask.proofs.Logic.{by_eq, and_in, and_out, or_left, or_right, or_out}
use Rattle.buffer.specs.Stored.{joined}
use Rattle.formula.specs.Formula.{Literal, Assignment, only_if, literal_holds, clause_holds, all_hold}
use Rattle.formula_theory.proofs.Forms.{all_have}

module _ (s : Assignment) where
  -- All hold where each does.
  pub have_all : (cs : List (List Literal)) → all_have (λ c. T (clause_holds s c)) cs → T (all_hold s cs)
  unfolding all_hold all_have
  have_all [] f = tt
  have_all (c ∷ cs) f = and_in (clause_holds s c) (all_hold s cs) f.0 (have_all cs f.1)

  -- All of two lists hold exactly if all of each do.
  pub all_both : (xs ys : List (List Literal)) → T (all_hold s xs) → T (all_hold s ys) → T (all_hold s (xs ++ ys))
  unfolding all_hold
  all_both [] ys t u = u
  all_both (c ∷ xs) ys t u =
      let r = and_out (clause_holds s c) (all_hold s xs) t in
      and_in (clause_holds s c) (all_hold s (xs ++ ys)) r.0 (all_both xs ys r.1 u)

  pub all_parts : (xs ys : List (List Literal)) → T (all_hold s (xs ++ ys)) → T (all_hold s xs) × T (all_hold s ys)
  unfolding all_hold
  all_parts [] ys t = (tt, t)
  all_parts (c ∷ xs) ys t =
      let r = and_out (clause_holds s c) (all_hold s (xs ++ ys)) t in
      let q = all_parts xs ys r.1 in
      (and_in (clause_holds s c) (all_hold s xs) r.0 q.0, q.1)

  pub all_one : (c : List Literal) → T (all_hold s (c ∷ [])) → T (clause_holds s c)
  unfolding all_hold
  all_one c t = (and_out (clause_holds s c) true t).0

  pub all_if : (b : Bool) (xs : List (List Literal)) → T (all_hold s (only_if b xs)) → T b → T (all_hold s xs)
  unfolding only_if
  all_if true xs t u = t
  all_if false xs t u = absurd u

  pub all_joined : (g : ℕ → List (List Literal)) (k : ℕ) → T (all_hold s (joined g k)) → (i : ℕ) → i < k → T (all_hold s (g i))
  unfolding joined
  all_joined g zero t i h = absurd (omega arith)
  all_joined g (suc k) t i h =
      let r = all_parts (joined g k) (g k) t in
      by_eq i k (λ e. rw e r.1) (λ e. all_joined g k r.0 i (omega arith))

  -- A clause of two parts holds exactly if one of them does.
  pub clause-left : (xs ys : List Literal) → T (clause_holds s xs) → T (clause_holds s (xs ++ ys))
  unfolding clause_holds
  clause-left [] ys t = absurd t
  clause-left (l ∷ xs) ys t =
      or_out (literal_holds s l) (clause_holds s xs) t (λ u. or_left (literal_holds s l) (clause_holds s (xs ++ ys)) u)
      (λ u. or_right (literal_holds s l) (clause_holds s (xs ++ ys)) (clause-left xs ys u))

  pub clause_right : (xs ys : List Literal) → T (clause_holds s ys) → T (clause_holds s (xs ++ ys))
  unfolding clause_holds
  clause_right [] ys t = t
  clause_right (l ∷ xs) ys t = or_right (literal_holds s l) (clause_holds s (xs ++ ys)) (clause_right xs ys t)

  pub clause-parts : {A : Type 0} (xs ys : List Literal) → T (clause_holds s (xs ++ ys)) → (T (clause_holds s xs) → A) → (T (clause_holds s ys) → A) → A
  unfolding clause_holds
  clause-parts [] ys t f g = g t
  clause-parts (l ∷ xs) ys t f g =
      or_out (literal_holds s l) (clause_holds s (xs ++ ys)) t (λ u. f (or_left (literal_holds s l) (clause_holds s xs) u))
      (λ u. clause-parts xs ys u (λ w. f (or_right (literal_holds s l) (clause_holds s xs) w)) g)

  pub one_literal : (l : Literal) → T (clause_holds s (l ∷ [])) → T (literal_holds s l)
  unfolding clause_holds
  one_literal l t = or_out (literal_holds s l) false t (λ u. u) (λ u. absurd u)

  pub literal_one : (l : Literal) → T (literal_holds s l) → T (clause_holds s (l ∷ []))
  unfolding clause_holds
  literal_one l t = or_left (literal_holds s l) false t

  -- Literals joined: some of them holds.
  pub clause-joined : (g : ℕ → Literal) (k : ℕ) → T (clause_holds s (joined (λ i. g i ∷ []) k)) → (i : ℕ) × (i < k) × T (literal_holds s (g i))
  unfolding joined clause_holds
  clause-joined g zero t = absurd t
  clause-joined g (suc k) t =
      clause-parts (joined (λ i. g i ∷ []) k) (g k ∷ []) t
      (λ u. let r = clause-joined g k u in (r.0, omega (arith, r.1), r.2)) (λ u. (k, omega arith, one_literal (g k) u))

  pub joined-clause : (g : ℕ → Literal) (k i : ℕ) → i < k → T (literal_holds s (g i)) → T (clause_holds s (joined (λ i. g i ∷ []) k))
  unfolding joined
  joined-clause g zero i h t = absurd (omega arith)
  joined-clause g (suc k) i h t =
      by_eq i k (λ e. clause_right (joined (λ i. g i ∷ []) k) (g k ∷ []) (literal_one (g k) (rw e at t)))
      (λ e. clause-left (joined (λ i. g i ∷ []) k) (g k ∷ []) (joined-clause g k i (omega arith) t))
