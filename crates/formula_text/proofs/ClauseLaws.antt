-- The clauses that the code goes through are those of the problem's formula.
use mathlib.Core.Path.{◌≡◌, refl, sym, ap, ap₂, ◌∙◌, fun_ext}
use mathlib.Core.Bool.{true, false, not, ◌&&◌}
use mathlib.Core.List.{List, [], ◌∷◌, ◌++◌}
use Prim.Native.Nat.{ℕ, ◌<◌, ◌%◌}
use native.Mathlib.Nat.{add-zero}
use native.Mathlib.Omega.{arith}
use lib.Dec.{T, eqb, ltb}
use lib.ListN.{get_or}
use Rattle.mask.specs.Mask.{bit, diff}
use Rattle.mask.proofs.Logic.{holds, true_holds, test, and_out}
use Rattle.mask.proofs.Bits.{bit-diff}
use Rattle.buffer.specs.Stored.{joined}
use Rattle.buffer.proofs.StoredLaws.{joined_same, joined_none}
use Rattle.game.specs.Problem.{Problem}
use Rattle.game.specs.Lists.{domains}
use Rattle.formula.specs.Formula.{Literal, only_if}
use Rattle.formula.specs.Encoding.{size, place, base, boolean_of, ways, stands, denial, at_least_one, existential_clauses, clash, clash_clauses, constraint_clauses, pair_clauses, closes, fresh, closing_clauses, formula_of}
use Rattle.formula.proofs.OnlyLaws.{joined-ways, only_in, only_out, only_same}
use Rattle.formula_theory.proofs.Widths.{ways-twice}
use Rattle.formula_theory.proofs.Chosen.{place-size}
use Rattle.solver_arrays.specs.declared.arrays.Arrays.{Arrays}
use Rattle.solver_arrays.specs.Arrays.{row_in, Poses}
use Rattle.formula_words.specs.declared.coded.Coded.{Coded}
use Rattle.formula_words.specs.Coding.{coded_in}
use Rattle.formula_words.specs.Words.{positives, bits_denied, denial_of}
use Rattle.formula_clauses.specs.Clauses.{for_ways, clash_of, row_of, value_of, constraint_of, pair_of, later_of, constraints_of, existential_of, existentials_of}
use Rattle.formula_text.specs.Body.{clauses_in}
use Rattle.formula_text.proofs.CodedLaws.{code_of, side_is, coded_is, all_is, closes_is}

module _ (P : Problem) where
  open P use {n, domain, universal, compatible}

  -- The literals that deny a way; those of which one holds.
  denial_is : (i c : ℕ) → denial_of (code_of P i) c ≡ denial P i c
  unfolding denial_of code_of denial bits_denied boolean_of
  denial_is i c = refl

  some_is : (i : ℕ) → positives (base P i) (size P i) ≡ at_least_one P i
  unfolding positives at_least_one boolean_of
  some_is i = refl

  -- The ways that stand for a value.
  ways_are : (i a : ℕ) → i < n → a < 16 → domains domain i a ≡ true → (g : ℕ → List (List Literal))
      → for_ways (code_of P i) (place P i a) g ≡ joined (λ c. only_if (stands P i c a) (g c)) (ways P i)
  unfolding for_ways code_of stands
  ways_are i a h k t g =
      let w = ways-twice P i h in
      sym (joined-ways g (size P i) (place P i a) (ways P i) (place-size P i a k (true_holds t)) w.0 w.1)
      ∙ joined_same (λ c. only_if (eqb (c % size P i) (place P i a)) (g c)) (λ c. only_if (domains domain i a && eqb (c % size P i) (place P i a)) (g c)) (ways P i)
      (λ c b. rw t)

  -- A clash.
  clash_is : (i a j b : ℕ) → i < n → a < 16 → domains domain i a ≡ true → j < n → b < 16 → domains domain j b ≡ true
      → clash_of (code_of P i) (place P i a) (code_of P j) (place P j b) ≡ clash_clauses P i a j b
  unfolding clash_of clash_clauses
  clash_is i a j b hi ha ta hj hb tb =
      ways_are i a hi ha ta (λ c. for_ways (code_of P j) (place P j b) (λ d. (denial_of (code_of P i) c ++ denial_of (code_of P j) d) ∷ []))
      ∙ ap (λ (f : ℕ → List (List Literal)). joined (λ c. only_if (stands P i c a) (f c)) (ways P i))
      (fun_ext λ c. ways_are j b hj hb tb (λ d. (denial_of (code_of P i) c ++ denial_of (code_of P j) d) ∷ [])
      ∙ ap (λ (f : ℕ → List Literal). joined (λ e. only_if (stands P j e b) (f e ∷ [])) (ways P j)) (fun_ext λ d. ap₂ (λ xs ys. xs ++ ys) (denial_is i c) (denial_is j d)))

  -- The clashes of a value, whose row holds the values of j that go with it.
  module _ (i a j row : ℕ) (hi : i < n) (ha : a < 16) (hj : j < n) (f : (b : ℕ) → b < 16 → compatible i a j b ≡ bit row b) where
    bad_is : domains domain i a ≡ true → (b : ℕ) → b < 16 → bit (diff (get_or domain j 0) row) b ≡ clash P i a j b
    unfolding clash domains
    bad_is t b h = bit-diff (get_or domain j 0) row b ∙ rw (t, f b h)

    other : (b : ℕ) → T (clash P i a j b) → T (domains domain j b)
    unfolding clash
    other b t = (and_out (domains domain i a) (domains domain j b) (and_out (domains domain i a && domains domain j b) (not (compatible i a j b)) t).0).1

    never : domains domain i a ≡ false → (b : ℕ) → clash P i a j b ≡ false
    unfolding clash
    never e b = rw e

    row_is : domains domain i a ≡ true → row_of (code_of P i) (place P i a) (code_of P j) (diff (get_or domain j 0) row)
        ≡ joined (λ b. only_if (clash P i a j b) (clash_clauses P i a j b)) 16
    unfolding row_of code_of domains place
    row_is t =
        joined_same (λ b. only_if (bit (diff (get_or domain j 0) row) b) (clash_of (code_of P i) (place P i a) (code_of P j) (place P j b)))
        (λ b. only_if (clash P i a j b) (clash_clauses P i a j b)) 16
        (λ b h. ap (λ c. only_if c (clash_of (code_of P i) (place P i a) (code_of P j) (place P j b))) (bad_is t b h)
        ∙ only_same (clash P i a j b) (clash_of (code_of P i) (place P i a) (code_of P j) (place P j b)) (clash_clauses P i a j b) (λ u. clash_is i a j b hi ha t hj h (holds (other b u))))

    value_is : value_of (code_of P i) a (code_of P j) row ≡ joined (λ b. only_if (clash P i a j b) (clash_clauses P i a j b)) 16
    unfolding value_of code_of domains place
    value_is =
        test (domains domain i a)
        (λ t. only_in (row_of (code_of P i) (place P i a) (code_of P j) (diff (get_or domain j 0) row)) (holds t) ∙ row_is (holds t))
        (λ e. only_out (row_of (code_of P i) (place P i a) (code_of P j) (diff (get_or domain j 0) row)) e
        ∙ sym (joined_none (λ b. only_if (clash P i a j b) (clash_clauses P i a j b)) 16 (λ b h. only_out (clash_clauses P i a j b) (never e b))))

  -- The closing clause.
  closing_is : positives (base P n) 1 ≡ record { positive = true; boolean = fresh P } ∷ []
  unfolding positives fresh joined
  closing_is = rw add-zero

module _ (P : Problem) (A : Arrays) (S : Poses P A) where
  constraint_is : (i j : ℕ) → i < A.n → j < A.n → constraint_of A i (coded_in A i) j (coded_in A j) ≡ constraint_clauses P i j
  unfolding constraint_of constraint_clauses
  constraint_is i j hi hj =
      ap₂ (λ x y. joined (λ a. value_of x a y (row_in A i a j)) 16) (coded_is P A S i hi) (coded_is P A S j hj)
      ∙ joined_same (λ a. value_of (code_of P i) a (code_of P j) (row_in A i a j)) (λ a. joined (λ b. only_if (clash P i a j b) (clash_clauses P i a j b)) 16) 16
      (λ a h. value_is P i a j (row_in A i a j) (omega (arith, S.states.size)) h (omega (arith, S.states.size)) (λ b hb. S.states.row i a j b hi h hj hb))

  pair_is : (i j : ℕ) → i < A.n → j < A.n → pair_of A i j ≡ only_if (ltb i j && P.constrained i j) (constraint_clauses P i j)
  unfolding pair_of
  pair_is i j hi hj = ap₂ (λ b xs. only_if (ltb i j && b) xs) (sym (S.states.joined i j hi hj)) (constraint_is i j hi hj)

  later_is : (i : ℕ) → i < A.n → later_of A i ≡ joined (λ j. only_if (ltb i j && P.constrained i j) (constraint_clauses P i j)) A.n
  unfolding later_of
  later_is i hi = joined_same (pair_of A i) (λ j. only_if (ltb i j && P.constrained i j) (constraint_clauses P i j)) A.n (λ j hj. pair_is i j hi hj)

  constraints_are : constraints_of A ≡ pair_clauses P
  unfolding constraints_of pair_clauses
  constraints_are =
      joined_same (later_of A) (λ i. joined (λ j. only_if (ltb i j && P.constrained i j) (constraint_clauses P i j)) A.n) A.n later_is
      ∙ ap (λ k. joined (λ i. joined (λ j. only_if (ltb i j && P.constrained i j) (constraint_clauses P i j)) k) k) (sym S.states.size)

  existential_is : (i : ℕ) → i < A.n → existential_of A i ≡ only_if (not (P.universal i)) (at_least_one P i ∷ [])
  unfolding existential_of code_of
  existential_is i h =
      ap₂ (λ b (x : Coded). only_if (not b) (positives x.base x.size ∷ [])) (side_is P A S i h) (coded_is P A S i h)
      ∙ ap (λ (c : List Literal). only_if (not (P.universal i)) (c ∷ [])) (some_is P i)

  existentials_are : existentials_of A ≡ existential_clauses P
  unfolding existentials_of existential_clauses
  existentials_are =
      joined_same (existential_of A) (λ i. only_if (not (P.universal i)) (at_least_one P i ∷ [])) A.n existential_is
      ∙ ap (joined (λ i. only_if (not (P.universal i)) (at_least_one P i ∷ []))) (sym S.states.size)

  -- All clauses.
  pub clauses_are : clauses_in A ≡ (formula_of P).clauses
  unfolding clauses_in formula_of closing_clauses
  clauses_are =
      ap₂ (λ xs ys. xs ++ ys) (ap₂ (λ xs ys. xs ++ ys) existentials_are constraints_are)
      (ap₂ (λ b k. only_if b (positives k 1 ∷ [])) (closes_is P A S) (all_is P A S)
      ∙ ap (λ (c : List Literal). only_if (closes P) (c ∷ [])) (closing_is P))
