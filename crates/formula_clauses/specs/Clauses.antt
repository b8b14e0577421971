-- The clauses of a problem's formula as the code goes through them: over what is coded of two variables, and over the arrays. They are
-- those of formula/specs/Encoding.antt (`clauses_are`, formula_text/proofs/ClauseLaws.antt).
use Rattle.std.specs.Prelude.{ℕ, ◌+◌, not, ◌&&◌, List, [], ◌∷◌, ◌++◌, ltb, get_or}
use Rattle.mask.specs.Range.{count}
use Rattle.mask.specs.Mask.{bit, diff}
use Rattle.buffer.specs.Stored.{joined}
use Rattle.solver_arrays.specs.Arrays.{row_in}
use Rattle.solver_arrays.specs.declared.arrays.Arrays.{Arrays}
use Rattle.formula.specs.Formula.{Literal, only_if}
use Rattle.formula_words.specs.declared.coded.Coded.{Coded}
use Rattle.formula_words.specs.Coding.{coded_in}
use Rattle.formula_words.specs.Words.{positives, denial_of}

-- What g gives for the ways that stand for the value at place p: there are at most two, p and p + size.
unfoldable pub for_ways : Coded → ℕ → (ℕ → List (List Literal)) → List (List Literal)
for_ways x p g = g p ++ only_if (ltb (p + x.size) x.ways) (g (p + x.size))

-- The clash of the values at the places p of x and q of y.
unfoldable pub clash_of : Coded → ℕ → Coded → ℕ → List (List Literal)
clash_of x p y q = for_ways x p (λ c. for_ways y q (λ d. (denial_of x c ++ denial_of y d) ∷ []))

-- The clashes of the value at place p of x with the bad values of y.
unfoldable pub row_of : Coded → ℕ → Coded → ℕ → List (List Literal)
row_of x p y bad = joined (λ b. only_if (bit bad b) (clash_of x p y (count b (bit y.domain)))) 16

-- The clashes of value a of x; it goes with the values in row.
unfoldable pub value_of : Coded → ℕ → Coded → ℕ → List (List Literal)
value_of x a y row = only_if (bit x.domain a) (row_of x (count a (bit x.domain)) y (diff y.domain row))

-- The clashes of the constraint of variable i, coded x, and j, coded y.
unfoldable pub constraint_of : Arrays → ℕ → Coded → ℕ → Coded → List (List Literal)
constraint_of A i x j y = joined (λ a. value_of x a y (row_in A i a j)) 16

module _ (A : Arrays) where
  -- Those of i and j, if i comes before j and a constraint joins them; of i with all others; of all.
  unfoldable pub pair_of : ℕ → ℕ → List (List Literal)
  pair_of i j = only_if (ltb i j && bit (get_or A.near i 0) j) (constraint_of A i (coded_in A i) j (coded_in A j))

  unfoldable pub later_of : ℕ → List (List Literal)
  later_of i = joined (pair_of i) A.n

  unfoldable pub constraints_of : List (List Literal)
  constraints_of = joined later_of A.n

-- At least one value of variable i, if it is existential; of all variables.
unfoldable pub existential_of : Arrays → ℕ → List (List Literal)
existential_of A i = only_if (not (bit A.universal i)) (positives (coded_in A i).base (coded_in A i).size ∷ [])

unfoldable pub existentials_of : Arrays → List (List Literal)
existentials_of A = joined (existential_of A) A.n
