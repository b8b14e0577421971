-- The lines behind the first, as the code forms them, over the decoded arrays. They are those of formula/specs/Text.antt for the problem
-- that the arrays state (proofs/ModelLaws.antt).
use Rattle.std.specs.Prelude.{ℕ, suc, ◌-◌, min, ◌≡◌, Bool, true, false, cond, List, [], ◌∷◌, ◌++◌, eqb, length}
use Rattle.mask.specs.Mask.{bit}
use Rattle.buffer.specs.Stored.{joined}
use Rattle.buffer.specs.declared.Text.{Text}
use Rattle.buffer.specs.Put.{largest, Put}
use Rattle.formula.specs.Formula.{Literal, only_if}
use Rattle.formula.specs.Text.{line_end, letter, line_start, clauses_text}
use Rattle.solver_arrays.specs.declared.arrays.Arrays.{Arrays}
use Rattle.formula_words.specs.Coding.{base_in, coded_in}
use Rattle.formula_words.specs.Words.{words_text, positives}
use Rattle.formula_clauses.specs.Clauses.{constraints_of, existentials_of}

-- From a line of side u to one of side w.
unfoldable pub turn_text : Bool → Bool → List ℕ
turn_text u w = cond (eqb (letter u) (letter w)) [] (line_end ++ line_start w)

-- What stands before the booleans of variable i; then these too; those of all variables.
unfoldable pub opening_text : ℕ → ℕ → List ℕ
opening_text universal i = cond (eqb i 0) (line_start (bit universal i)) (turn_text (bit universal (i - 1)) (bit universal i))

unfoldable pub block_text : Arrays → ℕ → List ℕ
block_text A i = opening_text A.universal i ++ words_text (coded_in A i).base (coded_in A i).width

unfoldable pub blocks_text : Arrays → List ℕ
blocks_text A = joined (block_text A) A.n

-- The last variable is universal; how many booleans the variables become.
unfoldable pub closes_in : Arrays → Bool
closes_in A = bit A.universal (A.n - 1)

unfoldable pub all_in : Arrays → ℕ
all_in A = base_in A A.n

-- The closing boolean; the lines of the prefix with it.
unfoldable pub fresh_text : Arrays → List ℕ
fresh_text A = cond (closes_in A) (turn_text true false ++ words_text (all_in A) 1) []

unfoldable pub prefix_lines : Arrays → List ℕ
prefix_lines A = blocks_text A ++ (fresh_text A ++ line_end)

-- How many booleans there are; all clauses.
unfoldable pub booleans_in : Arrays → ℕ
booleans_in A = cond (closes_in A) (suc (all_in A)) (all_in A)

unfoldable pub clauses_in : Arrays → List (List Literal)
clauses_in A = (existentials_of A ++ constraints_of A) ++ only_if (closes_in A) (positives (all_in A) 1 ∷ [])

unfoldable pub body_text : Arrays → List ℕ
body_text A = prefix_lines A ++ clauses_text (clauses_in A)

-- The lines were put into s, t is what s is afterwards, and they have k clauses.
pub record Bodied (A : Arrays) (s t : Text) (k : ℕ) : Type 0 where
  pub text : Put s (body_text A) t
  pub count : k ≡ min largest (length (clauses_in A))
