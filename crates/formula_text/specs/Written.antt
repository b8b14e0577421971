-- What measuring and writing reply, for the problem that the arrays state.
use Rattle.std.specs.Prelude.{ℕ, ◌≡◌, List, length}
use Rattle.buffer.specs.Stored.{stored}
use Rattle.game.specs.Problem.{Problem}
use Rattle.formula.specs.Encoding.{formula_of}
use Rattle.formula.specs.Text.{text_of}
use Rattle.solver_arrays.specs.declared.arrays.Arrays.{Arrays}
use Rattle.solver_arrays.specs.Arrays.{Poses}
use Rattle.formula_text.specs.declared.Size.{Size}

-- The text of a problem's formula.
abbrev pub text_for : Problem → List ℕ
text_for P = text_of (formula_of P)

-- r is how long the text is, and how many clauses it has.
abbrev pub Measures : Arrays → Size → Type 0
Measures A r = (P : Problem) → Poses P A → (r.length ≡ length (text_for P)) × (r.clauses ≡ length (formula_of P).clauses)

-- The text, with the right number of clauses, was put at the front of l; l' is the buffer afterwards.
abbrev pub Prints : Arrays → ℕ → List ℕ → List ℕ → Type 0
Prints A clauses l l' =
    (P : Problem) → Poses P A → clauses ≡ length (formula_of P).clauses → l' ≡ stored l 0 (text_for P)
