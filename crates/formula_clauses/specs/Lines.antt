-- Clauses put into a buffer one behind another, and counted.
use Rattle.std.specs.Prelude.{◌+◌, min, ◌≡◌, List, length}
use Rattle.buffer.specs.Put.{largest, Put}
use Rattle.formula.specs.Formula.{Literal}
use Rattle.formula.specs.Text.{line_end, clauses_text}
use Rattle.formula_clauses.specs.declared.Clauses.{Clauses}

-- The clauses cs were put into s, and r is what s is afterwards.
pub record Lines (s : Clauses) (cs : List (List Literal)) (r : Clauses) : Type 0 where
  pub text : Put s.text.now (clauses_text cs) r.text.now
  pub same : r.text.ghost_name ≡ s.text.ghost_name
  pub count : r.count ≡ min largest (s.count + length cs)

-- A clause of s was ended and counted, and r is what s is afterwards.
pub record Ended (s r : Clauses) : Type 0 where
  pub text : Put s.text.now line_end r.text.now
  pub same : r.text.ghost_name ≡ s.text.ghost_name
  pub count : r.count ≡ min largest (s.count + 1)
