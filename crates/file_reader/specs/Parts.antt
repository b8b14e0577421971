-- What the tests of a whole file hand out.
use Rattle.std.specs.Prelude.{ℕ, List}
use Rattle.file_layout.specs.Layout.{after_constraints}
use Rattle.file_records.specs.Tested.{VariablesOf, TernariesOf}
use Rattle.file_reader.specs.declared.parts.Parts.{Parts}

-- The parts are those of the file f.
pub record PartsOf (f : List ℕ) (p : Parts) : Type 0 where
  pub variables : VariablesOf f p.variables
  pub ternaries : TernariesOf f (after_constraints f) p.ternaries
