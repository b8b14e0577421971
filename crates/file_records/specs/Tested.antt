-- What a test says that hands out what it has tested where it is fine.
use Rattle.std.specs.Prelude.{ℕ, ◌≡◌, List, Result, Ok, Err}
use Rattle.refusal.specs.declared.reason.Fault.{Fault}
use Rattle.refusal.specs.Chain.{Verdict, Fine}
use Rattle.file_layout.specs.declared.variables.Variables.{Variables}
use Rattle.file_records.specs.declared.ternaries.Ternaries.{Ternaries}
use Rattle.file_layout.specs.Layout.{n_of, variables_at, leading, ternary_at}

-- Its verdict.
abbrev pub tested : {A : Type 0} → Result A Fault → Verdict
tested (Ok v) = Fine
tested (Err e) = Err e

-- The variables are those of the file f.
pub record VariablesOf (f : List ℕ) (v : Variables) : Type 0 where
  pub file : v.file.now ≡ f
  pub start : v.start ≡ variables_at f
  pub count : v.n ≡ n_of f

-- These are the records in a row from q on.
pub record TernariesOf (f : List ℕ) (q : ℕ) (t : Ternaries) : Type 0 where
  pub count : t.count ≡ leading f q 33
  pub end : t.end ≡ ternary_at f q (leading f q 33)
