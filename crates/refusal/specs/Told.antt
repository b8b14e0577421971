-- What a call tells, in document 01's numbers. Each reply has a definition of its own into this type.
use Rattle.std.specs.Prelude.{ℕ, List, [], ◌∷◌, Result, Ok, Err, Option, None, Some}
use Rattle.refusal.specs.declared.reason.Reason.{Reason}
use Rattle.refusal.specs.declared.reason.Fault.{Fault}
use Rattle.refusal.specs.declared.reason.Refusal.{Refusal}
use Rattle.refusal.specs.declared.reason.Refusal.TheVariants.{InFile, InCall}
use Rattle.refusal.specs.Reason.{number_of}

pub data Told : Type 0 where
  -- a finished reply, with its values
  replied : List ℕ → Told
  -- a refusal by its number alone
  refused : ℕ → Told
  -- a file's refusal: its number and place
  refused_at : ℕ → ℕ → Told

-- What a refusal tells: "Reading tells the number and the place"; "its other refusals are a number alone".
abbrev pub reason_told : Reason → Told
reason_told e = refused (number_of e)

abbrev pub fault_told : Fault → Told
fault_told f = refused_at (number_of f.reason) f.place

abbrev pub refusal_told : Refusal → Told
refusal_told (InFile f) = fault_told f
refusal_told (InCall e) = reason_told e

-- What a reply tells, where `values` are those of a finished one and `told` is what its refusals tell.
abbrev pub told_by : {A E : Type 0} → (A → List ℕ) → (E → Told) → Result A E → Told
told_by values told (Ok x) = replied (values x)
told_by values told (Err e) = told e

-- A number or none, among the values of a reply.
abbrev pub listed : Option ℕ → List ℕ
listed None = []
listed (Some k) = k ∷ []

-- The refusals of a call behind its reading of the file.
abbrev pub in_call : {A : Type 0} → Result A Reason → Result A Refusal
in_call (Ok x) = Ok x
in_call (Err e) = Err (InCall e)
