-- What decoding leaves in the arrays, and what an entry is given by it.
use Rattle.std.specs.Prelude.{ℕ, ◌≡◌, Err, List}
use Rattle.solver_arrays.specs.declared.arrays.Arrays.{Arrays}
use Rattle.solver_arrays.specs.Arrays.{Poses}
use Rattle.refusal.specs.declared.reason.Fault.{Fault}
use Rattle.refusal.specs.Chain.{Verdict, Fine}
use Rattle.file_reader.specs.Reading.{n_of, verdict_of}
use Rattle.file_reader.specs.declared.Reading.{Reading}
use Rattle.file_decoder.specs.FileProblem.{problem_of}
use Rattle.file_decoder.specs.Tables.{near_start, index_start, rows_start}

-- An accepted file f and its arrays A, which state its problem of constraints of two variables.
pub record FileGiven (f : List ℕ) (A : Arrays) : Type 0 where
  pub fine : verdict_of f ≡ Fine
  pub size : A.own ≡ n_of f
  pub poses : Poses (problem_of f fine) A

-- The reply r of decoding f into the arrays A, which are B then: an accepted file is given, a refused one tells why and where, and leaves them.
pub record Decodes (f : List ℕ) (A : Arrays) (r : Verdict) (B : Arrays) : Type 0 where
  pub given : r ≡ Fine → FileGiven f B
  pub refused : (e : Fault) → r ≡ Err e → verdict_of f ≡ Err e
  pub kept : (e : Fault) → r ≡ Err e → B ≡ A

-- The arrays A have the variables of a reading, and no constraint is entered yet.
pub record Unconstrained (r : Reading) (A : Arrays) : Type 0 where
  pub own : A.own ≡ r.head.n
  pub n : A.n ≡ r.head.n
  pub universal : A.universal ≡ r.head.universal
  pub domains : A.domains ≡ r.domains
  pub near : A.near ≡ near_start
  pub index : A.index ≡ index_start
  pub rows : A.rows ≡ rows_start
