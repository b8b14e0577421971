-- What decoding a file with its three-way constraints leaves in the arrays, and what an entry is given by it.
use Rattle.std.specs.Prelude.{ℕ, ◌≡◌, Err, List, take}
use Rattle.solver_arrays.specs.declared.arrays.Arrays.{Arrays}
use Rattle.solver_arrays.specs.Arrays.{Poses}
use Rattle.refusal.specs.declared.reason.Fault.{Fault}
use Rattle.refusal.specs.Chain.{Verdict, Fine}
use Rattle.file_reader.specs.Reading.{n_of, verdict_of}
use Rattle.file_decoder.specs.FileProblem.{problem_of, ordinary_of}

-- An accepted file f and its arrays A, which state its ordinary problem; the file's own variables, with its domains, are to play.
pub record OrdinaryGiven (f : List ℕ) (A : Arrays) : Type 0 where
  pub fine : verdict_of f ≡ Fine
  pub size : A.own ≡ n_of f
  pub poses : Poses (ordinary_of f fine) A
  pub domain : (problem_of f fine).domain ≡ take A.own A.domains

-- The reply r of decoding f into the arrays A, which are B then: an accepted file is given, a refused one tells why and where, and leaves them.
pub record DecodesOrdinary (f : List ℕ) (A : Arrays) (r : Verdict) (B : Arrays) : Type 0 where
  pub given : r ≡ Fine → OrdinaryGiven f B
  pub refused : (e : Fault) → r ≡ Err e → verdict_of f ≡ Err e
  pub kept : (e : Fault) → r ≡ Err e → B ≡ A
