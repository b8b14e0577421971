-- What writing a problem's file tells, and what it leaves in the buffer: "12 for a short buffer" is all that is left to refuse.
use Rattle.std.specs.Prelude.{◌≡◌, ℕ, List, length, Result, Option}
use Rattle.refusal.specs.declared.reason.Reason.{Reason}
use Rattle.buffer.specs.Fitting.{fit_told, fit_left}
use Rattle.file_writer.specs.Writing.{told}
use Rattle.game.specs.Problem.{Problem}
use Rattle.solver_arrays.specs.declared.arrays.Arrays.{Arrays}
use Rattle.solver_arrays.specs.Arrays.{Poses}
use Rattle.problem_numbers.specs.Numbers.{file_of}

-- Over the arrays: for the problem that they state, what is told by r and left of buf.
abbrev pub WritesProblem : Arrays → Option ℕ → List ℕ → List ℕ → Result ℕ Reason → Type 0
WritesProblem A rules buf buf' r =
    (P : Problem) → Poses P A → (told r ≡ fit_told (file_of P rules) (length buf)) × (buf' ≡ fit_left (file_of P rules) buf)
