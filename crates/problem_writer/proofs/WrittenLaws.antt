-- What the writer tells and leaves of the numbers of a problem that arrays state.
use mathlib.Core.Path.{◌≡◌, ap, ◌∙◌}
use mathlib.Core.Bool.{true}
use mathlib.Core.List.{List, [], ◌∷◌}
use Prim.Native.Nat.{ℕ, ◌≤◌, ◌<◌}
use native.Mathlib.Omega.{arith}
use lib.ListN.{length}
use Rattle.std.specs.Prelude.{Option, Result}
use Rattle.refusal.specs.declared.reason.Reason.{Reason}
use Rattle.refusal.specs.Replied.{replied_for, list_for}
use Rattle.buffer.specs.Stored.{stored}
use Rattle.buffer.specs.Fitting.{fit_test, fit_told, fit_left}
use Rattle.file_bytes.specs.Bytes.{Handed}
use Rattle.file_writer.specs.Tests.{rules_fit}
use Rattle.file_writer.specs.Writing.{told, write_told, write_buffer}
use Rattle.game.specs.Problem.{Problem}
use Rattle.problem_numbers.specs.Numbers.{numbers_of, file_of}
use Rattle.problem_theory.proofs.FileLaws.{write_only_room}
use Rattle.solver_arrays.specs.Arrays.{Poses}
use Rattle.solver_arrays.specs.declared.arrays.Arrays.{Arrays}

-- The writer refuses nothing but a short buffer.
pub posed_written : (P : Problem) (A : Arrays) → Poses P A → (rules : Option ℕ) → rules_fit rules ≡ true → (x : Handed) → x ≡ numbers_of P rules
    → (r : Result ℕ Reason) (buf buf' : List ℕ) → told r ≡ write_told x (length buf) → buf' ≡ write_buffer x buf
    → (told r ≡ fit_told (file_of P rules) (length buf)) × (buf' ≡ fit_left (file_of P rules) buf)
unfolding write_told write_buffer fit_told fit_left fit_test file_of
posed_written P A h rules low x e r buf buf' t b =
    let s : 0 < P.n = omega (arith, A.some, h.states.size) in
    let m : P.n ≤ 32 = omega (arith, A.most, h.states.size) in
    let w = write_only_room P s m rules low (length buf) in (
      t ∙ ap (λ y. write_told y (length buf)) e ∙ ap (λ y. replied_for y (length (file_of P rules) ∷ [])) w,
      b ∙ ap (λ y. write_buffer y buf) e ∙ ap (λ y. list_for y (stored buf 0 (file_of P rules)) buf) w,
    )
