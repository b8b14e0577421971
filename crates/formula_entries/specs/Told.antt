-- What the two entries of card 1 tell of a file and a buffer, and what the buffer holds afterwards.
use Rattle.std.specs.Prelude.{ℕ, ◌≡◌, cond, List, [], ◌∷◌, leb, length, Result}
use Rattle.refusal.specs.declared.reason.Reason.{Reason}
use Rattle.refusal.specs.declared.reason.Reason.TheVariants.{Room}
use Rattle.refusal.specs.declared.reason.Refusal.{Refusal}
use Rattle.refusal.specs.Chain.{Test, need}
use Rattle.refusal.specs.Told.{Told, reason_told, fault_told, refusal_told, told_by}
use Rattle.refusal.specs.Replied.{replied_for, list_for}
use Rattle.game.specs.Problem.{Problem}
use Rattle.game.specs.Winning.{verdict}
use Rattle.buffer.specs.Stored.{stored}
use Rattle.solver_arrays.specs.declared.arrays.Arrays.{Arrays}
use Rattle.solver_arrays.specs.Arrays.{Poses}
use Rattle.file_decoder.specs.Read.{read_ordinary}
use Rattle.formula_text.specs.Written.{text_for}
use Rattle.formula_entries.specs.declared.JudgedFormula.{JudgedFormula}

-- The values of a finished answer: the length of the text; 1 for won and 0 for lost, then the length.
abbrev pub length_values : ℕ → List ℕ
length_values k = k ∷ []

abbrev pub judged_values : JudgedFormula → List ℕ
judged_values j = cond j.won 1 0 ∷ j.length ∷ []

-- Each answer in document 01's numbers.
abbrev pub told : Result ℕ Refusal → Told
told = told_by length_values refusal_told

abbrev pub told_judged : Result JudgedFormula Refusal → Told
told_judged = told_by judged_values refusal_told

-- "12 where the text does not fit": of a text of k bytes; of a problem's.
unfoldable pub text_test : ℕ → ℕ → Test
text_test k room = need (leb k room) Room

unfoldable pub formula_test : Problem → ℕ → Test
formula_test P room = text_test (length (text_for P)) room

-- Over a problem P. "Its verdict equals that of the published game"; "nothing written" on a refusal.
unfoldable pub formula_reply : Problem → ℕ → Told
formula_reply P room = replied_for (formula_test P room) (length (text_for P) ∷ [])

unfoldable pub judge_formula_reply : Problem → ℕ → Told
judge_formula_reply P room = replied_for (formula_test P room) (cond (verdict P []) 1 0 ∷ length (text_for P) ∷ [])

unfoldable pub formula_buffer : Problem → List ℕ → List ℕ
formula_buffer P buf = list_for (formula_test P (length buf)) (stored buf 0 (text_for P)) buf

-- Over the arrays: for the problem that they state, what is told by r and left of buf.
abbrev pub Writes : Arrays → List ℕ → List ℕ → Result ℕ Reason → Type 0
Writes A buf buf' r = (P : Problem) → Poses P A → (told_by length_values reason_told r ≡ formula_reply P (length buf)) × (buf' ≡ formula_buffer P buf)

-- Over a file f.
unfoldable pub formula_told : List ℕ → ℕ → Told
formula_told f room = read_ordinary f fault_told (λ P. formula_reply P room)

unfoldable pub judge_formula_told : List ℕ → ℕ → Told
judge_formula_told f room = read_ordinary f fault_told (λ P. judge_formula_reply P room)

unfoldable pub formula_left : List ℕ → List ℕ → List ℕ
formula_left f buf = read_ordinary f (λ e. buf) (λ P. formula_buffer P buf)
