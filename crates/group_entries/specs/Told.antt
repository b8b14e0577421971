-- What the two entries of card 4 tell of a file, and what the buffer holds afterwards.
use Rattle.std.specs.Prelude.{ℕ, ◌≡◌, List, [], ◌∷◌, ltb, length, replicate, Result, Ok, Err, Option}
use Rattle.refusal.specs.declared.reason.Reason.{Reason}
use Rattle.refusal.specs.declared.reason.Reason.TheVariants.{Variable}
use Rattle.refusal.specs.declared.reason.Fault.{Fault}
use Rattle.refusal.specs.declared.reason.Refusal.{Refusal}
use Rattle.refusal.specs.Chain.{Test, ◌then◌, need}
use Rattle.refusal.specs.Told.{Told, replied, reason_told, fault_told, refusal_told, told_by}
use Rattle.refusal.specs.Replied.{replied_for, list_for}
use Rattle.game.specs.Problem.{Problem}
use Rattle.game.specs.Lists.{list_of, spread}
use Rattle.buffer.specs.Stored.{stored}
use Rattle.solver_arrays.specs.declared.arrays.Arrays.{Arrays}
use Rattle.solver_arrays.specs.Arrays.{Poses}
use Rattle.file_reader.specs.Reading.{head_of}
use Rattle.file_decoder.specs.Read.{read_ordinary}
use Rattle.buffer.specs.Fitting.{fit_test}
use Rattle.group.specs.Groups.{group_of, groups}
use Rattle.group.specs.GroupProblem.{group_file}
use Rattle.group_labels.specs.declared.Groups.{Groups}

-- ---- the list: how many groups there are; the group of each variable, in 32 places, zero at n and above, n of the ordinary problem, and for a refused file

abbrev pub told_groups : Result Groups Fault → Told
told_groups = told_by (λ (r : Groups). r.count ∷ []) fault_told

abbrev pub groups_shown : Result Groups Fault → List ℕ
groups_shown (Ok r) = r.group
groups_shown (Err e) = replicate 32 0

unfoldable pub groups_told : List ℕ → Told
groups_told f = read_ordinary f fault_told (λ P. replied (groups P ∷ []))

unfoldable pub groups_listed : List ℕ → List ℕ
groups_listed f = read_ordinary f (λ e. replicate 32 0) (λ P. spread (list_of P.n (group_of P)))

-- ---- one group's file

abbrev pub length_values : ℕ → List ℕ
length_values k = k ∷ []

abbrev pub told : Result ℕ Refusal → Told
told = told_by length_values refusal_told

-- "11 for a group number that does not exist, 12 for a short buffer."
unfoldable pub group_test : Problem → Option ℕ → ℕ → ℕ → Test
group_test P rules g room = need (ltb g (groups P)) Variable then fit_test (group_file P rules g) room

unfoldable pub group_reply : Problem → Option ℕ → ℕ → ℕ → Told
group_reply P rules g room = replied_for (group_test P rules g room) (length (group_file P rules g) ∷ [])

unfoldable pub group_buffer : Problem → Option ℕ → ℕ → List ℕ → List ℕ
group_buffer P rules g buf = list_for (group_test P rules g (length buf)) (stored buf 0 (group_file P rules g)) buf

-- Over the arrays: for the problem that they state, what is told by r and left of buf.
abbrev pub WritesGroup : Arrays → Option ℕ → ℕ → List ℕ → List ℕ → Result ℕ Reason → Type 0
WritesGroup A rules g buf buf' r =
    (P : Problem) → Poses P A → (told_by length_values reason_told r ≡ group_reply P rules g (length buf)) × (buf' ≡ group_buffer P rules g buf)

-- Over a file f: "and the same `RS`".
unfoldable pub write_group_told : List ℕ → ℕ → ℕ → Told
write_group_told f g room = read_ordinary f fault_told (λ P. group_reply P (head_of f).rules g room)

unfoldable pub write_group_left : List ℕ → ℕ → List ℕ → List ℕ
write_group_left f g buf = read_ordinary f (λ e. buf) (λ P. group_buffer P (head_of f).rules g buf)
