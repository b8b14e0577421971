-- What a look-up of a three-way constraint tells and shows: "a look-up by place, from 0, shows a record's body or says none".
use Rattle.std.specs.Prelude.{ℕ, zero, suc, ◌+◌, cond, List, [], ◌∷◌, ◌++◌, ltb, Result, Ok, Err, Option, None, Some}
use Rattle.refusal.specs.declared.reason.Fault.{Fault}
use Rattle.refusal.specs.Chain.{Verdict}
use Rattle.refusal.specs.Told.{Told, replied, refused, refused_at, fault_told, told_by}
use Rattle.file_layout.specs.Layout.{after_constraints, body_at, ternary_at, t_of}
use Rattle.file_records.specs.Records.{verdict_of}
use Rattle.file_lookup.specs.declared.ternary.Body.{Body}
use Rattle.file_lookup.specs.Part.{part_at}

-- Each case of the answer in document 01's numbers: none, or where the body begins and how long it is.
abbrev pub body_numbers : Option Body → List ℕ
body_numbers None = []
body_numbers (Some b) = b.place ∷ b.length ∷ []

abbrev pub told_body : Result (Option Body) Fault → Told
told_body = told_by body_numbers fault_told

-- The body of the record at p: it begins behind the mark.
unfoldable pub body_record : List ℕ → ℕ → Body
body_record f p = record { place = p + 2; length = body_at f p }

-- That of record k of those from q on.
unfoldable pub body_from : List ℕ → ℕ → ℕ → Body
body_from f q k = body_record f (ternary_at f q k)

-- In an accepted file.
unfoldable pub body_place : List ℕ → ℕ → Told
body_place f k = replied (body_numbers (cond (ltb k (t_of f)) (Some (body_from f (after_constraints f) k)) None))

unfoldable pub look_ternary : Verdict → List ℕ → ℕ → Told
look_ternary (Ok u) f k = body_place f k
look_ternary (Err e) f k = fault_told e

unfoldable pub look_up_ternary : List ℕ → ℕ → Told
look_up_ternary f k = look_ternary (verdict_of f) f k

-- The part of the file that an answer shows.
unfoldable pub body_of : Result (Option Body) Fault → List ℕ → List ℕ
body_of (Ok (Some b)) f = part_at f b.place b.length
body_of (Ok None) f = []
body_of (Err e) f = []

-- What is shown by what is told; and the bodies of the records 0, 1, .. one behind another, while there are such, at most k. They are the
-- numbers of the records as the writer is handed them.
unfoldable pub showing_body : Told → List ℕ → List ℕ
showing_body (replied []) f = []
showing_body (replied (p ∷ [])) f = []
showing_body (replied (p ∷ k ∷ [])) f = part_at f p k
showing_body (replied (p ∷ k ∷ x ∷ xs)) f = []
showing_body (refused e) f = []
showing_body (refused_at e p) f = []

unfoldable pub bodies_to : List ℕ → ℕ → List ℕ
bodies_to f zero = []
bodies_to f (suc k) = bodies_to f k ++ showing_body (look_up_ternary f k) f

-- "Choices and records together number at most 32": there are no more than 32.
unfoldable pub ternaries_shown : List ℕ → List ℕ
ternaries_shown f = bodies_to f 32
