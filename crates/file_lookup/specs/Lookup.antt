-- What a look-up of a pair tells and shows. A file's refusal comes first, with its place; then 11 for a pair that is not i < j < n.
use Rattle.std.specs.Prelude.{ℕ, zero, suc, ◌+◌, ◌*◌, ◌/◌, ◌%◌, cond, List, [], ◌∷◌, ◌++◌, eqb, Result, Ok, Err, Option, None, Some}
use Rattle.refusal.specs.declared.reason.Refusal.{Refusal}
use Rattle.refusal.specs.Chain.{Verdict}
use Rattle.refusal.specs.Told.{Told, replied, refused, refused_at, fault_told, refusal_told, told_by, listed}
use Rattle.file_layout.specs.Layout.{word, n_of, m_of, one_at, two_at, row_at, pair_at, constraints_at}
use Rattle.file_layout.specs.Numbers.{in_order, pair_of}
use Rattle.file_records.specs.Records.{verdict_of}
use Rattle.file_lookup.specs.Part.{part_at}

-- Each case of the answer in document 01's numbers.
abbrev pub told : Result (Option ℕ) Refusal → Told
told = told_by listed refusal_told

-- Where the rows of the pair with the number c stand, among the first k constraints from q: behind "the four-byte table head".
unfoldable pub place_to : List ℕ → ℕ → ℕ → ℕ → Told
place_to f q c zero = replied []
place_to f q c (suc k) = cond (eqb (pair_at f (q + 36 * k)) c) (replied ((q + 36 * k + 4) ∷ [])) (place_to f q c k)

-- In an accepted file.
unfoldable pub pair_place : List ℕ → ℕ → ℕ → Told
pair_place f i j = cond (in_order i j (n_of f)) (place_to f (constraints_at f) (pair_of i j) (m_of f)) (refused 11)

unfoldable pub look_for : Verdict → List ℕ → ℕ → ℕ → Told
look_for (Ok u) f i j = pair_place f i j
look_for (Err e) f i j = fault_told e

unfoldable pub look_up : List ℕ → ℕ → ℕ → Told
look_up f i j = look_for (verdict_of f) f i j

-- The 32 row bytes at p.
unfoldable pub rows_at : List ℕ → ℕ → List ℕ
rows_at f p = part_at f p 32

-- The part of the file that an answer shows.
unfoldable pub rows_of : Result (Option ℕ) Refusal → List ℕ → List ℕ
rows_of (Ok (Some p)) f = rows_at f p
rows_of (Ok None) f = []
rows_of (Err e) f = []

-- The first k rows as numbers, of their bytes.
unfoldable pub words_to : List ℕ → ℕ → List ℕ
words_to rows zero = []
words_to rows (suc a) = words_to rows a ++ (word rows (2 * a) ∷ [])

-- The numbers of a constraint as the writer is handed them: i, j, the rows.
unfoldable pub showing : Told → List ℕ → ℕ → ℕ → List ℕ
showing (replied []) f i j = []
showing (replied (p ∷ [])) f i j = i ∷ j ∷ words_to (rows_at f p) 16
showing (replied (p ∷ q ∷ ps)) f i j = []
showing (refused e) f i j = []
showing (refused_at e p) f i j = []

-- What the look-up shows of each pair (i, j), ascending, whose number 32 i + j is below c.
unfoldable pub shown_to : List ℕ → ℕ → List ℕ
shown_to f zero = []
shown_to f (suc c) = shown_to f c ++ showing (look_up f (c / 32) (c % 32)) f (c / 32) (c % 32)

-- What the look-up shows of all pairs of numbers below 32.
unfoldable pub constraints_shown : List ℕ → List ℕ
constraints_shown f = shown_to f 1024

-- The numbers of the constraint at p, and of the first k constraints of the file, by their places.
unfoldable pub rows_to : List ℕ → ℕ → ℕ → List ℕ
rows_to f p zero = []
rows_to f p (suc a) = rows_to f p a ++ (row_at f p a ∷ [])

unfoldable pub numbers_at : List ℕ → ℕ → List ℕ
numbers_at f p = one_at f p ∷ two_at f p ∷ rows_to f p 16

unfoldable pub numbers_to : List ℕ → ℕ → List ℕ
numbers_to f zero = []
numbers_to f (suc k) = numbers_to f k ++ numbers_at f (constraints_at f + 36 * k)
