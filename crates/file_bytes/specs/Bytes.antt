-- The bytes of a problem, record by record: what the writer writes. A record's numbers are functions here, of a variable, of a
-- constraint, and of a row of a constraint; `bytes_of` takes them from what the writer is handed.
use Rattle.std.specs.Prelude.{◌≡◌, ℕ, zero, suc, ◌+◌, ◌*◌, ◌/◌, ◌%◌, ◌≤◌, Bool, true, false, cond, ◌&&◌, List, [], ◌∷◌, ◌++◌, length, get_or, leb, eqb, Option, None, Some}
use Rattle.mask.specs.Mask.{bit}
use Rattle.buffer.specs.Stored.{joined}
use Rattle.file_bytes.specs.declared.Numbers.{Numbers}
use Rattle.file_layout.specs.Layout.{QP, RS, VE, VA, CT, TT, EN}

unfoldable pub mark_bytes : List ℕ → List ℕ
mark_bytes mark = get_or mark 0 0 ∷ get_or mark 1 0 ∷ []

-- "Numbers of two bytes have the low byte first."
unfoldable pub word_bytes : ℕ → List ℕ
word_bytes w = w % 256 ∷ w / 256 ∷ []

-- `QP`: one byte n, two bytes m.
unfoldable pub qp_bytes : ℕ → ℕ → List ℕ
qp_bytes n m = mark_bytes QP ++ (n ∷ []) ++ word_bytes m

-- `RS`, where there is a rule set.
unfoldable pub rs_bytes : Option ℕ → List ℕ
rs_bytes None = []
rs_bytes (Some k) = mark_bytes RS ++ (k ∷ [])

unfoldable pub head_bytes : ℕ → ℕ → Option ℕ → List ℕ
head_bytes n m rules = qp_bytes n m ++ rs_bytes rules

-- `VA` or `VE`: two bytes, a mask of values.
unfoldable pub variable_mark : Bool → List ℕ
variable_mark true = VA
variable_mark false = VE

unfoldable pub variable_bytes : Bool → ℕ → List ℕ
variable_bytes universal domain = mark_bytes (variable_mark universal) ++ word_bytes domain

unfoldable pub variables_bytes : (ℕ → Bool) → (ℕ → ℕ) → ℕ → List ℕ
variables_bytes universal domain = joined (λ i. variable_bytes (universal i) (domain i))

-- `CT`: bytes i and j (the tests keep both below 32), then 16 rows of two bytes.
unfoldable pub pair_bytes : ℕ → ℕ → List ℕ
pair_bytes i j = i % 256 ∷ j % 256 ∷ []

unfoldable pub rows_bytes : (ℕ → ℕ) → ℕ → List ℕ
rows_bytes row = joined (λ a. word_bytes (row a))

unfoldable pub constraint_bytes : ℕ → ℕ → (ℕ → ℕ) → List ℕ
constraint_bytes i j row = (mark_bytes CT ++ pair_bytes i j) ++ rows_bytes row 16

unfoldable pub constraints_bytes : (ℕ → ℕ) → (ℕ → ℕ) → (ℕ → ℕ → ℕ) → ℕ → List ℕ
constraints_bytes one two row = joined (λ t. constraint_bytes (one t) (two t) (row t))

-- `TT`: the numbers x 0, x 1, .. (the tests keep all of them below 256), as many as `size`.
unfoldable pub ternary_bytes : (ℕ → ℕ) → ℕ → List ℕ
ternary_bytes x size = mark_bytes TT ++ joined (λ k. x k % 256 ∷ []) size

-- ---- the numbers that the writer is handed

-- n domains, 18 numbers a constraint (i, j, its rows), and the numbers of the records `TT` one behind another: "i, j, k, count and triples".
pub record Handed : Type 0 where
  pub n : ℕ
  pub m : ℕ
  pub rules : Option ℕ
  pub universal : ℕ
  pub domains : List ℕ
  pub constraints : List ℕ
  pub ternaries : List ℕ

abbrev pub handed : ℕ → ℕ → Option ℕ → ℕ → List ℕ → List ℕ → List ℕ → Handed
handed n m rules universal domains constraints ternaries =
    record { n = n; m = m; rules = rules; universal = universal; domains = domains; constraints = constraints; ternaries = ternaries }

-- The three lists beside the other four numbers.
abbrev pub handed_with : Numbers → List ℕ → List ℕ → List ℕ → Handed
handed_with x domains constraints ternaries = handed x.n x.m x.rules x.universal domains constraints ternaries

abbrev pub domain_in : List ℕ → ℕ → ℕ
domain_in domains i = get_or domains i 0

-- The number a places behind base.
abbrev pub from : List ℕ → ℕ → ℕ → ℕ
from xs base a = get_or xs (base + a) 0

abbrev pub one_in : List ℕ → ℕ → ℕ
one_in constraints t = get_or constraints (18 * t) 0

abbrev pub two_in : List ℕ → ℕ → ℕ
two_in constraints t = get_or constraints (18 * t + 1) 0

abbrev pub row_handed : List ℕ → ℕ → ℕ → ℕ
row_handed constraints t = from constraints (18 * t + 2)

-- How many numbers the record has that begins at p: "4 bytes and 3 more for each triple counted". Where record q begins.
unfoldable pub size_in : List ℕ → ℕ → ℕ
size_in xs p = 4 + 3 * from xs p 3

unfoldable pub start_in : List ℕ → ℕ → ℕ
start_in xs zero = 0
start_in xs (suc q) = start_in xs q + size_in xs (start_in xs q)

-- How many whole records stand in a row from p on; no more than k are counted. A list has no
-- more records than numbers, so with its length for k all are counted.
unfoldable pub whole_at : List ℕ → ℕ → Bool
whole_at xs p = leb (p + 4) (length xs) && leb (p + size_in xs p) (length xs)

unfoldable pub records_from : List ℕ → ℕ → ℕ → ℕ
records_from xs p zero = 0
records_from xs p (suc k) = cond (whole_at xs p) (suc (records_from xs (p + size_in xs p) k)) 0

unfoldable pub count_in : List ℕ → ℕ
count_in xs = records_from xs 0 (length xs)

-- The list holds whole records: "a list that stops within a record" is none such.
unfoldable pub whole_records : List ℕ → Bool
whole_records xs = eqb (start_in xs (count_in xs)) (length xs)

-- Lists as long as the counts say.
pub record Sized (h : Handed) : Type 0 where
  pub masks : h.n ≤ length h.domains
  pub rows : 18 * h.m ≤ length h.constraints
  pub whole : start_in h.ternaries (count_in h.ternaries) ≡ length h.ternaries

-- ---- the whole file

abbrev pub variables_in : Handed → List ℕ
variables_in h = variables_bytes (bit h.universal) (domain_in h.domains) h.n

abbrev pub constraints_in : Handed → List ℕ
constraints_in h = constraints_bytes (one_in h.constraints) (two_in h.constraints) (row_handed h.constraints) h.m

unfoldable pub ternary_in : List ℕ → ℕ → List ℕ
ternary_in xs q = ternary_bytes (from xs (start_in xs q)) (size_in xs (start_in xs q))

abbrev pub ternaries_in : Handed → List ℕ
ternaries_in h = joined (ternary_in h.ternaries) (count_in h.ternaries)

unfoldable pub bytes_of : Handed → List ℕ
bytes_of h = (((head_bytes h.n h.m h.rules ++ variables_in h) ++ constraints_in h) ++ ternaries_in h) ++ mark_bytes EN

-- Where the variables begin, and "The length is 7 + 4n + 36m, plus 3 with `RS`", and two more than its numbers for each record `TT`.
unfoldable pub start_of : Option ℕ → ℕ
start_of None = 5
start_of (Some k) = 8

unfoldable pub length_of : Handed → ℕ
length_of h = start_of h.rules + 4 * h.n + 36 * h.m + (length h.ternaries + 2 * count_in h.ternaries) + 2
