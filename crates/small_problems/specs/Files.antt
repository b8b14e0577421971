-- Problem files, laid out from their variables and constraints record by record. No rule set stands in them.
use Rattle.std.specs.Prelude.{ℕ, ◌*◌, ◌-◌, ◌/◌, ◌%◌, List, [], ◌∷◌, ◌++◌, length, replicate}

-- A variable with its domain: "a choice of the shift", "a choice of the day".
pub data Variable : Type 0 where
  existential : ℕ → Variable
  universal : ℕ → Variable

-- A constraint between i and j, with the rows of the first values of i; the others are zero.
pub data Constraint : Type 0 where
  between : ℕ → ℕ → List ℕ → Constraint

-- A constraint among i, j and k (document 02, card 7), with its triples of values one behind another.
pub data Ternary : Type 0 where
  among : ℕ → ℕ → ℕ → List ℕ → Ternary

-- "Numbers of two bytes have the low byte first."
unfoldable pub words : List ℕ → List ℕ
words [] = []
words (w ∷ ws) = w % 256 ∷ w / 256 ∷ words ws

-- `VE` and `VA`.
unfoldable pub variables : List Variable → List ℕ
variables [] = []
variables (existential m ∷ vs) = 86 ∷ 69 ∷ words (m ∷ []) ++ variables vs
variables (universal m ∷ vs) = 86 ∷ 65 ∷ words (m ∷ []) ++ variables vs

-- `CT`: i, j, "then 16 rows of two bytes".
unfoldable pub constraints : List Constraint → List ℕ
constraints [] = []
constraints (between i j rows ∷ cs) = 67 ∷ 84 ∷ i ∷ j ∷ words rows ++ replicate {A = ℕ} (32 - 2 * length rows) 0 ++ constraints cs

-- `TT`: i, j, k, the count, "and that many good triples of options".
unfoldable pub ternaries : List Ternary → List ℕ
ternaries [] = []
ternaries (among i j k triples ∷ ts) = 84 ∷ 84 ∷ i ∷ j ∷ k ∷ length triples / 3 ∷ triples ++ ternaries ts

-- `QP`, n, m; the variables; the constraints of two variables, and of three; `EN`.
unfoldable pub file_with : List Variable → List Constraint → List Ternary → List ℕ
file_with vs cs ts = 81 ∷ 80 ∷ length vs ∷ words (length cs ∷ []) ++ variables vs ++ constraints cs ++ ternaries ts ++ (69 ∷ 78 ∷ [])

abbrev pub file : List Variable → List Constraint → List ℕ
file vs cs = file_with vs cs []
