-- The clauses of a text from p on, by their numbers, and those of each last boolean as a chain. A clause is told by its number plus one,
-- none by 0. No line is read beyond `most` literals.
use Rattle.std.specs.Prelude.{ℕ, zero, suc, ◌%◌, cond, List, [], ◌∷◌, eqb, get_or, set}
use Rattle.formula.specs.Formula.{Literal}
use Rattle.formula.specs.Text.{literals_at, end_at}

-- The boolean of the last literal, or d.
unfoldable pub last_from : ℕ → List Literal → ℕ
last_from d [] = d
last_from d (l ∷ ls) = last_from l.boolean ls

-- The last of the first k clauses that ends with boolean v, where clause k ends with `last k`.
unfoldable pub before : (ℕ → ℕ) → ℕ → ℕ → ℕ
before last zero v = 0
before last (suc k) v = cond (eqb (last k) v) (suc k) (before last k v)

module _ (t : List ℕ) (most p : ℕ) where
  -- Where clause k begins, and its last boolean.
  unfoldable pub place_of : ℕ → ℕ
  place_of zero = p
  place_of (suc k) = end_at t most (place_of k)

  unfoldable pub last_of : ℕ → ℕ
  last_of k = last_from 0 (literals_at t most (place_of k)) % 513

  -- The three arrays after the first k clauses.
  unfoldable pub start_to : List ℕ → ℕ → List ℕ
  start_to l zero = l
  start_to l (suc k) = set (start_to l k) k (place_of k)

  unfoldable pub head_to : List ℕ → ℕ → List ℕ
  head_to l zero = l
  head_to l (suc k) = set (head_to l k) (last_of k) (suc k)

  unfoldable pub next_to : List ℕ → List ℕ → ℕ → List ℕ
  next_to l h zero = l
  next_to l h (suc k) = set (next_to l h k) k (get_or (head_to h k) (last_of k) 0)
