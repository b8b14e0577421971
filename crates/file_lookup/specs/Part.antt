-- "as a part of the caller's own file".
use Rattle.std.specs.Prelude.{ℕ, ◌+◌, cond, List, [], length, take, drop, leb}

-- The k bytes at p, of those that the file has; none where it has not so many.
unfoldable pub part : List ℕ → ℕ → ℕ → List ℕ
part f p k = take k (drop p f)

unfoldable pub part_at : List ℕ → ℕ → ℕ → List ℕ
part_at f p k = cond (leb (p + k) (length f)) (part f p k) []
