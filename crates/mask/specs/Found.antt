-- The place that a search finds.
use Rattle.std.specs.Prelude.{ℕ, cond, ltb, Option, Some, None}

-- The place k that a search below n finds: none where k is n.
unfoldable pub found : ℕ → ℕ → Option ℕ
found n k = cond (ltb k n) (Some k) None
