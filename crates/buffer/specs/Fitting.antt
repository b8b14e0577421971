-- Bytes put at the front of a caller's buffer: their length is told, or 12 where the buffer is shorter; the bytes behind them stay.
use Rattle.std.specs.Prelude.{ℕ, List, [], ◌∷◌, leb, length}
use Rattle.refusal.specs.declared.reason.Reason.TheVariants.{Room}
use Rattle.refusal.specs.Chain.{Test, need}
use Rattle.refusal.specs.Told.{Told}
use Rattle.refusal.specs.Replied.{replied_for, list_for}
use Rattle.buffer.specs.Stored.{stored}

unfoldable pub fit_test : List ℕ → ℕ → Test
fit_test bytes room = need (leb (length bytes) room) Room

unfoldable pub fit_told : List ℕ → ℕ → Told
fit_told bytes room = replied_for (fit_test bytes room) (length bytes ∷ [])

unfoldable pub fit_left : List ℕ → List ℕ → List ℕ
fit_left bytes old = list_for (fit_test bytes (length old)) (stored old 0 bytes) old
