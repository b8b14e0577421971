-- The judging program's text in a caller's buffer: its length, or 12 where the buffer is shorter; the bytes behind it stay.
use Rattle.std.specs.Prelude.{ℕ, List}
use Rattle.refusal.specs.Told.{Told}
use Rattle.buffer.specs.Fitting.{fit_told, fit_left}
use Rattle.reporting.specs.Reporting.{report_of}

unfoldable pub text_told : List ℕ → ℕ → Told
text_told f room = fit_told (report_of f) room

unfoldable pub text_left : List ℕ → List ℕ → List ℕ
text_left f old = fit_left (report_of f) old
