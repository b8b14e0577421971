-- What stands behind the first 18,763 bytes of an input changes no text.
use mathlib.Core.Path.{◌≡◌, sym}
use mathlib.Core.List.{List}
use Prim.Native.Nat.{ℕ, ◌<◌}
use lib.ListN.{get_or, take}
use Rattle.file_reader.proofs.Longest.{reply_tail}
use Rattle.report_text.specs.Text.{fault_text}
use Rattle.reporting.specs.Reporting.{report_of}
use Rattle.reporting.proofs.ReportLaws.{refused-text}

pub report_tail : (f : List ℕ) → ((k : ℕ) → get_or f k 0 < 256) → report_of (take 18763 f) ≡ report_of f
report_tail = reply_tail report_of fault_text (λ f e q. sym (refused-text f e q))
