use mathlib.Core.Path.{sym, ap, ◌∙◌}
use native.Mathlib.Omega.{arith}
use Rattle.report_text.proofs.TextLaws.{fault_long}
use Rattle.file_reader.proofs.Accepted.{header_shows, header_refuses}
use Rattle.file_reader.specs.Reading.{told as toldHeader}
use Rattle.reporting.proofs.ReportLaws.{holds_as, accepted_holds, refused-text}
use Rattle.reporting.proofs.report_file.Goals as goal

pub render_refusal-requires : goal.render_refusal-requires
render_refusal-requires c = omega (arith, fault_long c.in-Err.fault (omega arith))

pub returns-in-Err : goal.returns-in-Err
returns-in-Err c =
    let q = header_refuses _ _ (ap toldHeader (sym c.in-Err.is) ∙ c.read.ensures.0) in
    let e = c.render_refusal.ensures in
    let p = holds_as _ _ (refused-text _ _ q) e.value e.out_after in
    record { upper_bound = omega (arith, fault_long c.in-Err.fault (omega arith), e.value); value = p.ends; out_after = p.bytes }

pub returns-in-Ok : goal.returns-in-Ok
returns-in-Ok c =
    let s = header_shows _ _ (ap toldHeader (sym c.in-Ok.is) ∙ c.read.ensures.0) in
    let e = c.report_accepted.ensures in
    let p = accepted_holds _ s e.reports_accepted in
    record { upper_bound = e.upper_bound; value = p.ends; out_after = p.bytes }
