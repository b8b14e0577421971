use mathlib.Core.Path.{refl, ap}
use Rattle.marking.specs.declared.Marks.{Marks}
use Rattle.reporting.proofs.ReportLaws.{marks_first}
use Rattle.reporting.proofs.opening.first_marks.Goals as goal

pub returns : goal.returns
returns c = λ fine h. let e = marks_first _ fine _ _ _ c.fresh.ensures refl h _ _ c.unwrap_or_default.ensures c.mark.ensures.result_value in (ap (λ (r : Marks). r.winning) e, ap (λ (r : Marks). r.domain) e)
