use mathlib.Core.Path.{◌∙◌, refl}
use Rattle.reporting.proofs.ReportLaws.{won-first}
use Rattle.reporting.proofs.opening.is_won.Goals as goal

pub returns : goal.returns
returns c = λ fine h. c.unwrap_or.ensures ∙ won-first _ fine _ _ _ c.fresh.ensures refl h _ c.judge.ensures.result_value
