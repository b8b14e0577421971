use Rattle.host_replies.proofs.ReplyLaws.{formula_judgement}
use Rattle.host_replies.proofs.formula_judgements.FormulaJudgementFromResultJudgedFormulaRefusal.from.Goals as goal

pub returns : goal.returns
returns c = rw c.from-a.ensures (formula_judgement c.args.answer _ c.unwrap_or_default-j.ensures)
