use mathlib.Core.Path.{ap, ◌∙◌}
use Rattle.host_replies.specs.Replies.{formula_judgement_of}
use Rattle.host.proofs.kb_judge_formula.Goals as goal

pub returns : goal.returns
returns c = record { value = c.from.ensures ∙ ap formula_judgement_of c.judge_formula.ensures.result_value; buf_after = c.judge_formula.ensures.buf_after }
