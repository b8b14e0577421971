use mathlib.Core.Path.{refl, ap, ◌∙◌}
use Rattle.host_replies.specs.Replies.{judgement_of}
use Rattle.host.proofs.kb_judge.Goals as goal

pub returns : goal.returns
returns c = c.from.ensures ∙ ap judgement_of (c.judge.ensures.result_value ∙ rw c.unpacked-p.ensures refl)
