use mathlib.Core.Path.{ap, ◌∙◌}
use Rattle.host_replies.specs.Replies.{judgement_of}
use Rattle.host.proofs.kb_judge_in.Goals as goal

pub returns : goal.returns
returns c = record { value = c.from.ensures ∙ ap judgement_of c.judge.ensures.result_value; room_after = c.judge.ensures.room_after }
