use mathlib.Core.Path.{refl, ap, ◌∙◌}
use Rattle.session.specs.Told.{left}
use Rattle.session.specs.History.{step}
use Rattle.history.specs.Replay.{as_call}
use Rattle.history.proofs.called.Goals as goal
use Rattle.history.proofs.called.Goals.{in-Play, in-TakeBack, in-Lock, in-Unlock}

pub returns : goal.returns
unfolding step as_call
returns c =
    c.left.ensures
    ∙ elim c.match-call.branch [
      | in-Play w ↦ ap (left _) w.reply-is ∙ w.play-reply.ensures.position_value ∙ rw w.in-Play.is refl
      | in-TakeBack w ↦ ap (left _) w.reply-is ∙ w.take_back-reply.ensures.position_value ∙ rw w.in-TakeBack.is refl
      | in-Lock w ↦ ap (left _) w.reply-is ∙ w.lock-reply.ensures.position_value ∙ rw w.in-Lock.is refl
      | in-Unlock w ↦ ap (left _) w.reply-is ∙ w.unlock-reply.ensures.position_value ∙ rw w.in-Unlock.is refl
    ]
