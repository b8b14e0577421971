use Rattle.std.proofs.Common.{ap}
use Rattle.host_replies.specs.declared.calls.MovedPosition.{MovedPosition}
use Rattle.host_replies.specs.Replies.{moved_of}
use Rattle.host.proofs.kb_session_lock.Goals as goal

pub returns : goal.returns
unfolding moved_of
returns c =
    let e = c.kb_lock-moved.ensures in
    (ap (λ (m : MovedPosition). m.answer) e, ap (λ (m : MovedPosition). m.position) e)
