use mathlib.Core.Path.{refl}
use Rattle.session.specs.Told.{told}
use Rattle.host_replies.specs.Replies.{moved_of}
use Rattle.host_replies.proofs.calls.moved_shown.Goals as goal

pub returns : goal.returns
unfolding told moved_of
returns c = rw (c.from.ensures, c.left.ensures) refl
