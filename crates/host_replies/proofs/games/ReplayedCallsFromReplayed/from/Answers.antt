use mathlib.Core.Path.{refl}
use Rattle.host_replies.specs.Replies.{replayed_of}
use Rattle.host_replies.proofs.games.ReplayedCallsFromReplayed.from.Goals as goal

pub returns : goal.returns
unfolding replayed_of
returns c = rw (c.from.ensures, c.from-2.ensures) refl
