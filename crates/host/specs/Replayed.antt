-- What a replay replies: marking and the open values at the position that the calls reach.
use Rattle.std.specs.Prelude.{ℕ, List}
use Rattle.position.specs.declared.Position.{Position}
use Rattle.session.specs.Told.{open_told, masks_shown, counts_shown}
use Rattle.session.specs.History.{reached_by}
use Rattle.search_run.specs.Run.{held_room}
use Rattle.marking.specs.Marking.{mark_told}
use Rattle.history.specs.Replay.{calls_of}
use Rattle.host_replies.specs.declared.games.ReplayedCalls.{ReplayedCalls}
use Rattle.host_replies.specs.Replies.{marks_of, opened_of, replayed_of}

unfoldable pub replies_at : List ℕ → Position → ℕ → ReplayedCalls
replies_at f p set = replayed_of (marks_of (mark_told f p set held_room)) (opened_of (open_told f p) (masks_shown f p) (counts_shown f p))

unfoldable pub replay_of : List ℕ → List ℕ → ℕ → ReplayedCalls
replay_of f calls set = replies_at f (reached_by f (calls_of calls)) set
