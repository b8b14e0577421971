-- The panel's session: the record that is lent to play, take-back, lock and unlock.
use Rattle.std.specs.Prelude.{List, [], ◌∷◌, ℕ}
use Rattle.game.specs.Calls.{Call, play, take_back, lock, unlock}
use Rattle.position.specs.declared.Position.{Position}
use Rattle.position.specs.Position.{shown}
use Rattle.session.specs.Told.{play_left, take_back_left, lock_left, unlock_left}

-- What a call leaves in the session, as the contracts of `kb_session_play` and the three beside it (`host`) say.
unfoldable pub session_step : List ℕ → Position → Call → Position
session_step f s (play a) = play_left f s a
session_step f s take_back = take_back_left f s
session_step f s lock = lock_left f s
session_step f s (unlock k) = unlock_left f s k

-- The session after calls, from s; from the fresh one.
unfoldable pub session_from : List ℕ → Position → List Call → Position
session_from f s [] = s
session_from f s (c ∷ cs) = session_from f (session_step f s c) cs

unfoldable pub session_after : List ℕ → List Call → Position
session_after f cs = session_from f (shown 0 []) cs
