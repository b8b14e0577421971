-- Calls in bytes, computed at the ends of each part.
use mathlib.Core.Path.{◌≡◌, refl}
use Rattle.game.specs.Calls.{play, take_back, lock, unlock}
use Rattle.history.specs.Replay.{call_of}

bytes : (call_of 0 ≡ play 0) × (call_of 191 ≡ play 191) × (call_of 192 ≡ unlock 0) × (call_of 253 ≡ unlock 61) × (call_of 254 ≡ lock) × (call_of 255 ≡ take_back)
unfolding call_of
bytes = (refl, refl, refl, refl, refl, refl)
