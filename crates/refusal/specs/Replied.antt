-- What a call tells and leaves, by its tests: "its other refusals are a number alone"; "A refused call leaves position, list, room and
-- buffer with their old contents".
use Rattle.std.specs.Prelude.{ℕ, List, Result, Ok, Err}
use Rattle.refusal.specs.Chain.{Test}
use Rattle.refusal.specs.Told.{Told, replied, reason_told}

-- A reply behind its tests: this where they are fine, else their refusal.
unfoldable pub passed : {A E : Type 0} → Result (Unit {0}) E → A → Result A E
passed (Ok u) x = Ok x
passed (Err e) x = Err e

unfoldable pub replied_for : Test → List ℕ → Told
replied_for (Ok u) values = replied values
replied_for (Err e) values = reason_told e

unfoldable pub list_for : {E : Type 0} → Result (Unit {0}) E → List ℕ → List ℕ → List ℕ
list_for (Ok u) new old = new
list_for (Err e) new old = old
