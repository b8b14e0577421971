use borrow.Author.Rules.{rules}
use mathlib.Core.Path.{◌≡◌, ap}
use mathlib.Core.Bool.{false≢true}
use Rattle.std.specs.Prelude.{Result, Ok, Err, Option, Some, None, is_some}
use Rattle.std.specs.Result.{result_ok}
use Rattle.trial_turns.proofs.along.ruled_along.Goals as goal

some_or : {A : Type 0} → A → Option A → A
some_or x (Some y) = y
some_or x None = x

-- A reply of which `ok` leaves this.
ok_of : {A E : Type 0} (r : Result A E) (a : A) → result_ok r ≡ Some a → r ≡ Ok a
unfolding some_or
ok_of (Ok x) a s = ap (λ o. Ok (some_or x o)) s
ok_of (Err e) a s = absurd (false≢true (ap is_some s))

pub ruled_in-requires : goal.ruled_in-requires
ruled_in-requires c = record { problem = _; states = (c.decode_ordinary.ensures.given (ok_of _ _ (search rules))).poses.states }
