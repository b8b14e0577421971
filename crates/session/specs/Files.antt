-- The session's calls over a file. "Every call with a file reads it first": an accepted file goes on to its problem, a refused one hands on
-- its fault.
use Rattle.std.specs.Prelude.{ℕ, Result, Err, List}
use Rattle.refusal.specs.declared.reason.Reason.{Reason}
use Rattle.refusal.specs.declared.reason.Refusal.{Refusal}
use Rattle.refusal.specs.declared.reason.Refusal.TheVariants.{InFile}
use Rattle.refusal.specs.Told.{in_call}
use Rattle.game.specs.Problem.{Problem}
use Rattle.file_decoder.specs.Read.{read_first}
use Rattle.position.specs.declared.Position.{Position}
use Rattle.session.specs.declared.Opened.{Opened}
use Rattle.session.specs.Plays.{play_in, take_back_in, lock_in, unlock_in}
use Rattle.session.specs.Opening.{open_in}

unfoldable pub file_first : {A : Type 0} → List ℕ → (Problem → Result A Reason) → Result A Refusal
file_first f call = read_first f (λ e. Err (InFile e)) (λ P. in_call (call P))

unfoldable pub play_file : List ℕ → Position → ℕ → Result Position Refusal
play_file f p a = file_first f (λ P. play_in P.n P.domain p a)

unfoldable pub take_back_file : List ℕ → Position → Result Position Refusal
take_back_file f p = file_first f (λ P. take_back_in P.n P.domain p)

unfoldable pub lock_file : List ℕ → Position → Result Position Refusal
lock_file f p = file_first f (λ P. lock_in P.n P.domain p)

unfoldable pub unlock_file : List ℕ → Position → ℕ → Result Position Refusal
unlock_file f p k = file_first f (λ P. unlock_in P.n P.domain p k)

unfoldable pub open_file : List ℕ → Position → Result Opened Refusal
open_file f p = file_first f (λ P. open_in P p)
