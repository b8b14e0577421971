-- Calls one after another, each on the position that the last one left; and what the plain list says of a call.
use Rattle.std.specs.Prelude.{ℕ, cond, List, [], ◌∷◌, ◌++◌, eqb, ltb, leb, length}
use Rattle.refusal.specs.Told.{Told, replied, refused}
use Rattle.game.specs.Problem.{Problem}
use Rattle.game.specs.Lists.{domains, spread}
use Rattle.game.specs.Calls.{Call, play, take_back, lock, unlock, PlainList}
use Rattle.game.specs.Open.{open_values, open_counts}
use Rattle.position.specs.declared.Position.{Position}
use Rattle.position.specs.Position.{shown}
use Rattle.session.specs.Told.{play_told, play_left, take_back_told, take_back_left, lock_told, lock_left, unlock_told, unlock_left}

module _ (f : List ℕ) where
  -- What a call tells, and the position that it returns, also where it is refused.
  unfoldable pub call_told : Position → Call → Told
  call_told p (play a) = play_told f p a
  call_told p take_back = take_back_told f p
  call_told p lock = lock_told f p
  call_told p (unlock k) = unlock_told f p k

  unfoldable pub step : Position → Call → Position
  step p (play a) = play_left f p a
  step p take_back = take_back_left f p
  step p lock = lock_left f p
  step p (unlock k) = unlock_left f p k

  -- The position that calls reach from p; from the fresh position.
  unfoldable pub reached_from : Position → List Call → Position
  reached_from p [] = p
  reached_from p (c ∷ cs) = reached_from (step p c) cs

  unfoldable pub reached_by : List Call → Position
  reached_by cs = reached_from (shown 0 []) cs

-- What a call tells by the plain list s alone: done, or the state's or the input's number.
unfoldable pub list_told : Problem → PlainList → Call → Told
list_told P s (play a) = let p = s.plays in cond (ltb (length p) P.n) (cond (domains P.domain (length p) a) (replied []) (refused 10)) (refused 20)
list_told P s take_back = cond (eqb (length s.plays) 0) (refused 21) (cond (eqb (length s.plays) s.depth) (refused 24) (replied []))
list_told P s lock = replied []
list_told P s (unlock k) = cond (leb k s.depth) (replied []) (refused 25)

-- What open values tell by the list's plays l alone: those of a problem in which these stand, and their counts.
unfoldable pub list_opened : Problem → List ℕ → Told
list_opened P l = replied (spread (open_values P l) ++ spread (open_counts P l))
