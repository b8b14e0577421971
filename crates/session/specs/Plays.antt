-- A play, a take-back, a lock and an unlock over n variables with these domains.
use Rattle.std.specs.Prelude.{ℕ, Result, List, not, eqb, ltb, leb, get_or}
use Rattle.mask.specs.Mask.{bit}
use Rattle.refusal.specs.declared.reason.Reason.{Reason}
use Rattle.refusal.specs.declared.reason.Reason.TheVariants.{Value, Full, Bare, Locked, Depth}
use Rattle.refusal.specs.Chain.{Test, ◌then◌, need}
use Rattle.refusal.specs.Replied.{passed}
use Rattle.position.specs.declared.Position.{Position}
use Rattle.position.specs.Position.{pushed, popped, held, fit_test}

module _ (n : ℕ) (masks : List ℕ) (p : Position) where
  -- "23 Misfit", before "20 to 22, then 11, 10"; "20 Full: a play when all choices are played"; "10 Option: an option not in the mask concerned", here the file's.
  unfoldable pub play_test : ℕ → Test
  play_test a = fit_test n masks p then need (ltb p.plays n) Full then need (bit (get_or masks p.plays 0) a) Value

  -- "21 Bare: a take-back when none is played"; card 6: "24 Locked, a take-back at the lock depth, tested after 21".
  unfoldable pub take_back_test : Test
  take_back_test = fit_test n masks p then need (ltb 0 p.plays) Bare then need (not (eqb p.plays p.depth)) Locked

  -- Card 6: "25 Depth, an unlock to a number above the present depth, tested after 23".
  unfoldable pub unlock_test : ℕ → Test
  unlock_test k = fit_test n masks p then need (leb k p.depth) Depth

  -- A play of a, which may be any number, and a take-back.
  unfoldable pub play_in : ℕ → Result Position Reason
  play_in a = passed (play_test a) (pushed p a)

  unfoldable pub take_back_in : Result Position Reason
  take_back_in = passed take_back_test (popped p)

  -- "Locking sets it to the number of plays, unlocking sets it to a given number": k, which may be any number too.
  unfoldable pub lock_in : Result Position Reason
  lock_in = passed (fit_test n masks p) (held p p.plays)

  unfoldable pub unlock_in : ℕ → Result Position Reason
  unlock_in k = passed (unlock_test k) (held p k)
