-- Calls in bytes, one after another.
use mathlib.Core.Path.{◌≡◌, refl, ap, ◌∙◌}
use mathlib.Core.List.{List, [], ◌∷◌, ◌++◌}
use Prim.Native.Nat.{ℕ}
use Rattle.position.specs.declared.Position.{Position}
use Rattle.position.specs.Position.{shown}
use Rattle.session.specs.History.{step, reached_from, reached_by}
use Rattle.history.specs.Replay.{call_of, calls_of}

module _ (f : List ℕ) where
  -- One call more.
  pub one_more : (calls : List ℕ) (b : ℕ) (p : Position) → reached_from f p (calls_of (calls ++ (b ∷ []))) ≡ step f (reached_from f p (calls_of calls)) (call_of b)
  unfolding reached_from calls_of
  one_more [] b p = refl
  one_more (x ∷ calls) b p = one_more calls b (step f p (call_of x))

  -- From the fresh position.
  pub from-fresh : (calls : List ℕ) (p r : Position) → p ≡ shown 0 [] → r ≡ reached_from f p (calls_of calls) → r ≡ reached_by f (calls_of calls)
  unfolding reached_by
  from-fresh calls p r e q = q ∙ ap (λ (p : Position). reached_from f p (calls_of calls)) e
