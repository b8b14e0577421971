-- The panel's session is the position of the call history, so demand 3 holds over it.
use mathlib.Core.Path.{◌≡◌, refl, sym, ap, subst, ◌∙◌}
use mathlib.Core.List.{List, [], ◌∷◌}
use Prim.Native.Nat.{ℕ}
use Rattle.refusal.specs.Chain.{Fine}
use Rattle.file_records.specs.Records.{verdict_of}
use Rattle.game.specs.Calls.{Call, play, take_back, lock, unlock}
use Rattle.position.specs.declared.Position.{Position}
use Rattle.session.specs.Told.{open_told}
use Rattle.session.specs.History.{step, reached_from, reached_by}
use Rattle.marking.specs.Marking.{mark_told}
use Rattle.history.specs.Replay.{Demand3}
use Rattle.history.specs.Sessions.{session_step, session_from, session_after}
use Rattle.history.proofs.Histories.{demand_3}

module _ (f : List ℕ) where
  -- What a call leaves in the session is the history's step.
  pub session_step_lem : (s : Position) (c : Call) → session_step f s c ≡ step f s c
  unfolding session_step step
  session_step_lem s (play a) = refl
  session_step_lem s take_back = refl
  session_step_lem s lock = refl
  session_step_lem s (unlock k) = refl

  from_same : (s : Position) (cs : List Call) → session_from f s cs ≡ reached_from f s cs
  unfolding session_from reached_from
  from_same s [] = refl
  from_same s (c ∷ cs) = ap (λ (q : Position). session_from f q cs) (session_step_lem s c) ∙ from_same (step f s c) cs

  pub session_reached : (cs : List Call) → session_after f cs ≡ reached_by f cs
  unfolding session_after reached_by
  session_reached cs = from_same _ cs

  pub demand_3_session : (fine : verdict_of f ≡ Fine) (calls : List Call) (set words : ℕ)
      → Demand3 f fine calls set words (session_after f calls) (mark_told f (session_after f calls) set words) (open_told f (session_after f calls))
  demand_3_session fine calls set words =
      subst (λ (p : Position). Demand3 f fine calls set words p (mark_told f p set words) (open_told f p)) (sym (session_reached calls)) (demand_3 f fine calls set words)
