-- A position: its domains, and the state of its first turn.
use mathlib.Core.Path.{◌≡◌}
use mathlib.Core.Bool.{cond}
use Prim.Native.Nat.{ℕ, ◌≤◌, ◌<◌}
use lib.Dec.{eqb, eqb→eq, eqb_refl, ltb}
use borrow.Author.Tests.{lt-ltb, le-ltb}
use Rattle.mask.proofs.Logic.{by_lt}
use Rattle.game.specs.Problem.{Problem}
use Rattle.game.specs.Game.{Domains, Play}
use Rattle.game.specs.Position.{placed}
use Rattle.theory.proofs.Transfer.{Inside}
use Rattle.theory.proofs.Laws.{Answers}
use Rattle.theory.proofs.Sound.{State}

-- The domains of a position: a played variable's, and another's.
pub placed_below : (F : Domains) (i : ℕ) (p : Play) (j : ℕ) → j < i → placed F i p j ≡ (λ b. eqb b (p j))
unfolding placed
placed_below F i p j h = rw (lt-ltb j i h)

pub placed-above : (F : Domains) (i : ℕ) (p : Play) (j : ℕ) → i ≤ j → placed F i p j ≡ F j
unfolding placed
placed-above F i p j h = rw (le-ltb j i h)

module _ (P : Problem) (F : Domains) (foe : Play) (foe_in : Answers P F foe) where
  open P use {n}

  module _ (i : ℕ) (p : Play) (li : i ≤ n) (ins : Inside F i p) where
    -- The played values, and the universal side's answers behind them: the state of the first turn.
    mix : Play
    mix j = cond (ltb j i) (p j) (foe j)

    pub placed_state : State P i p (placed F i p)
    unfolding mix
    placed_state = record {
      played = λ j l. rw (placed_below F i p j l) (((ins j l).0, eqb_refl (p j)), λ a m. eqb→eq a (p j) m.1);
      foe = mix;
      foe_in = λ j l s. by_lt j i (λ h. rw (placed_below F i p j h, lt-ltb j i h) ((ins j h).0, eqb_refl (p j)))
          (λ h. rw (placed-above F i p j h, le-ltb j i h) (foe_in j l s));
    }
