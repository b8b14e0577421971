-- Problems whose games are the same have the same verdict, from every position.
use mathlib.Core.Path.{◌≡◌, ap₂, ◌∙◌}
use mathlib.Core.List.{List}
use Prim.Native.Nat.{ℕ, zero, suc, ◌+◌, ◌<◌}
use native.Mathlib.Omega.{arith}
use lib.Dec.{T}
use Rattle.mask.proofs.Logic.{same}
use Rattle.game.specs.Problem.{Problem}
use Rattle.game.specs.Game.{Domains, Play, put, won, wins, satisfied}
use Rattle.game.specs.Lists.{domains, wins_over}
use Rattle.game.specs.Position.{legal, narrowed, position}
use Rattle.game.specs.Turn.{first_list}
use Rattle.game.specs.Winning.{verdict}
use Rattle.theory.specs.SameGame.{SameGame}
use Rattle.theory.proofs.Moves.{satisfied_out, satisfied_in}
use Rattle.theory.proofs.Transfer.{Inside, inside_put, inside_none, turn_cong}
use Rattle.theory.proofs.TurnLists.{at_lent, first-list}

module _ (P Q : Problem) (g : SameGame P Q) where
  open P use {n, universal, compatible}

  -- Plays within the domains are satisfied alike.
  leaf : (p : Play) → Inside (domains P.domain) n p → satisfied compatible n p ≡ satisfied Q.compatible n p
  leaf p h =
      let at : (i j : ℕ) → i < n → j < i → compatible j (p j) i (p i) ≡ Q.compatible j (p j) i (p i) =
      λ i j l m. g.compatible j (p j) i (p i) m l (h j (omega arith)).1 (h i l).1 in
      same (satisfied compatible n p) (satisfied Q.compatible n p)
      (λ t. satisfied_in Q.compatible n p λ i j l m. rw (← (at i j l m)) (satisfied_out compatible n p t i j l m))
      (λ t. satisfied_in compatible n p λ i j l m. rw (at i j l m) (satisfied_out Q.compatible n p t i j l m))

  -- The games over domains within those of P.
  module _ (D : Domains) (within : (j a : ℕ) → T (D j a) → T (domains P.domain j a)) where
    games : (k i : ℕ) (p : Play) → k + i ≡ n → Inside (domains P.domain) i p
        → won universal (satisfied compatible n) D k i p ≡ won Q.universal (satisfied Q.compatible n) D k i p
    unfolding won
    games zero i p e h = let e' : i ≡ n = omega arith in leaf p (rw e' at h)
    games (suc k) i p e h =
        rw (← (g.side i (omega arith)))
        (turn_cong (universal i) (D i) (λ a. won universal (satisfied compatible n) D k (suc i) (put p i a)) (λ a. won Q.universal (satisfied Q.compatible n) D k (suc i) (put p i a))
        λ a m. games k (suc i) (put p i a) (omega arith) (inside_put (domains P.domain) i p a h (m.0, within i a m.1)))

  -- The position lies within the domains of P.
  position_within : (p : List ℕ) → T (legal P p) → (j a : ℕ) → T (domains (position P p) j a) → T (domains P.domain j a)
  unfolding first_list
  position_within p t = (at_lent P p (position P p) (first-list P p t)).within

  -- The verdicts.
  pub same_verdict : (p : List ℕ) → T (legal P p) → verdict P p ≡ verdict Q p
  unfolding verdict wins_over wins position
  same_verdict p t =
      games (domains (position P p)) (position_within p t) n 0 (λ j. 0) (omega arith) (inside_none (domains P.domain) (λ j. 0))
      ∙ ap₂ (λ (k : ℕ) (l : List ℕ). wins k Q.universal Q.compatible (domains (narrowed l p))) g.size g.domain
