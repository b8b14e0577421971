-- Where rule 1 leaves words without a loss, look ahead finds none on them.
use mathlib.Core.Path.{◌≡◌, sym, ap, ◌∙◌}
use mathlib.Core.Bool.{Bool, false}
use mathlib.Core.List.{List}
use Prim.Native.Nat.{ℕ, ◌≤◌, ◌<◌}
use native.Mathlib.Omega.{arith}
use lib.ListN.{length}
use Rattle.mask.proofs.Logic.{true_holds}
use Rattle.game.specs.Problem.{Problem}
use Rattle.game.specs.Lists.{domains}
use Rattle.game.specs.Arc.{arc_loss}
use Rattle.game.specs.LookAhead.{look_ahead}
use Rattle.game.specs.Reasons.{idle, explain_arc, explain_ahead}
use Rattle.theory.proofs.AheadIdle.{ahead-idle}
use Rattle.solver_arrays.specs.Words.{list_in, why_in}
use Rattle.solver_arrays.proofs.WordLaws.{list_in-holding}
use Rattle.search_rules.specs.RuledTurn.{Replied}

-- On the words that rule 1 left without a loss, rule 3 is no more than no rule.
module _ (P : Problem) (n : ℕ) (size : P.n ≡ n) (most : n ≤ 32) (u v : List ℕ) (long : 96 ≤ length u) (lost : Bool) (q : ℕ)
    (s : Replied n u v lost q (explain_arc P (list_in n u) (why_in n u))) (g : lost ≡ false) (d : ℕ) (h : d < n) where
  no_ahead : look_ahead P d (list_in n v) ≡ false
  unfolding explain_arc look_ahead
  no_ahead =
      let o = explain_arc P (list_in n u) (why_in n u) in
      ahead-idle P (domains (list_in n v)) d (omega arith)
      (ap (λ (l : List ℕ). arc_loss P (domains l)) (ap (list_in n) s.words ∙ list_in-holding n most u long o.list o.why s.masks) ∙ sym s.loss ∙ g)

  pub ahead_omitted : (z : Bool) (y : ℕ) → Replied n v v z y (idle (list_in n v) (why_in n v)) → Replied n v v z y (explain_ahead P d (list_in n v) (why_in n v))
  unfolding idle explain_ahead
  ahead_omitted z y r = record { masks = r.masks; reasons = r.reasons; words = r.words; loss = r.loss ∙ sym no_ahead; set = λ t. absurd (true_holds (sym r.loss ∙ t)) }
