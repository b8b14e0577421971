-- The list that a turn leaves in its words is the one that its rules reach, also in a loss and where all are played.
use mathlib.Core.Path.{◌≡◌, refl, sym, ap, ◌∙◌}
use mathlib.Core.Bool.{Bool, true, false}
use mathlib.Core.List.{List}
use Prim.Native.Nat.{ℕ, ◌≤◌, ◌<◌}
use native.Mathlib.Omega.{arith}
use lib.Dec.{T}
use lib.ListN.{length}
use Rattle.game.specs.Problem.{Problem}
use Rattle.game.specs.Game.{satisfied}
use Rattle.game.specs.Position.{play_of}
use Rattle.game.specs.Turn.{reached}
use Rattle.game.specs.Reasons.{explained}
use Rattle.game.specs.Search.{narrow_next}
use Rattle.theory.proofs.Theorems as theorems
use Rattle.solver_arrays.specs.Arrays.{States}
use Rattle.solver_arrays.specs.Words.{list_in, why_in}
use Rattle.solver_arrays.proofs.WordLaws.{list_in-holding}
use Rattle.search_rules.specs.RuledTurn.{Replied}
use Rattle.search_steps.specs.TurnReply.{TurnIn, Reaches}
use Rattle.search_steps.specs.TurnSteps.{Enters}
use Rattle.solver_arrays.specs.declared.arrays.Arrays.{Arrays}

-- The same of a test that says whether the rules found a loss.
pub reach_by : {P : Problem} {n S c : ℕ} {p w w' : List ℕ} (b lost : Bool) → b ≡ lost → Reaches P n S c p w w' lost → Reaches P n S c p w w' b
reach_by b lost e r = record { loss = e ∙ r.loss; list = r.list }

module _ (P : Problem) (n : ℕ) (A : Arrays) (st : States P n A) (S c d : ℕ) (p w w' : List ℕ) (t : TurnIn P n S c d p w) where
  same_loss : (explained P S c p (list_in n w) (why_in n w)).loss ≡ (reached P S c p (list_in n w)).loss
  same_loss = theorems.turn-loss P S t.plays t.legal-start c p (list_in n w) (why_in n w) t.turn

  -- A variable is left.
  pub enters_reach : (lost : Bool) (conflict left : ℕ) (narrowed : Bool) → d < n → Enters P n S c d p w w' lost conflict left narrowed → Reaches P n S c p w w' lost
  enters_reach lost conflict left narrowed h e = record { loss = e.loss ∙ same_loss; list = go lost refl }
    where
      go : (b : Bool) → lost ≡ b → list_in n w' ≡ (reached P S c p (list_in n w)).list
      go true z = e.lost_list z ∙ theorems.turn_lost_list P S t.plays t.legal-start c p (list_in n w) (why_in n w) t.turn (sym same_loss ∙ sym e.loss ∙ z)
      go false z =
          let k = t.count in
          let s = st.size in
          e.list z ∙ ap (λ i. (narrow_next P S i (explained P S c p (list_in n w) (why_in n w)).list).list) (sym k)
          ∙ theorems.turn_reaches P S t.plays t.legal-start c p (list_in n w) (why_in n w) t.turn (omega arith) (sym same_loss ∙ sym e.loss ∙ z)

  module _ (all : d ≡ n) where
    ended : length p ≡ P.n
    ended = let k = t.count in let s = st.size in omega arith

    -- All are played, and the rules ran.
    pub rules-reach : (lost : Bool) (conflict : ℕ) → 96 ≤ length w → Replied n w w' lost conflict (explained P S c p (list_in n w) (why_in n w)) → Reaches P n S c p w w' lost
    rules-reach lost conflict b r = record {
      loss = r.loss ∙ same_loss;
      list = ap (list_in n) r.words ∙ list_in-holding n st.most w b _ _ r.masks
          ∙ theorems.turn_end_list P S t.plays t.legal-start c p (list_in n w) (why_in n w) t.turn ended;
    }

    -- They need not where no constraint is broken.
    pub leaf-reach : T (satisfied P.compatible P.n (play_of p)) → list_in n w' ≡ list_in n w → Reaches P n S c p w w' false
    leaf-reach h e =
        let q = theorems.turn-leaf-list P S t.plays t.legal-start c p (list_in n w) (why_in n w) t.turn ended h in
        record { loss = sym q.0; list = e ∙ sym q.1 }
