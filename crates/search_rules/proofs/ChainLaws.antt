-- Rulings one after another, on the words of a turn.
use mathlib.Core.Path.{◌≡◌, refl, sym, ap, ap₂, subst, ◌∙◌}
use mathlib.Core.Bool.{Bool, true, false, cond}
use mathlib.Core.List.{List}
use Prim.Native.Nat.{ℕ, ◌≤◌, ◌<◌}
use lib.ListN.{get_or, length}
use Rattle.mask.proofs.Logic.{true_holds}
use Rattle.game.specs.Reasons.{Step, Ruling, idle, chain, choose}
use Rattle.solver_arrays.specs.Words.{list_in, why_in, holding}
use Rattle.solver_arrays.proofs.WordLaws.{length-list_in, length-why_in, list_in-holding, why_in-holding, holding-own, holding_again}
use Rattle.search_rules.specs.RuledTurn.{Replied, ChecksTurn}
use Rattle.solver_arrays.specs.declared.arrays.Arrays.{Arrays}

pick_one : (b : Bool) (o q : Step) → b ≡ true → cond b o q ≡ o
pick_one true o q e = refl
pick_one false o q e = absurd (true_holds e)

pick_two : (b : Bool) (o q : Step) → b ≡ false → cond b o q ≡ q
pick_two true o q e = absurd (true_holds (sym e))
pick_two false o q e = refl

-- A loss ends the turn.
pub chain_lost : (r s : Ruling) (n : ℕ) (w v l R : List ℕ) (lost : Bool) (q : ℕ) → lost ≡ true → Replied n w v lost q (r l R) → Replied n w v lost q (chain r s l R)
unfolding chain
chain_lost r s n w v l R lost q e t = subst (Replied n w v lost q) (sym (pick_one (r l R).loss (r l R) (s (r l R).list (r l R).why) (sym t.loss ∙ e))) t

module _ (n : ℕ) (most : n ≤ 32) (w : List ℕ) (long : 96 ≤ length w) where
  -- Where nothing is lost, the next ruling goes on from the words that the first leaves.
  pub chain_on : (r s : Ruling) (u v : List ℕ) (lost lost' : Bool) (q q' : ℕ) → lost ≡ false
      → Replied n w u lost q (r (list_in n w) (why_in n w)) → Replied n u v lost' q' (s (list_in n u) (why_in n u))
      → Replied n w v lost' q' (chain r s (list_in n w) (why_in n w))
  unfolding chain
  chain_on r s u v lost lost' q q' e t z =
      subst (Replied n w v lost' q') (sym (pick_two o.loss o next (sym t.loss ∙ e))) (record {
        masks = y.masks;
        reasons = y.reasons;
        words = y.words ∙ ap (λ (u : List ℕ). holding n u next.list next.why) t.words ∙ holding_again n most w long o.list o.why next.list next.why;
        loss = y.loss;
        set = y.set;
      })
    where
      o : Step
      o = r (list_in n w) (why_in n w)

      next : Step
      next = s o.list o.why

      y : Replied n u v lost' q' next
      y = subst (Replied n u v lost' q') (ap₂ s
          (ap (list_in n) t.words ∙ list_in-holding n most w long o.list o.why t.masks)
          (ap (why_in n) t.words ∙ why_in-holding n most w long o.list o.why t.reasons)) z

  -- No ruling leaves the words as they are.
  pub idle_replies : ((k : ℕ) → get_or w k 0 < 65536) → (q : ℕ) → Replied n w w false q (idle (list_in n w) (why_in n w))
  unfolding idle
  idle_replies small q = record {
    masks = length-list_in n w;
    reasons = length-why_in n w;
    words = sym (holding-own n most w long small);
    loss = refl;
    set = λ e. absurd (true_holds e);
  }

-- A ruling where a test says so.
pub chosen : (b : Bool) (r : Ruling) (n : ℕ) (w v l R : List ℕ) (lost : Bool) (q : ℕ) → b ≡ true → Replied n w v lost q (r l R) → Replied n w v lost q (choose b r l R)
unfolding choose
chosen b r n w v l R lost q e t = subst (Replied n w v lost q) (sym (pick_one b (r l R) (idle l R) e)) t

pub left_out : (b : Bool) (r : Ruling) (n : ℕ) (w v l R : List ℕ) (lost : Bool) (q : ℕ) → b ≡ false → Replied n w v lost q (idle l R) → Replied n w v lost q (choose b r l R)
unfolding choose
left_out b r n w v l R lost q e t = subst (Replied n w v lost q) (sym (pick_two b (r l R) (idle l R) e)) t

-- Rule 2 is on.
pub checks_on : {n : ℕ} {A : Arrays} {on : Bool} {c d : ℕ} {w w' : List ℕ} {lost : Bool} {conflict narrowed : ℕ} → on ≡ true
    → ChecksTurn n A true c d w w' lost conflict narrowed → ChecksTurn n A on c d w w' lost conflict narrowed
checks_on e t = rw e t
