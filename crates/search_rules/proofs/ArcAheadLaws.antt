-- Rule 1 and rule 3 as rulings on the words of a turn.
use mathlib.Core.Path.{◌≡◌, refl, sym, ap, subst, ◌∙◌}
use mathlib.Core.Bool.{Bool, true, false, cond, ◌&&◌}
use mathlib.Core.List.{List}
use Prim.Native.Nat.{ℕ, ◌≤◌, ◌<◌}
use native.Mathlib.Omega.{arith}
use lib.Dec.{T}
use lib.ListN.{get_or, length}
use borrow.Author.Tests.{eq-eqb, lt-ltb, le-ltb, ltb-true}
use Rattle.mask.proofs.Logic.{holds, true_holds, clash, test, and_out}
use Rattle.mask.proofs.Range.{first_of}
use Rattle.mask.proofs.Masks.{empty-some}
use Rattle.game.specs.Problem.{Problem}
use Rattle.game.specs.Lists.{domains}
use Rattle.game.specs.Support.{empty}
use Rattle.game.specs.Arc.{arc_loss}
use Rattle.game.specs.Forward.{forward_loss, forward_named}
use Rattle.game.specs.LookAhead.{ahead_named}
use Rattle.game.specs.Reasons.{revisions, explain_arc, explain_ahead}
use Rattle.theory.proofs.AheadIdle.{empty_loses}
use Rattle.solver_arrays.specs.Arrays.{States}
use Rattle.solver_arrays.specs.Words.{list_in, why_in, Nonzero}
use Rattle.solver_arrays.proofs.WordLaws.{length-list_in, length-why_in, get_d_list_in, holding-domain, holding-own}
use Rattle.rule_arc_passes.proofs.Waiting.{Sized, revisions_sized, revisions-keep}
use Rattle.rule_arc_passes.proofs.Sheets.{sheet_in, sheet_sized}
use Rattle.rule_arc.specs.ArcRule.{Arced}
use Rattle.rule_forward.specs.Replies.{ahead_value, ahead_variable, conflict_in}
use Rattle.rule_forward.proofs.RuleLaws.{loss_named_lem, ahead_named_lem, conflict-before}
use Rattle.search_rules.specs.RuledTurn.{Replied}
use Rattle.solver_arrays.specs.declared.arrays.Arrays.{Arrays}

-- An emptied existential domain is a loss of rule 1.
emptied_loses : (P : Problem) (l : List ℕ) (j : ℕ) → j < P.n → P.universal j ≡ false → get_or l j 0 ≡ 0 → T (arc_loss P (domains l))
unfolding empty domains
emptied_loses P l j h u e = empty_loses P (domains l) j h u (true_holds (sym (empty-some 16 (get_or l j 0) (omega arith)) ∙ eq-eqb (get_or l j 0) 0 e))

module _ (P : Problem) (n : ℕ) (A : Arrays) (st : States P n A) (w : List ℕ) (long : 96 ≤ length w) where
  -- The code of rule 1.
  pub arc_replies : ((k : ℕ) → get_or w k 0 < 65536) → (v : List ℕ) (lost : Bool) (q : ℕ) → Arced P n w v lost q → Replied n w v lost q (explain_arc P (list_in n w) (why_in n w))
  unfolding explain_arc
  arc_replies small v lost q t = record { masks = sizes.0; reasons = sizes.1; words = t.words; loss = t.loss; set = t.set }
    where
      sized : Sized P (revisions P (sheet_in P.n w))
      sized = revisions_sized P (sheet_in P.n w) (sheet_sized P w small)

      sizes : (length (explain_arc P (list_in n w) (why_in n w)).list ≡ n) × (length (explain_arc P (list_in n w) (why_in n w)).why ≡ n)
      sizes = subst (λ (n : ℕ). (length (explain_arc P (list_in n w) (why_in n w)).list ≡ n) × (length (explain_arc P (list_in n w) (why_in n w)).why ≡ n)) st.size (sized.masks, sized.reasons)

  pub arc_lasts : (v : List ℕ) (lost : Bool) (q : ℕ) → Arced P n w v lost q → lost ≡ false → Nonzero n w → Nonzero n v
  unfolding explain_arc
  arc_lasts v lost q t e z j h m =
      let l = (explain_arc P (list_in n w) (why_in n w)).list in
      let k : get_or l j 0 ≡ 0 = sym (ap (λ (u : List ℕ). get_or u j 0) t.words ∙ holding-domain n st.most w long _ _ j h) ∙ m in
      test (P.universal j)
      (λ u. z j h (sym (revisions-keep P j (holds u) (sheet_in n w) ∙ get_d_list_in n w j h) ∙ k))
      (λ u. clash {b = arc_loss P (domains l)} (sym t.loss ∙ e) (emptied_loses P l j (rw st.size h) u k))

  -- The code of rule 3 at i.
  module _ (i : ℕ) (hi : i < n) (value variable : ℕ) (e : value ≡ ahead_value P n i w) (f : variable ≡ ahead_variable P n i w) where
    module _ (h : value < 16) where
      value_named : ahead_value P n i w ≡ ahead_named P i (list_in n w)
      unfolding ahead_value
      value_named = go (P.universal i) (ahead_named P i (list_in n w)) (rw e at h)
        where
          go : (u : Bool) (k : ℕ) → cond u k 16 < 16 → cond u k 16 ≡ k
          go true k h = refl
          go false k h = absurd (omega arith)

      named_lt : ahead_named P i (list_in n w) < 16
      named_lt = let g = value_named in omega arith

      variable_named : variable ≡ forward_named P i (ahead_named P i (list_in n w)) (list_in n w)
      unfolding ahead_variable
      variable_named = f ∙ rw (value_named, lt-ltb (ahead_named P i (list_in n w)) 16 named_lt)

      names_loss : (a : ℕ) → a ≡ ahead_named P i (list_in n w) → T (forward_loss P (domains (list_in n w)) i a)
      unfolding ahead_named
      names_loss a g = subst (λ (a : ℕ). T (forward_loss P (domains (list_in n w)) i a)) (sym g)
          (and_out (domains (list_in n w) i (ahead_named P i (list_in n w))) (forward_loss P (domains (list_in n w)) i (ahead_named P i (list_in n w)))
          (first_of 16 (λ a. domains (list_in n w) i a && forward_loss P (domains (list_in n w)) i a) named_lt)).1

      pub variable_lt : variable < n
      variable_lt =
          let a = ahead_named P i (list_in n w) in
          let t = ltb-true (forward_named P i a (list_in n w)) P.n (sym (loss_named_lem P i a (list_in n w)) ∙ holds (names_loss a refl)) in
          let g = variable_named in
          let s = st.size in
          omega arith

      pub ahead_lost : ((k : ℕ) → get_or w k 0 < 65536) → (q : ℕ) → q ≡ conflict_in P i variable w → Replied n w w true q (explain_ahead P i (list_in n w) (why_in n w))
      unfolding explain_ahead
      ahead_lost small q g = record {
        masks = length-list_in n w;
        reasons = length-why_in n w;
        words = sym (holding-own n st.most w long small);
        loss = sym (ahead_named_lem P n i w ∙ lt-ltb (ahead_value P n i w) 16 (rw (sym e) h));
        set = λ _. g ∙ conflict-before P n st.size st.most i (ahead_named P i (list_in n w)) hi w variable variable_named variable_lt;
      }

    pub ahead_kept : 16 ≤ value → ((k : ℕ) → get_or w k 0 < 65536) → (q : ℕ) → Replied n w w false q (explain_ahead P i (list_in n w) (why_in n w))
    unfolding explain_ahead
    ahead_kept h small q = record {
      masks = length-list_in n w;
      reasons = length-why_in n w;
      words = sym (holding-own n st.most w long small);
      loss = sym (ahead_named_lem P n i w ∙ le-ltb (ahead_value P n i w) 16 (rw (sym e) h));
      set = λ t. absurd (true_holds t);
    }
