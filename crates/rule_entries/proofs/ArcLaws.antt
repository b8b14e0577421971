-- Rule 1 on the words that a list is copied into: what it leaves there with reasons is, of a list that may be lent, rule 1's own list.
use mathlib.Core.Path.{◌≡◌, sym, ap, subst, ◌∙◌}
use mathlib.Core.Bool.{Bool}
use mathlib.Core.List.{List}
use Prim.Native.Nat.{ℕ}
use lib.Dec.{T}
use lib.ListN.{length}
use Rattle.game.specs.Problem.{Problem}
use Rattle.game.specs.Lists.{domains, may_lend}
use Rattle.game.specs.Arc.{arc, arc_loss}
use Rattle.game.specs.Reasons.{Sheet, revisions, explain_arc}
use Rattle.theory.proofs.Lists.{lent_out}
use Rattle.theory.proofs.OnLists.{lowest_of, answers, arc_masks}
use Rattle.theory.proofs.Revisions.{revisions-list, revisions_are, revisions-closed}
use Rattle.solver_arrays.specs.Arrays.{States}
use Rattle.solver_arrays.specs.Words.{list_in, why_in}
use Rattle.solver_arrays.proofs.WordLaws.{length-why_in, list_in-holding}
use Rattle.rule_arc.specs.ArcRule.{Arced}
use Rattle.rule_lend.specs.Lend.{words_for}
use Rattle.rule_lend.proofs.LendLaws.{words_hold, words_long}
use Rattle.solver_arrays.specs.declared.arrays.Arrays.{Arrays}

module _ (P : Problem) (l R : List ℕ) (t : T (may_lend P l)) (e : length R ≡ P.n) where
  explained-list : (explain_arc P l R).list ≡ (arc P l).list
  unfolding explain_arc
  explained-list =
      let s : Sheet = record { list = l; why = R } in
      let w = lent_out P l t in
      revisions-list P s (revisions P s) (lowest_of P l) (answers P l w) (record { masks = w.masks; sized = e })
      (revisions_are P s (record { masks = w.masks; sized = e }))
      (revisions-closed P s (record { masks = w.masks; sized = e }))

  explained-loss : (explain_arc P l R).loss ≡ (arc P l).loss
  unfolding explain_arc arc
  explained-loss = ap (λ (m : List ℕ). arc_loss P (domains m)) explained-list

module _ (P : Problem) (n : ℕ) (A : Arrays) (st : States P n A) where
  -- Rule 1 on the words of a list l, which afterwards is l'.
  pub arc_ends : (l w w' l' : List ℕ) (lost : Bool) (c : ℕ) → w ≡ words_for l → length l ≡ n → Arced P n w w' lost c → l' ≡ list_in (length l) w'
      → T (may_lend P l) → (lost ≡ (arc P l).loss) × (l' ≡ (arc P l).list)
  arc_ends l w w' l' lost c e h a b t =
      let s = words_hold n l w e h in
      let z : length (why_in n w) ≡ P.n = length-why_in n w ∙ sym st.size in
      let m : T (may_lend P (list_in n w)) = subst (λ (m : List ℕ). T (may_lend P m)) (sym s) t in
      let q = explained-list P (list_in n w) (why_in n w) m z in (
        a.loss ∙ explained-loss P (list_in n w) (why_in n w) m z ∙ ap (λ (m : List ℕ). (arc P m).loss) s,
        b ∙ ap (λ (k : ℕ). list_in k w') h ∙ ap (list_in n) a.words
            ∙ list_in-holding n st.most w (words_long n l w e h st.most) _ _ (ap length q ∙ (arc_masks P (list_in n w) (lent_out P (list_in n w) m).masks).size ∙ st.size)
            ∙ q ∙ ap (λ (m : List ℕ). (arc P m).list) s,
      )
