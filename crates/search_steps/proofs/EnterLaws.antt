-- What the rules of a turn and the narrowing of its variable leave together.
use mathlib.Core.Path.{◌≡◌, refl, sym, ap, ap₂, subst, ◌∙◌}
use mathlib.Core.Bool.{Bool, true, false, not, ◌&&◌}
use mathlib.Core.List.{List}
use Prim.Native.Nat.{ℕ, ◌+◌, ◌*◌, ◌≤◌, ◌<◌}
use native.Mathlib.Omega.{arith}
use lib.Dec.{T, eqb}
use lib.ListN.{get_or, length, length-set, get_or-eq_default}
use borrow.Author.Tests.{le-ltb, le-leb}
use Rattle.mask.specs.Mask.{bit}
use Rattle.mask.proofs.Logic.{by_lt}
use Rattle.game.specs.Problem.{Problem}
use Rattle.game.specs.Rule.{uses}
use Rattle.game.specs.Reasons.{Step, explained}
use Rattle.game.specs.Search.{narrow_next, skippable, untried}
use Rattle.theory.proofs.Lists.{get_d_list_of}
use Rattle.theory.proofs.ValueLaws.{untried_none, untried_off, untried_used}
use Rattle.solver_arrays.specs.Arrays.{States}
use Rattle.solver_arrays.specs.Words.{list_in, why_in, leaf_in, word_of, holding}
use Rattle.solver_arrays.proofs.WordLaws.{get_d_list_in, length-list_in, length-why_in, length-holding, list_in-holding, why_in-holding}
use Rattle.rule_narrow.specs.Narrow.{NarrowsNext}
use Rattle.rule_skip.specs.Skip.{Skips}
use Rattle.search_rules.specs.RuledTurn.{Replied}
use Rattle.search_steps.specs.TurnSteps.{Enters, LeavesUntried}
use Rattle.solver_arrays.specs.declared.arrays.Arrays.{Arrays}

-- Words behind the reasons stay.
holding_behind : (n : ℕ) → n ≤ 32 → (w l R : List ℕ) (k : ℕ) → 96 ≤ k → get_or (holding n w l R) k 0 ≡ get_or w k 0
unfolding holding word_of
holding_behind n b w l R k h = by_lt k (length w)
    (λ u. get_d_list_of (length w) (word_of n w l R) k u ∙ rw (le-ltb k n (omega arith), le-leb 32 k (omega arith), le-ltb k (32 + 2 * n) (omega arith)))
    (λ u. let z = length-holding n w l R in get_or-eq_default (holding n w l R) 0 (omega arith) ∙ sym (get_or-eq_default w 0 u))

-- The words after the rules: as many, and the same behind the reasons.
module _ {n : ℕ} {w v : List ℕ} {lost : Bool} {q : ℕ} {o : Step} where
  pub replied_size : Replied n w v lost q o → length v ≡ length w
  replied_size R = ap length R.words ∙ length-holding n w o.list o.why

  pub replied_behind : n ≤ 32 → Replied n w v lost q o → (k : ℕ) → 96 ≤ k → get_or v k 0 ≡ get_or w k 0
  replied_behind m R k h = ap (λ x. get_or x k 0) R.words ∙ holding_behind n m w o.list o.why k h

module _ (P : Problem) (n : ℕ) (A : Arrays) (st : States P n A) (S c d : ℕ) (p w : List ℕ) (b : 96 ≤ length w) where
  -- The rules found a loss.
  pub enters_lost : (v : List ℕ) (lost : Bool) (q : ℕ) → Replied n w v lost q (explained P S c p (list_in n w) (why_in n w)) → lost ≡ true
      → (left : ℕ) (narrowed : Bool) → Enters P n S c d p w v true q left narrowed
  enters_lost v lost q R t left narrowed =
      record {
        size = replied_size R;
        kept = replied_behind st.most R;
        loss = sym t ∙ R.loss;
        set = λ _. R.set t;
        lost_list = λ _. ap (list_in n) R.words ∙ list_in-holding n st.most w b _ _ R.masks;
        list = λ f. absurd (no f);
        why = λ f. absurd (no f);
        tried = λ f. absurd (no f);
        change = λ f. absurd (no f);
      }
    where
      no : ◌≡◌ {A = Bool} true false → ⊥
      no z = subst (λ b. T b) z tt

  -- They found none, and the variable was narrowed from the words v to the words x.
  pub enters_on : (v x : List ℕ) (lost : Bool) (q : ℕ) → Replied n w v lost q (explained P S c p (list_in n w) (why_in n w)) → lost ≡ false → d < n
      → (four five : Bool) → four ≡ uses S 4 → five ≡ uses S 5 → NarrowsNext n A four five d v x
      → (before left : ℕ) (narrowed : Bool) → before ≡ get_or v d 0 → left ≡ get_or x d 0 → narrowed ≡ not (eqb left before) → (q' : ℕ)
      → Enters P n S c d p w x false q' left narrowed
  enters_on v x lost q R t h four five f g N before left narrowed eb el en q' =
      let s = N P S st (sym f) (sym g) in
      let o = explained P S c p (list_in n w) (why_in n w) in
      let held : list_in n v ≡ o.list = ap (list_in n) R.words ∙ list_in-holding n st.most w b o.list o.why R.masks in
      let whys : why_in n v ≡ o.why = ap (why_in n) R.words ∙ why_in-holding n st.most w b o.list o.why R.reasons in
      let long : length v ≡ length w = replied_size R in
      let list' : list_in n x ≡ (narrow_next P S d o.list).list = s.list ∙ ap (λ (l : List ℕ). (narrow_next P S d l).list) held in
      let lengths : length (narrow_next P S d (list_in n v)).list ≡ n = sym (ap length s.list) ∙ length-list_in n x in
      record {
        size = ap length s.words ∙ length-set v d _ ∙ long;
        kept = λ k u. ap (λ y. get_or y k 0) s.holds ∙ holding_behind n st.most v _ _ k u ∙ replied_behind st.most R k u;
        loss = sym t ∙ R.loss;
        set = λ u. absurd (subst (λ b. T (not b)) u tt);
        lost_list = λ u. absurd (subst (λ b. T (not b)) u tt);
        list = λ _. list';
        why = λ _. ap (why_in n) s.holds ∙ why_in-holding n st.most v (omega arith) _ (why_in n v) (length-why_in n v) ∙ whys;
        tried = λ _. el;
        change = λ _. en ∙ ap₂ (λ a b. not (eqb a b))
            (el ∙ sym (get_d_list_in n x d h) ∙ ap (λ (l : List ℕ). get_or l d 0) list')
            (eb ∙ sym (get_d_list_in n v d h) ∙ ap (λ (l : List ℕ). get_or l d 0) held);
      }

-- What is left to try where nothing is untried, with rule 7 and without.
module _ (n : ℕ) (A : Arrays) (S d left a : ℕ) (w : List ℕ) (m : ℕ) (q : m ≡ untried (bit 0) a left) where
  pub leaves_none : m ≡ 0 → LeavesUntried n A S d left a w 0
  leaves_none z = λ P st small. untried_none (λ b. uses S 7 && skippable P (list_in n w) d (leaf_in n w) b) a left m q z

  module _ (on : Bool) (o : on ≡ uses S 7) where
    pub leaves_used : on ≡ true → (s r : ℕ) → Skips n A d m w s → r ≡ untried (bit s) a left → LeavesUntried n A S d left a w r
    leaves_used t s r k e = λ P st small. e ∙ untried_used (uses S 7) (skippable P (list_in n w) d (leaf_in n w)) a left m s (sym o ∙ t) q (k P st small)

    pub leaves_off : on ≡ false → LeavesUntried n A S d left a w m
    leaves_off t = λ P st small. q ∙ untried_off (uses S 7) (skippable P (list_in n w) d (leaf_in n w)) a left 0 (sym o ∙ t) refl
