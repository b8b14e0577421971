-- Rules 2 and 3 on the words that a list is copied into.
use mathlib.Core.Path.{◌≡◌, refl, sym, ap, ◌∙◌}
use mathlib.Core.Bool.{Bool, true, false, cond}
use mathlib.Core.List.{List, [], ◌∷◌}
use Prim.Native.Nat.{ℕ}
use lib.Dec.{ltb}
use lib.ListN.{length}
use Rattle.std.specs.Prelude.{Option}
use Rattle.mask.specs.Mask.{mask_of}
use Rattle.game.specs.Problem.{Problem}
use Rattle.game.specs.Lists.{domains, masks_of}
use Rattle.game.specs.Forward.{forward, forward_domains, forward_named}
use Rattle.game.specs.LookAhead.{look_ahead, ahead_named}
use Rattle.game.specs.Reasons.{explain_forward}
use Rattle.theory.proofs.Lists.{length-list_of}
use Rattle.solver_arrays.specs.Arrays.{States}
use Rattle.solver_arrays.specs.Words.{list_in}
use Rattle.solver_arrays.proofs.WordLaws.{list_in-holding}
use Rattle.rule_forward.specs.Replies.{after_forward, ahead_value, ahead_variable}
use Rattle.rule_forward.proofs.RuleLaws.{loss_named_lem, ahead_named_lem}
use Rattle.rule_forward.specs.declared.steps.Ahead.{Ahead}
use Rattle.rule_entries.specs.Alone.{check_values, look_values, loss_named}
use Rattle.rule_lend.specs.Lend.{words_for}
use Rattle.rule_lend.proofs.LendLaws.{words_long, words_hold}
use borrow.Author.Tests.{lt-ltb, le-ltb}
use Rattle.mask.specs.Found.{found}
use Rattle.mask.proofs.Logic.{by_lt}
use Rattle.rule_forward.specs.OneValue.{ahead}
use Rattle.solver_arrays.specs.declared.arrays.Arrays.{Arrays}

-- At a loss look ahead's value and variable are those of the game.
ahead_names : (P : Problem) (n x : ℕ) (w : List ℕ)
    → loss_named (ltb (ahead_value P n x w) 16) (ahead_value P n x w ∷ ahead_variable P n x w ∷ [])
    ≡ loss_named (ltb (ahead_value P n x w) 16) (ahead_named P x (list_in n w) ∷ forward_named P x (ahead_named P x (list_in n w)) (list_in n w) ∷ [])
unfolding ahead_value ahead_variable loss_named
ahead_names P n x w = go (P.universal x) (ahead_named P x (list_in n w))
  where
    at : (c : Bool) (k : ℕ) → loss_named c (k ∷ cond c (forward_named P x k (list_in n w)) n ∷ []) ≡ loss_named c (k ∷ forward_named P x k (list_in n w) ∷ [])
    at true k = refl
    at false k = refl

    go : (c : Bool) (k : ℕ)
        → loss_named (ltb (cond c k 16) 16) (cond c k 16 ∷ cond (ltb (cond c k 16) 16) (forward_named P x (cond c k 16) (list_in n w)) n ∷ [])
        ≡ loss_named (ltb (cond c k 16) 16) (k ∷ forward_named P x k (list_in n w) ∷ [])
    go true k = at (ltb k 16) k
    go false k = refl

-- What is named where there is a loss.
check_named : (n j : ℕ) → check_values (found n j) ≡ loss_named (ltb j n) (j ∷ [])
unfolding loss_named found
check_named n j = by_lt j n (λ l. rw (lt-ltb j n l)) (λ l. rw (le-ltb j n l))

look_named : (value variable : ℕ) → look_values (ahead value variable) ≡ loss_named (ltb value 16) (value ∷ variable ∷ [])
unfolding loss_named ahead
look_named value variable = by_lt value 16 (λ l. rw (lt-ltb value 16 l)) (λ l. rw (le-ltb value 16 l))

module _ (P : Problem) (n : ℕ) (A : Arrays) (st : States P n A) (l w : List ℕ) (e : w ≡ words_for l) (h : length l ≡ n) where
  same : list_in n w ≡ l
  same = words_hold n l w e h

  -- The words hold the list that the forward check leaves.
  checked : (x a : ℕ) → list_in n (after_forward P n x a w) ≡ (forward P x a (list_in n w)).list
  unfolding after_forward explain_forward forward masks_of
  checked x a =
      list_in-holding n st.most w (words_long n l w e h st.most) _ _ (length-list_of P.n (λ i. mask_of 16 (forward_domains P (domains (list_in n w)) x a i)) ∙ st.size)

  pub forward_ends : (x a : ℕ) (r : Option ℕ) (w' l' : List ℕ) → (r ≡ found n (forward_named P x a (list_in n w))) × (w' ≡ after_forward P n x a w)
      → l' ≡ list_in (length l) w'
      → (check_values r ≡ loss_named (forward P x a l).loss (forward_named P x a l ∷ [])) × (l' ≡ (forward P x a l).list)
  unfolding forward
  forward_ends x a r w' l' o b = (
    ap check_values o.0 ∙ check_named n (forward_named P x a (list_in n w))
        ∙ ap (λ (m : ℕ). loss_named (ltb (forward_named P x a (list_in n w)) m) (forward_named P x a (list_in n w) ∷ [])) (sym st.size)
        ∙ ap (λ (c : Bool). loss_named c (forward_named P x a (list_in n w) ∷ [])) (sym (loss_named_lem P x a (list_in n w)))
        ∙ ap (λ (m : List ℕ). loss_named (forward P x a m).loss (forward_named P x a m ∷ [])) same,
    b ∙ ap (λ (k : ℕ). list_in k w') h ∙ ap (list_in n) o.1 ∙ checked x a ∙ ap (λ (m : List ℕ). (forward P x a m).list) same,
  )

  pub ahead_ends : (x : ℕ) (r : Option Ahead) → r ≡ ahead (ahead_value P n x w) (ahead_variable P n x w)
      → look_values r ≡ loss_named (look_ahead P x l) (ahead_named P x l ∷ forward_named P x (ahead_named P x l) l ∷ [])
  ahead_ends x r o =
      ap look_values o ∙ look_named (ahead_value P n x w) (ahead_variable P n x w)
      ∙ ahead_names P n x w
      ∙ ap (λ (c : Bool). loss_named c (ahead_named P x (list_in n w) ∷ forward_named P x (ahead_named P x (list_in n w)) (list_in n w) ∷ [])) (sym (ahead_named_lem P n x w))
      ∙ ap (λ (m : List ℕ). loss_named (look_ahead P x m) (ahead_named P x m ∷ forward_named P x (ahead_named P x m) m ∷ [])) same
