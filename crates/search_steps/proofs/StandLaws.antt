-- What the words of a turn give its rules: some problem, plays in single masks, no variable without a value.
use mathlib.Core.Path.{◌≡◌, sym, ap, ap₂, subst, ◌∙◌}
use mathlib.Core.Bool.{true}
use mathlib.Core.List.{List}
use Prim.Native.Nat.{ℕ, ◌+◌, ◌-◌, ◌%◌, ◌≤◌, ◌<◌}
use native.Mathlib.Nat.{mod-eq_of_lt}
use native.Mathlib.Omega.{arith}
use lib.Dec.{T}
use lib.ListN.{get_or}
use Rattle.mask.specs.Range.{each}
use Rattle.mask.specs.Mask.{bit}
use Rattle.mask.proofs.Logic.{clash}
use Rattle.mask.proofs.Range.{each_out}
use Rattle.mask.proofs.Bits.{bit_of_zero}
use Rattle.game.specs.Problem.{Problem}
use Rattle.game.specs.Game.{satisfied}
use Rattle.game.specs.Lists.{domains}
use Rattle.game.specs.Position.{play_of}
use Rattle.game.specs.Search.{solved, search}
use Rattle.theory.proofs.Theorems as theorems
use Rattle.theory.proofs.Lists.{lent_out}
use Rattle.theory.proofs.Turns.{turn_at}
use Rattle.solver_arrays.specs.Arrays.{States}
use Rattle.solver_arrays.specs.Words.{list_in, why_in, leaf_in, Nonzero}
use Rattle.solver_arrays.proofs.WordLaws.{get_d_list_in, get_d_leaf_in}
use Rattle.rule_skip.specs.Skip.{LeafSmall, LeafHolds}
use Rattle.rule_skip.proofs.SkipLaws.{near_above}
use Rattle.search_rules.specs.RuledTurn.{Stated, Plays}
use Rattle.search_steps.specs.TurnReply.{TurnIn, Stands}
use Rattle.search_steps.proofs.LastLaws.{played}
use Rattle.solver_arrays.specs.declared.arrays.Arrays.{Arrays}

pub plays_in : (P : Problem) (n : ℕ) (A : Arrays) → States P n A → (S c d : ℕ) (p w : List ℕ)
    → ((k : ℕ) → get_or w k 0 < 65536) → TurnIn P n S c d p w → Plays c d p w
plays_in P n A st S c d p w small turn = record {
  count = turn.count;
  value = λ j _ h. (played P n S c d p w small st.size turn j h).0;
  word = λ j _ h. (played P n S c d p w small st.size turn j h).1;
}

module _ (n : ℕ) (A : Arrays) (S c d : ℕ) (w : List ℕ) (s : Stands n A S c d w) where
  pub stated : Stated n A
  stated = record { problem = s.problem; states = s.states }

  pub checked : c ≤ d
  checked =
      let t = s.turn in
      let a = (turn_at s.problem S t.plays t.legal-start c s.plays (list_in n w) (why_in n w) t.turn).checked in
      let e = t.count in omega arith

  pub nonzero : Nonzero n w
  unfolding domains
  nonzero j h z =
      let t = s.turn in
      let a = (theorems.turn-position s.problem S t.plays t.legal-start c s.plays (list_in n w) (why_in n w) t.turn).1 in
      let e = s.states.size in
      let f = (lent_out s.problem (list_in n w) a.may).full j (omega arith) in
      clash (bit_of_zero f.0) (subst (λ m. T (bit m f.0)) (get_d_list_in n w j h ∙ z) f.1.1)

-- The leaf that a turn hands up breaks no constraint, in whatever words it stands.
pub leaf_holds : (P : Problem) (n : ℕ) (A : Arrays) → States P n A → (S c d : ℕ) (p w : List ℕ) → TurnIn P n S c d p w
    → (q : List ℕ) → search P S c (n - d) p (list_in n w) (why_in n w) ≡ solved q
    → (r : List ℕ) → leaf_in n r ≡ q → LeafSmall n r → LeafHolds n A r
unfolding satisfied play_of
leaf_holds P n A st S c d p w turn q e r f small j h k t =
    let a = near_above P n A st j k h t in
    subst T (st.row j (value j) k (value k) h (omega arith) a.1 (omega arith)) (subst (λ x. T (P.compatible j x k (value k))) (is j h) (subst (λ x. T (P.compatible j (get_or q j 0) k x)) (is k a.1) (pair a.0 a.1)))
  where
    value : ℕ → ℕ
    value i = get_or r (96 + i) 0 % 16

    is : (i : ℕ) → i < n → get_or q i 0 ≡ value i
    is i l = ap (λ (l : List ℕ). get_or l i 0) (sym f) ∙ get_d_leaf_in n r i l ∙ sym (mod-eq_of_lt (small i l))

    all : T (satisfied P.compatible P.n (play_of q))
    all = (theorems.turn_hands_leaf P S turn.plays turn.legal-start c p (list_in n w) (why_in n w) turn.turn q
        (ap₂ (λ m i. search P S c (m - i) p (list_in n w) (why_in n w)) st.size turn.count ∙ e)).3

    pair : j < k → k < n → T (P.compatible j (get_or q j 0) k (get_or q k 0))
    pair l u =
        let z = st.size in
        each_out k (λ j. true) (λ j. P.compatible j (get_or q j 0) k (get_or q k 0))
        (each_out P.n (λ k. true) (λ k. each k (λ j. true) (λ j. P.compatible j (get_or q j 0) k (get_or q k 0))) all k (omega arith) tt) j l tt
