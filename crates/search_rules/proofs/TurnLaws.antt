-- The rules of a turn by the rule set, one after another.
use mathlib.Core.Path.{◌≡◌, sym, ap, ap₂, subst, ◌∙◌}
use mathlib.Core.Bool.{Bool, true, false, not, ◌&&◌}
use mathlib.Core.List.{List}
use Prim.Native.Nat.{ℕ, ◌-◌, ◌≤◌, ◌<◌}
use native.Mathlib.Omega.{arith}
use lib.Dec.{ltb}
use lib.ListN.{length}
use borrow.Author.Tests.{ltb-true}
use Rattle.mask.proofs.Logic.{holds, true_holds, test, and_out}
use Rattle.game.specs.Problem.{Problem}
use Rattle.game.specs.Rule.{uses}
use Rattle.game.specs.Reasons.{Ruling, idle, chain, choose, explain_checks, explain_arc, explain_ahead, explained}
use Rattle.solver_arrays.specs.Arrays.{States}
use Rattle.solver_arrays.specs.Words.{list_in, why_in}
use Rattle.solver_arrays.proofs.WordLaws.{length-holding}
use Rattle.search_rules.specs.RuledTurn.{Replied, Plays}
use Rattle.search_rules.proofs.ChainLaws.{chain_lost, chain_on, chosen, left_out}
use Rattle.search_rules.proofs.AfterArc.{ahead_omitted}
use Rattle.solver_arrays.specs.declared.arrays.Arrays.{Arrays}

-- Look ahead is left out where rule 1 is used, and used below n only.
pub ahead_off : (on u b : Bool) → on ≡ u → on ≡ true → false ≡ (not u && b)
ahead_off on u b e t = ap (λ u. not u && b) (sym t ∙ e)

pub ahead-below : (S d n : ℕ) (b : Bool) → b ≡ (not (uses S 1) && (ltb d n && uses S 3)) → b ≡ true → d < n
ahead-below S d n b e f =
    ltb-true d n (holds (and_out (ltb d n) (uses S 3) (and_out (not (uses S 1)) (ltb d n && uses S 3) (true_holds (sym e ∙ f))).1).0)

module _ (P : Problem) (n : ℕ) (A : Arrays) (st : States P n A)
    (S c d : ℕ) (p w : List ℕ) (plays : Plays c d p w) (long : 96 ≤ length w) where
  abbrev parts : Bool → Bool → Bool → Ruling
  parts b2 b1 b3 = chain (choose b2 (explain_checks P (d - c) c p)) (chain (choose b1 (explain_arc P)) (choose b3 (explain_ahead P d)))

  explained_is : (l R : List ℕ) → explained P S c p l R ≡ parts (uses S 2) (uses S 1) (ltb d n && uses S 3) l R
  unfolding explained
  explained_is l R = ap₂ (λ (k m : ℕ). chain (choose (uses S 2) (explain_checks P (k - c) c p)) (chain (choose (uses S 1) (explain_arc P)) (choose (ltb k m && uses S 3) (explain_ahead P k))) l R)
      plays.count st.size

  -- The parts by what the code's tests say.
  module _ (b2 : Bool) (e2 : b2 ≡ uses S 2) (u : List ℕ) (lost : Bool) (q : ℕ) (t : Replied n w u lost q (choose b2 (explain_checks P (d - c) c p) (list_in n w) (why_in n w))) where
    t' : Replied n w u lost q (choose (uses S 2) (explain_checks P (d - c) c p) (list_in n w) (why_in n w))
    t' = subst (λ (b : Bool). Replied n w u lost q (choose b (explain_checks P (d - c) c p) (list_in n w) (why_in n w))) e2 t

    -- Lost by rule 2.
    pub turn_checked : lost ≡ true → Replied n w u lost q (explained P S c p (list_in n w) (why_in n w))
    turn_checked f = subst (Replied n w u lost q) (sym (explained_is (list_in n w) (why_in n w)))
        (chain_lost (choose (uses S 2) (explain_checks P (d - c) c p)) (chain (choose (uses S 1) (explain_arc P)) (choose (ltb d n && uses S 3) (explain_ahead P d))) n w u (list_in n w) (why_in n w) lost q f t')

    module _ (f : lost ≡ false) (b1 : Bool) (e1 : b1 ≡ uses S 1) (v : List ℕ) (lost' : Bool) (q' : ℕ) (s : Replied n u v lost' q' (choose b1 (explain_arc P) (list_in n u) (why_in n u))) where
      s' : Replied n u v lost' q' (choose (uses S 1) (explain_arc P) (list_in n u) (why_in n u))
      s' = subst (λ (b : Bool). Replied n u v lost' q' (choose b (explain_arc P) (list_in n u) (why_in n u))) e1 s

      go_on : (x : List ℕ) (z : Bool) (y : ℕ) → Replied n u x z y (chain (choose (uses S 1) (explain_arc P)) (choose (ltb d n && uses S 3) (explain_ahead P d)) (list_in n u) (why_in n u))
          → Replied n w x z y (explained P S c p (list_in n w) (why_in n w))
      go_on x z y r = subst (Replied n w x z y) (sym (explained_is (list_in n w) (why_in n w)))
          (chain_on n st.most w long (choose (uses S 2) (explain_checks P (d - c) c p)) (chain (choose (uses S 1) (explain_arc P)) (choose (ltb d n && uses S 3) (explain_ahead P d))) u x lost z q y f t' r)

      -- Lost by rule 1.
      pub turn-narrowed : lost' ≡ true → Replied n w v lost' q' (explained P S c p (list_in n w) (why_in n w))
      turn-narrowed g = go_on v lost' q'
          (chain_lost (choose (uses S 1) (explain_arc P)) (choose (ltb d n && uses S 3) (explain_ahead P d)) n u v (list_in n u) (why_in n u) lost' q' g s')

      long_next : 96 ≤ length u
      long_next =
          let o = choose (uses S 2) (explain_checks P (d - c) c p) (list_in n w) (why_in n w) in
          let k = ap length t'.words ∙ length-holding n w o.list o.why in
          omega arith

      -- Rule 3 beside rule 1, where it is left out.
      beside : lost' ≡ false → uses S 1 ≡ true → (z : Bool) (y : ℕ) → Replied n v v z y (idle (list_in n v) (why_in n v))
          → Replied n v v z y (choose (ltb d n && uses S 3) (explain_ahead P d) (list_in n v) (why_in n v))
      unfolding choose
      beside g e z y r = test (ltb d n && uses S 3)
          (λ t. chosen (ltb d n && uses S 3) (explain_ahead P d) n v v (list_in n v) (why_in n v) z y (holds t)
          (ahead_omitted P n st.size st.most u v long_next lost' q' (subst (λ (b : Bool). Replied n u v lost' q' (choose b (explain_arc P) (list_in n u) (why_in n u))) e s') g
          d (ltb-true d n (holds (and_out (ltb d n) (uses S 3) t).0)) z y r))
          (λ f. left_out (ltb d n && uses S 3) (explain_ahead P d) n v v (list_in n v) (why_in n v) z y f r)

      said : lost' ≡ false → (b3 : Bool) → b3 ≡ (not (uses S 1) && (ltb d n && uses S 3)) → (z : Bool) (y : ℕ) → Replied n v v z y (choose b3 (explain_ahead P d) (list_in n v) (why_in n v))
          → Replied n v v z y (choose (ltb d n && uses S 3) (explain_ahead P d) (list_in n v) (why_in n v))
      unfolding choose
      said g b3 e3 z y r =
          let r' : (x : Bool) → uses S 1 ≡ x → Replied n v v z y (choose (not x && (ltb d n && uses S 3)) (explain_ahead P d) (list_in n v) (why_in n v)) =
          λ x e. subst (λ (b : Bool). Replied n v v z y (choose b (explain_ahead P d) (list_in n v) (why_in n v))) (e3 ∙ ap (λ x. not x && (ltb d n && uses S 3)) e) r in
          test (uses S 1) (λ t. beside g (holds t) z y (r' true (holds t))) (λ f. r' false f)

      -- What rule 3 says.
      pub turn_ends : lost' ≡ false → (b3 : Bool) → b3 ≡ (not (uses S 1) && (ltb d n && uses S 3)) → (z : Bool) (y : ℕ) → Replied n v v z y (choose b3 (explain_ahead P d) (list_in n v) (why_in n v))
          → Replied n w v z y (explained P S c p (list_in n w) (why_in n w))
      turn_ends g b3 e3 z y r =
          go_on v z y (chain_on n st.most u long_next (choose (uses S 1) (explain_arc P)) (choose (ltb d n && uses S 3) (explain_ahead P d)) v v lost' z q' y g s' (said g b3 e3 z y r))
