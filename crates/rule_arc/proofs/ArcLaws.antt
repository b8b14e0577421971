-- What the code's removals leave, and the loss read off it, are rule 1 with reasons.
use mathlib.Core.Path.{◌≡◌, sym, ap, ap₂, subst, ◌∙◌}
use mathlib.Core.Bool.{Bool, true, false, not}
use mathlib.Core.List.{List}
use Prim.Native.Nat.{ℕ, ◌≤◌, ◌<◌}
use native.Mathlib.Omega.{arith}
use lib.Dec.{T, eqb}
use lib.ListN.{get_or, length}
use borrow.Author.Tests.{eqb-true}
use Rattle.mask.specs.Mask.{bit}
use Rattle.mask.proofs.Logic.{holds, true_holds, test, and_out}
use Rattle.game.specs.Problem.{Problem}
use Rattle.game.specs.Reasons.{Sheet, explain_arc, revisions}
use Rattle.solver_arrays.specs.Arrays.{States}
use Rattle.solver_arrays.specs.Words.{reason_in, holding}
use Rattle.solver_arrays.proofs.WordLaws.{get_d_list_in, holding-domain, holding_reason}
use Rattle.rule_arc_passes.proofs.Waiting.{Sized, revisions_sized, revisions-keep}
use Rattle.rule_arc_passes.specs.Passes.{removed_in, Touched}
use Rattle.rule_arc_passes.proofs.Sheets.{sheet_in, sheet_sized, removals}
use Rattle.rule_arc.specs.Loss.{emptied_in, bars_in, loss, conflict}
use Rattle.rule_arc.specs.ArcRule.{CalmBut, FullBut, Arced}
use Rattle.rule_arc.proofs.LossLaws.{loss_is, conflict_is}
use Rattle.solver_arrays.specs.declared.arrays.Arrays.{Arrays}

module _ (P : Problem) (A : Arrays) (w v : List ℕ) (lost : Bool) (c : ℕ) (long : 96 ≤ length w) (small : (k : ℕ) → get_or w k 0 < 65536)
    (changed touched : ℕ) (t : Touched changed touched w v) where
  abbrev Goal : ℕ → Type 0
  Goal n = States P n A → CalmBut n changed A w → v ≡ holding n w (revisions P (sheet_in n w)).list (revisions P (sheet_in n w)).why
      → lost ≡ loss A touched v n → c ≡ conflict A touched v n → Arced P n w v lost c

  own : Goal P.n
  unfolding explain_arc
  own st calm e f g = record {
    words = e;
    loss = f ∙ loss_is P touched A st v s.list s.why dom why z.small clear;
    set = λ t. g ∙ conflict_is P touched A st v s.list s.why dom why z.small clear (true_holds (sym f ∙ t));
  }
    where
      s : Sheet
      s = revisions P (sheet_in P.n w)

      z : Sized P s
      z = revisions_sized P (sheet_in P.n w) (sheet_sized P w small)

      dom : (x : ℕ) → x < P.n → get_or v x 0 ≡ get_or s.list x 0
      dom x l = ap (λ u. get_or u x 0) e ∙ holding-domain P.n st.most w long s.list s.why x l

      why : (x : ℕ) → x < P.n → reason_in v x ≡ get_or s.why x 0
      why x l = ap (λ u. reason_in u x) e ∙ holding_reason P.n st.most w long s.list s.why x l

      -- The domains of a universal variable and of one outside the mask are as they were.
      clear : (x k : ℕ) → x < P.n → k < P.n → bit touched k ≡ false → T (bit (get_or A.near x 0) k) → bit A.universal x ≡ true → bars_in A x k (get_or v x 0) (get_or v k 0) ≡ false
      clear x k lx lk b i u =
          let m = st.most in
          let o = t k (omega arith) b in
          ap₂ (bars_in A x k) (dom x lx ∙ revisions-keep P x (st.side x lx ∙ u) (sheet_in P.n w) ∙ get_d_list_in P.n w x lx) o.1
          ∙ (calm x k lx lk o.0).clear i u

  pub arced : (n : ℕ) → States P n A → CalmBut n changed A w → v ≡ removed_in A n changed w
      → lost ≡ loss A touched v n → c ≡ conflict A touched v n → Arced P n w v lost c
  arced n st calm e f g =
      subst Goal st.size own st calm (e ∙ removals P A w long small changed n st (λ x k lx lk b i. (calm x k lx lk b).rests i)) f g

-- An emptied variable has lost values, or was looked at.
pub emptied_touched : (n universal changed touched : ℕ) (w v : List ℕ) → n ≤ 32 → FullBut n changed w → Touched changed touched w v → (x : ℕ) → x < n → T (emptied_in universal v x) → T (bit touched x)
unfolding emptied_in
emptied_touched n universal changed touched w v h full t x l e = test (bit touched x) (λ y. y)
    (λ f. let o = t x (omega arith) f in
    absurd (full x l o.0 (sym o.1 ∙ eqb-true (get_or v x 0) 0 (holds {b = eqb (get_or v x 0) 0} (and_out (not (bit universal x)) (eqb (get_or v x 0) 0) e).1))))
