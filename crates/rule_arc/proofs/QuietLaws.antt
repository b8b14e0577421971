-- A variable without effect on another, on the words of a turn.
use mathlib.Core.Path.{◌≡◌, sym, ap, ap₂, ◌∙◌}
use mathlib.Core.Bool.{true, false, not, ◌&&◌}
use mathlib.Core.List.{List}
use Prim.Native.Nat.{ℕ, ◌<◌}
use lib.Dec.{T}
use lib.Bits.{bit_and}
use lib.ListN.{get_or}
use Rattle.mask.specs.Range.{some}
use Rattle.mask.specs.Mask.{bit, mask_of}
use Rattle.mask.proofs.Logic.{same, true_holds, fails, clash, and_in, and_out}
use Rattle.mask.proofs.Range.{some_out}
use Rattle.mask.proofs.Masks.{mask_of_same, mask_of_bits}
use Rattle.game.specs.Problem.{Problem}
use Rattle.game.specs.Lists.{domains}
use Rattle.game.specs.Arc.{barred}
use Rattle.game.specs.Reasons.{kills, surviving}
use Rattle.theory.proofs.Quiet.{Quiet}
use Rattle.solver_arrays.specs.Arrays.{States}
use Rattle.solver_arrays.specs.Words.{list_in}
use Rattle.solver_arrays.proofs.WordLaws.{get_d_list_in}
use Rattle.rule_arc_passes.specs.Passes.{leaves}
use Rattle.rule_arc_passes.proofs.Support.{surviving-leaves}
use Rattle.rule_arc.specs.Loss.{bars_in}
use Rattle.rule_arc.specs.ArcRule.{Calm}
use Rattle.rule_arc.proofs.LossLaws.{bars_is}
use Rattle.solver_arrays.specs.declared.arrays.Arrays.{Arrays}

-- On the words of a turn.
module _ (P : Problem) (n : ℕ) (A : Arrays) (st : States P n A) (w : List ℕ) (small : (k : ℕ) → get_or w k 0 < 65536) where
  pub calm_in : (x k : ℕ) → x < n → k < n → Quiet P (domains (list_in n w)) x k → Calm A w x k
  unfolding surviving domains
  calm_in x k lx lk q = record {
    rests = λ t u. sym (ap₂ (λ u v. bit_and u (leaves A x k v)) dx dk) ∙ sym (surviving-leaves P n A st l x k lx lk (rw dx (small x))) ∙ whole (st.side x lx ∙ u) (rw (st.joined x k lx lk) t) ∙ dx;
    clear = λ t u. sym (ap₂ (bars_in A x k) dx dk) ∙ bars_is P n A st l x k lx lk ∙ none (st.side x lx ∙ u) (rw (st.joined x k lx lk) t);
  }
    where
      l : List ℕ
      l = list_in n w

      dx : get_or l x 0 ≡ get_or w x 0
      dx = get_d_list_in n w x lx

      dk : get_or l k 0 ≡ get_or w k 0
      dk = get_d_list_in n w k lk

      whole : P.universal x ≡ false → T (P.constrained x k) → mask_of 16 (λ a. bit (get_or l x 0) a && not (kills P (domains l) x a k)) ≡ get_or l x 0
      whole u c = mask_of_same 16 (λ a. bit (get_or l x 0) a && not (kills P (domains l) x a k)) (bit (get_or l x 0))
          (λ a h. same (bit (get_or l x 0) a && not (kills P (domains l) x a k)) (bit (get_or l x 0) a) (λ t. (and_out (bit (get_or l x 0) a) (not (kills P (domains l) x a k)) t).0)
          (λ t. and_in (bit (get_or l x 0) a) (not (kills P (domains l) x a k)) t (true_holds (ap not (q.lives u c a h t))))) ∙ sym (mask_of_bits 16 (get_or l x 0) (rw dx (small x)))

      none : P.universal x ≡ true → T (P.constrained x k) → some 16 (domains l x) (λ a. barred P (domains l) x a k) ≡ false
      none u c = fails {b = some 16 (domains l x) (λ a. barred P (domains l) x a k)} λ t.
          let r = some_out 16 (domains l x) (λ a. barred P (domains l) x a k) t in clash (q.unbarred u c r.0 r.1 r.2) r.3
