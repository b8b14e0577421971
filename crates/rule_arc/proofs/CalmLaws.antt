-- A variable that has no effect on another has none where the other loses values.
use mathlib.Core.Path.{◌≡◌, refl, sym, ap, ◌∙◌}
use mathlib.Core.Bool.{Bool, true, false, cond, not, ◌&&◌}
use mathlib.Core.List.{List}
use Prim.Native.Nat.{ℕ, ◌<◌}
use native.Mathlib.Omega.{arith}
use lib.Dec.{T, ltb}
use lib.Bits.{bit_and, and_le_l}
use lib.ListN.{get_or}
use borrow.Author.Tests.{not-false}
use Rattle.mask.specs.Range.{each}
use Rattle.mask.specs.Mask.{bit}
use Rattle.mask.proofs.Logic.{same, holds, true_holds, and_in, and_out}
use Rattle.mask.proofs.Range.{each_out, each_in}
use Rattle.mask.proofs.Bits.{bit-bit_and, bit_ext}
use Rattle.solver_arrays.specs.Arrays.{supported_in, common_in}
use Rattle.rule_arc_passes.specs.Passes.{leaves}
use Rattle.rule_arc.specs.Loss.{bars_in}
use Rattle.rule_arc.specs.ArcRule.{Calm}
use Rattle.solver_arrays.specs.declared.arrays.Arrays.{Arrays}

-- A mask u' within the mask u.
module _ (u u' : ℕ) (less : (a : ℕ) → T (bit u' a) → T (bit u a)) where
  within_less : (m : ℕ) → u' < 65536 → bit_and u m ≡ u → bit_and u' m ≡ u'
  within_less m h e = bit_ext 16 (bit_and u' m) u' (let l = and_le_l u' m in omega arith) h λ a _.
      bit-bit_and u' m a ∙ same (bit u' a && bit m a) (bit u' a) (λ t. (and_out (bit u' a) (bit m a) t).0)
      (λ t. and_in (bit u' a) (bit m a) t (and_out (bit u a) (bit m a) (rw (sym (bit-bit_and u m a) ∙ ap (λ z. bit z a) e) (less a t))).1)

  each_less : (f : ℕ → Bool) → not (each 16 (bit u) f) ≡ false → not (each 16 (bit u') f) ≡ false
  each_less f e = ap not (holds {b = each 16 (bit u') f} (each_in 16 (bit u') f (λ a l t. each_out 16 (bit u) f (true_holds (not-false (each 16 (bit u) f) e)) a l (less a t))))

  bars_less : (A : Arrays) (x k v : ℕ) → bars_in A x k u v ≡ false → bars_in A x k u' v ≡ false
  unfolding bars_in
  bars_less A x k v = go (bit A.universal k) (ltb x k)
    where
      go : (b l : Bool) → cond b (not (each 16 (bit u) (bit (common_in A k v x)))) (l && not (each 16 (bit u) (bit (supported_in A k v x)))) ≡ false
          → cond b (not (each 16 (bit u') (bit (common_in A k v x)))) (l && not (each 16 (bit u') (bit (supported_in A k v x)))) ≡ false
      go true l e = each_less (bit (common_in A k v x)) e
      go false true e = each_less (bit (supported_in A k v x)) e
      go false false e = refl

pub calm_less : (A : Arrays) (w w' : List ℕ) (x k : ℕ) → Calm A w x k
    → get_or w' k 0 ≡ get_or w k 0 → ((a : ℕ) → T (bit (get_or w' x 0) a) → T (bit (get_or w x 0) a)) → get_or w' x 0 < 65536 → Calm A w' x k
calm_less A w w' x k c e less h = record {
  rests = λ t u. ap (λ (v : ℕ). bit_and (get_or w' x 0) (leaves A x k v)) e
      ∙ within_less (get_or w x 0) (get_or w' x 0) less (leaves A x k (get_or w k 0)) h (c.rests t u);
  clear = λ t u. ap (bars_in A x k (get_or w' x 0)) e ∙ bars_less (get_or w x 0) (get_or w' x 0) less A x k (get_or w k 0) (c.clear t u);
}
