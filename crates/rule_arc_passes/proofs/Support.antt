-- What survives a revision, as whole masks: the values of x that the mask of k leaves.
use mathlib.Core.Path.{◌≡◌, sym, ap, ◌∙◌}
use mathlib.Core.Bool.{Bool, true, false, cond, not, ◌&&◌, not-not}
use mathlib.Core.List.{List}
use Prim.Native.Nat.{ℕ, ◌<◌}
use lib.Dec.{ltb}
use lib.Bits.{bit_and}
use lib.ListN.{get_or}
use Rattle.mask.specs.Range.{some, each}
use Rattle.mask.specs.Mask.{bit, mask_of}
use Rattle.mask.proofs.Range.{some_eq, each_none}
use Rattle.mask.proofs.Masks.{mask_of_same, mask_of_and, mask_of_bits}
use Rattle.game.specs.Problem.{Problem}
use Rattle.game.specs.Support.{clashes, alone}
use Rattle.game.specs.Lists.{domains}
use Rattle.game.specs.Reasons.{kills, surviving, cause}
use Rattle.solver_arrays.specs.Arrays.{row_in, supported_in, common_in, States}
use Rattle.rule_arc_passes.specs.Passes.{leaves, cause_of}
use Rattle.solver_arrays.specs.declared.arrays.Arrays.{Arrays}

module _ (P : Problem) (n : ℕ) (A : Arrays) (st : States P n A) where
  -- Rows of k towards x say which values of x go with one of k.
  row_back : (x a k b : ℕ) → x < n → k < n → a < 16 → b < 16 → P.compatible x a k b ≡ bit (row_in A k b x) a
  row_back x a k b lx lk la lb = P.symmetric x a k b ∙ st.row k b x a lk lb lx la

  module _ (x k : ℕ) (lx : x < n) (lk : k < n) (v a : ℕ) (la : a < 16) where
    -- A value of x goes with some value of the mask v of k, and with each.
    pub some_back : some 16 (bit v) (λ b. P.compatible x a k b) ≡ some 16 (bit v) (λ b. bit (row_in A k b x) a)
    some_back = some_eq 16 (bit v) (λ b. P.compatible x a k b) (λ b. bit (row_in A k b x) a) (λ b l. row_back x a k b lx lk la l)

    pub each_back : not (some 16 (bit v) (λ b. not (P.compatible x a k b))) ≡ each 16 (bit v) (λ b. bit (row_in A k b x) a)
    each_back =
        ap not (some_eq 16 (bit v) (λ b. not (P.compatible x a k b)) (λ b. not (bit (row_in A k b x) a)) (λ b l. ap not (row_back x a k b lx lk la l)))
        ∙ sym (each_none 16 (bit v) (λ b. bit (row_in A k b x) a))

  pub surviving-leaves : (l : List ℕ) (x k : ℕ) → x < n → k < n → get_or l x 0 < 65536 → surviving P l x k ≡ bit_and (get_or l x 0) (leaves A x k (get_or l k 0))
  unfolding surviving kills clashes alone domains leaves supported_in common_in
  surviving-leaves l x k lx lk h = go (bit A.universal k && ltb x k) (ap (λ (b : Bool). b && ltb x k) (st.side k lk))
    where
      u : ℕ
      u = get_or l x 0

      v : ℕ
      v = get_or l k 0

      both : (q : ℕ → Bool) → mask_of 16 (λ a. bit u a && q a) ≡ bit_and u (mask_of 16 q)
      both q = sym (ap (λ (m : ℕ). bit_and m (mask_of 16 q)) (mask_of_bits 16 u h) ∙ mask_of_and 16 (bit u) q)

      go : (late : Bool) → (P.universal k && ltb x k) ≡ late
          → mask_of 16 (λ a. bit u a && not (cond (P.universal k && ltb x k) (some 16 (bit v) (λ b. not (P.compatible x a k b))) (not (some 16 (bit v) (λ b. P.compatible x a k b)))))
          ≡ bit_and u (cond late (mask_of 16 (λ a. each 16 (bit v) (λ b. bit (row_in A k b x) a))) (mask_of 16 (λ a. some 16 (bit v) (λ b. bit (row_in A k b x) a))))
      go true e = rw e (mask_of_same 16 _ (λ a. bit u a && each 16 (bit v) (λ b. bit (row_in A k b x) a)) (λ a la. ap (λ (b : Bool). bit u a && b) (each_back x k lx lk v a la)) ∙ both (λ a. each 16 (bit v) (λ b. bit (row_in A k b x) a)))
      go false e = rw e (mask_of_same 16 _ (λ a. bit u a && some 16 (bit v) (λ b. bit (row_in A k b x) a)) (λ a la. ap (λ (b : Bool). bit u a && b) (not-not (some 16 (bit v) (λ b. P.compatible x a k b)) ∙ some_back x k lx lk v a la)) ∙ both (λ a. some 16 (bit v) (λ b. bit (row_in A k b x) a)))

  pub cause_of_lem : (R : List ℕ) (x k : ℕ) → k < n → cause_of A.universal x k (get_or R k 0) ≡ cause P R x k
  unfolding cause cause_of
  cause_of_lem R x k lk = rw (st.side k lk)
