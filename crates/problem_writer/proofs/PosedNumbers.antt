-- The numbers over arrays that state a problem are those of the problem.
use mathlib.Core.Path.{◌≡◌, refl, sym, ap, ap₂, ◌∙◌, fun_ext}
use mathlib.Core.Bool.{Bool, true, false, cond, ◌&&◌, ◌||◌, and_comm}
use mathlib.Core.List.{List, [], ◌∷◌}
use Prim.Native.Nat.{ℕ, ◌*◌, ◌/◌, ◌%◌, ◌<◌}
use native.Mathlib.Nat.{lt_of_le_of_lt}
use native.Mathlib.Omega.{arith}
use lib.Bits.{bit_and, and_le_r}
use lib.ListN.{get_or, take}
use Rattle.std.specs.Prelude.{Option}
use Rattle.mask.specs.Range.{count}
use Rattle.mask.specs.Mask.{bit, mask_of}
use Rattle.mask.proofs.Logic.{holds, test}
use Rattle.mask.proofs.Bits.{bit_ext, bit-bit_and, bit_of_zero}
use Rattle.mask.proofs.Masks.{mask_of_lt, bit-mask_of, mask_of_same}
use Rattle.buffer.proofs.StoredLaws.{joined_same}
use Rattle.file_layout.specs.Numbers.{in_order}
use Rattle.file_layout.proofs.NumberLaws.{order_out}
use Rattle.file_bytes.specs.Bytes.{handed}
use Rattle.game.specs.Problem.{Problem}
use Rattle.game.specs.Lists.{domains}
use Rattle.problem_numbers.specs.Numbers.{tied, row_of, constraint_numbers, is_pair, constraints_below, constraints_of, constraint_count, numbers_of}
use Rattle.problem_theory.proofs.Listing.{pair_order}
use Rattle.solver_arrays.specs.Arrays.{row_in, Poses}
use Rattle.solver_arrays.proofs.PosedLaws.{posed_domain}
use Rattle.solver_arrays.specs.declared.arrays.Arrays.{Arrays}
use Rattle.problem_writer.specs.Listing.{tied_in, row_within, numbers_in, is_pair_in, constraints_in}

module _ (P : Problem) (A : Arrays) (h : Poses P A) where
  -- A constraint joins i and j; row a of i towards j; the numbers of their constraint.
  module _ (i j : ℕ) (k : i < A.n) (l : j < A.n) where
    pub posed_tied : tied_in A i j ≡ tied P i j
    unfolding tied_in tied
    posed_tied = sym (ap₂ ◌||◌ (h.states.joined i j k l) (h.states.joined j i l k))

    posed_row : (a : ℕ) → a < 16 → row_within A i j a ≡ row_of P i j a
    unfolding row_within row_of domains
    posed_row a g =
        test (bit (get_or A.domains i 0) a)
        (λ t. rw (holds t) (bit_ext 16 _ _ small (mask_of_lt 16 _) λ b m. both b m (holds t) ∙ sym (bit-mask_of 16 test_of b m)))
        (λ e. rw e (bit_ext 16 _ _ (omega arith) (mask_of_lt 16 _) λ b m. bit_of_zero b ∙ sym (bit-mask_of 16 test_of b m ∙ out b e)))
      where
        test_of : ℕ → Bool
        test_of b = bit (get_or P.domain i 0) a && bit (get_or P.domain j 0) b && P.compatible i a j b

        small : bit_and (row_in A i a j) (get_or A.domains j 0) < 65536
        small = lt_of_le_of_lt (and_le_r (row_in A i a j) (get_or A.domains j 0)) (rw (posed_domain P A h j l) at (P.bounded j))

        both : (b : ℕ) → b < 16 → bit (get_or A.domains i 0) a ≡ true → bit (bit_and (row_in A i a j) (get_or A.domains j 0)) b ≡ test_of b
        both b m e =
            rw (posed_domain P A h i k, e, bit-bit_and (row_in A i a j) (get_or A.domains j 0) b, posed_domain P A h j l, h.states.row i a j b k g l m)
            (and_comm (bit (row_in A i a j) b) (bit (get_or A.domains j 0) b))

        out : (b : ℕ) → bit (get_or A.domains i 0) a ≡ false → test_of b ≡ false
        out b e = rw (posed_domain P A h i k, e)

    posed_numbers : numbers_in A i j ≡ constraint_numbers P i j
    unfolding numbers_in constraint_numbers
    posed_numbers = ap (λ r. i ∷ j ∷ r) (joined_same (λ a. row_within A i j a ∷ []) (λ a. row_of P i j a ∷ []) 16 (λ a g. ap (λ r. r ∷ []) (posed_row a g)))

  -- The pair with number x has a constraint.
  posed_pair : (x : ℕ) → is_pair_in A x ≡ is_pair P x
  unfolding is_pair_in is_pair
  posed_pair x =
      ap (λ b. b && tied_in A (x / 32) (x % 32)) (ap (in_order (x / 32) (x % 32)) (sym h.states.size))
      ∙ test (in_order (x / 32) (x % 32) P.n)
      (λ t. let o = order_out _ _ _ (holds t) in
      ap (λ b. in_order (x / 32) (x % 32) P.n && b) (posed_tied (x / 32) (x % 32) (omega (arith, o.0, o.1, h.states.size)) (omega (arith, o.1, h.states.size))))
      (λ e. rw e refl)

  -- All constraints, and how many they are.
  posed_constraints : constraints_in A (32 * A.n) ≡ constraints_of P
  unfolding constraints_in constraints_of constraints_below
  posed_constraints =
      joined_same (λ x. cond (is_pair_in A x) (numbers_in A (x / 32) (x % 32)) []) (λ x. cond (is_pair P x) (constraint_numbers P (x / 32) (x % 32)) []) (32 * A.n)
      (λ x l. ap (λ b. cond b (numbers_in A (x / 32) (x % 32)) []) (posed_pair x) ∙ test (is_pair P x)
      (λ t. let o = pair_order P x t in rw (holds t) (posed_numbers (x / 32) (x % 32) (omega (arith, o.0, o.1, h.states.size)) (omega (arith, o.1, h.states.size))))
      (λ e. rw e refl))
      ∙ ap (λ k. constraints_below P (32 * k)) (sym h.states.size)

  posed_count : count (32 * A.n) (is_pair_in A) ≡ constraint_count P
  unfolding constraint_count
  posed_count = ap₂ (λ k p. count (32 * k) p) (sym h.states.size) (fun_ext posed_pair)

  -- The universal variables as bits.
  posed_universal : mask_of A.n (bit A.universal) ≡ mask_of P.n P.universal
  posed_universal = mask_of_same A.n (bit A.universal) P.universal (λ i l. sym (h.states.side i l)) ∙ ap (λ k. mask_of k P.universal) (sym h.states.size)

  -- What the writer is handed.
  pub posed_handed : (rules : Option ℕ) (m universal : ℕ) (masks constraints : List ℕ)
      → m ≡ count (32 * A.n) (is_pair_in A) → universal ≡ mask_of A.n (bit A.universal) → masks ≡ take A.n A.domains → constraints ≡ constraints_in A (32 * A.n)
      → handed A.n m rules universal masks constraints [] ≡ numbers_of P rules
  unfolding numbers_of
  posed_handed rules m universal masks constraints e u d c =
      let e' : m ≡ constraint_count P = e ∙ posed_count in
      let u' : universal ≡ mask_of P.n P.universal = u ∙ posed_universal in
      let d' : masks ≡ P.domain = d ∙ sym h.domain in
      let c' : constraints ≡ constraints_of P = c ∙ posed_constraints in
      rw (e', u', d', c', ← h.states.size) refl
