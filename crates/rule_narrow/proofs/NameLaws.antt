-- Rule 4's names over the arrays: the first clash of a value, and the arrays that hold those of all impure values.
use mathlib.Core.Path.{◌≡◌, refl, sym, ap, ap₂, ◌∙◌, fun_ext}
use mathlib.Core.Bool.{Bool, true, false, cond, not, ◌&&◌, and-true}
use mathlib.Core.List.{List}
use Prim.Native.Nat.{ℕ, ◌^◌, ◌<◌, ◌≤◌}
use native.Mathlib.Omega.{arith}
use lib.Dec.{T, eqb}
use lib.ListN.{get_or, get_or-eq_default, length-set, set, replicate}
use lib.Seq.{ext_get_or, get_or-set_same, get_or-set_other}
use borrow.Author.Tests.{eq-eqb, ne_eqb}
use Rattle.mask.specs.Range.{first}
use Rattle.mask.specs.Mask.{bit, mask_of, diff}
use Rattle.mask.specs.Upward.{Took}
use Rattle.mask.proofs.Logic.{holds, by_eq}
use Rattle.mask.proofs.Range.{some-over, some_joint, first_is, first_none, first-agree}
use Rattle.mask.proofs.Bits.{bit_of_zero, bit-diff}
use Rattle.mask.proofs.Masks.{mask_of_same, mask_of_bits, diff_lt}
use Rattle.mask.proofs.Chains.{bit-left, took_lt}
use Rattle.game.specs.Problem.{Problem}
use Rattle.game.specs.Game.{Domains}
use Rattle.game.specs.Lists.{domains, list_of}
use Rattle.game.specs.Support.{clashes}
use Rattle.game.specs.Pure.{pure, is_impure, clash_variable, clash_value}
use Rattle.theory.proofs.Lists.{length-list_of, get_d_list_of, list_of_same}
use Rattle.solver_arrays.specs.Arrays.{row_in, States}
use Rattle.solver_arrays.specs.Words.{list_in}
use Rattle.solver_arrays.proofs.WordLaws.{length-list_in}
use Rattle.solver_arrays.proofs.Stated.{domain_of_lem}
use Rattle.rule_narrow.specs.Names.{pure_names}
use Rattle.rule_narrow.specs.declared.names.PureNames.{PureNames}
use Rattle.rule_narrow.proofs.PurgeLaws.{some_member, impure-bit}
use Rattle.solver_arrays.specs.declared.arrays.Arrays.{Arrays}

-- The values of j, in the words w, that value a of x does not go with.
abbrev pub clashing_in : Arrays → ℕ → List ℕ → ℕ → ℕ → ℕ
clashing_in A x w a j = diff (get_or w j 0) (row_in A x a j)

-- Value a of x goes with every variable below k but x itself.
abbrev pub GoesBelow : Arrays → ℕ → List ℕ → ℕ → ℕ → Type 0
GoesBelow A x w a k = (i : ℕ) → i < k → ¬ (i ≡ x) → clashing_in A x w a i ≡ 0

module _ (P : Problem) (n : ℕ) (A : Arrays) (S : States P n A) (x : ℕ) (l : x < n) (w : List ℕ) (small : (k : ℕ) → get_or w k 0 < 2 ^ 16) (a : ℕ) (h : a < 16) where
  abbrev D : Domains
  D = domains (list_in n w)

  clashing-bit : (j b : ℕ) → j < n → b < 16 → bit (clashing_in A x w a j) b ≡ (D j b && not (P.compatible x a j b))
  clashing-bit j b k q =
      bit-diff (get_or w j 0) (row_in A x a j) b
      ∙ ap₂ (λ u v. u && not v) (sym (ap (λ (d : ℕ → Bool). d b) (domain_of_lem n w j k))) (sym (S.row x a j b l h k q))

  clashes_are : (j : ℕ) → j < n → clashes P D x a j ≡ not (eqb (clashing_in A x w a j) 0)
  unfolding clashes
  clashes_are j k =
      some_joint 16 (D j) (λ b. not (P.compatible x a j b))
      ∙ some-over 16 (λ b. D j b && not (P.compatible x a j b)) (bit (clashing_in A x w a j)) (λ b. true) (λ b q. sym (clashing-bit j b k q))
      ∙ some_member (clashing_in A x w a j) (diff_lt 16 (get_or w j 0) (row_in A x a j) (small j))

  -- The test of a variable: it passes x itself by, and those that a goes with.
  abbrev tested : ℕ → Bool
  tested j = not (eqb j x) && clashes P D x a j

  not-tested : (k : ℕ) → k ≤ n → GoesBelow A x w a k → (i : ℕ) → i < k → tested i ≡ false
  not-tested k b g i q =
      by_eq i x (λ e. rw (eq-eqb i x e) refl)
      (λ d. rw (ne_eqb i x d, clashes_are i (omega arith), eq-eqb (clashing_in A x w a i) 0 (g i q d)) refl)

  -- The first variable that holds a clash, and its first value.
  pub first_variable : (j : ℕ) → j < n → ¬ (j ≡ x) → ¬ (clashing_in A x w a j ≡ 0) → GoesBelow A x w a j → j ≡ clash_variable P D x a
  unfolding clash_variable
  first_variable j k d z g =
      sym (ap (λ v. first v tested) S.size
      ∙ first_is n tested j k (rw (ne_eqb j x d, clashes_are j k, ne_eqb (clashing_in A x w a j) 0 z) tt) (not-tested j (omega arith) g))

  pub first_value : (j m : ℕ) → j < n → m ≡ clashing_in A x w a j → j ≡ clash_variable P D x a → first 16 (bit m) ≡ clash_value P D x a
  unfolding clash_value
  first_value j m k e q =
      ap (λ m. first 16 (bit m)) e
      ∙ first-agree 16 (bit (clashing_in A x w a j)) (λ b. D j b && not (P.compatible x a j b)) (λ b r. clashing-bit j b k r)
      ∙ ap (λ j. first 16 (λ b. D j b && not (P.compatible x a j b))) q

  -- It goes with all.
  pub no_variable : GoesBelow A x w a n → n ≡ clash_variable P D x a
  unfolding clash_variable
  no_variable g = sym (ap (λ v. first v tested) S.size ∙ first_none n tested (not-tested n (omega arith) g))

  pub no_value : n ≡ clash_variable P D x a → 16 ≡ clash_value P D x a
  unfolding clash_value domains
  no_value q =
      sym (ap (λ j. first 16 (λ b. D j b && not (P.compatible x a j b))) (sym q)
      ∙ first_none 16 (λ b. D n b && not (P.compatible x a n b)) λ b r.
      let e = length-list_in n w in
      rw (get_or-eq_default (list_in n w) 0 {n = n} (omega arith), bit_of_zero b) refl)

-- Sixteen places: f at the members of a mask that are passed, zero at the others.
abbrev pub passed_to : ℕ → ℕ → (ℕ → ℕ) → List ℕ
passed_to impure left f = list_of 16 (λ k. cond (bit impure k && not (bit left k)) (f k) 0)

never : (b : Bool) (v : ℕ) → cond (b && not b) v 0 ≡ 0
never true v = refl
never false v = refl

-- None is passed yet.
pub passed_none : (impure left : ℕ) (f : ℕ → ℕ) → left ≡ impure → replicate {A = ℕ} 16 0 ≡ passed_to impure left f
unfolding list_of
passed_none impure left f e = sym (ap (λ m. passed_to impure m f) e ∙ ap (list_of 16) (fun_ext λ k. never (bit impure k) (f k)))

-- The next is.
pub passed_next : (impure left j left' : ℕ) (f : ℕ → ℕ) (w : List ℕ) (v : ℕ) → Took 16 left j left' → T (bit impure j) → w ≡ passed_to impure left f → v ≡ f j → set w j v ≡ passed_to impure left' f
passed_next impure left j left' f w v t m e q =
    let was = λ (k : ℕ). cond (bit impure k && not (bit left k)) (f k) 0 in
    let now = λ (k : ℕ). cond (bit impure k && not (bit left' k)) (f k) 0 in
    let long = length-list_of 16 was in
    let b = took_lt t in
    ap (λ w. set w j v) e
    ∙ ext_get_or 0 (set (list_of 16 was) j v) (list_of 16 now) (length-set (list_of 16 was) j v ∙ long ∙ sym (length-list_of 16 now))
    λ k h. let s = length-set (list_of 16 was) j v in
    by_eq k j
    (λ z. ap (λ i. get_or (set (list_of 16 was) j v) i 0) z ∙ get_or-set_same (list_of 16 was) j v 0 (omega arith) ∙ q
    ∙ sym (ap (λ i. get_or (list_of 16 now) i 0) z ∙ get_d_list_of 16 now j (omega arith) ∙ rw (bit-left t j, eq-eqb j j refl, holds m) (last (bit left j) (f j))))
    (λ z. get_or-set_other (list_of 16 was) j k v 0 z ∙ get_d_list_of 16 was k (omega arith)
    ∙ sym (get_d_list_of 16 now k (omega arith) ∙ rw (bit-left t k, ne_eqb k j z, and-true (bit left k)) refl))
  where
    last : (b : Bool) (v : ℕ) → cond (true && not (b && not true)) v 0 ≡ v
    last true v = refl
    last false v = refl

module _ (P : Problem) (x : ℕ) (l : List ℕ) (p d : ℕ) (ep : p ≡ pure P x l) (ed : d ≡ get_or l x 0) (small : d < 2 ^ 16) where
  named_all : (left : ℕ) (f : ℕ → ℕ) → left ≡ 0 → passed_to (diff d p) left f ≡ list_of 16 (λ a. cond (is_impure P (domains l) x a) (f a) 0)
  named_all left f z =
      list_of_same 16 _ _ λ a h.
      rw (impure-bit P x l p d ep ed small a h, z, bit_of_zero a) (ap (λ b. cond b (f a) 0) (and-true (is_impure P (domains l) x a)))

  -- All are passed: the reply.
  pub named_by : (impure left : ℕ) (u v : List ℕ) → impure ≡ diff d p → left ≡ 0 → u ≡ passed_to impure left (clash_variable P (domains l) x) → v ≡ passed_to impure left (clash_value P (domains l) x)
      → ◌≡◌ {A = PureNames} (record { pure = p; impure = impure; variables = u; values = v }) (pure_names P x l)
  unfolding pure_names
  named_by impure left u v e z a b =
      let s : impure ≡ mask_of 16 (is_impure P (domains l) x) = e ∙ mask_of_bits 16 (diff d p) (diff_lt 16 d p small) ∙ mask_of_same 16 _ _ (impure-bit P x l p d ep ed small) in
      rw (
        ep,
        s,
        a ∙ ap (λ m. passed_to m left (clash_variable P (domains l) x)) e ∙ named_all left (clash_variable P (domains l) x) z,
        b ∙ ap (λ m. passed_to m left (clash_value P (domains l) x)) e ∙ named_all left (clash_value P (domains l) x) z,
      ) refl
