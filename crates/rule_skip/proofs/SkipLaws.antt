-- Rule 7 in a problem that the arrays state: its test of a value is the test of the pairs without i, and a bit of the values that are left.
use mathlib.Core.Path.{◌≡◌, refl, sym, ap, ap₂, subst, ◌∙◌}
use mathlib.Core.Bool.{Bool, true, false, cond, not, ◌&&◌, and_comm}
use mathlib.Core.List.{List}
use Prim.Native.Nat.{ℕ, ◌+◌, ◌%◌, ◌^◌, ◌<◌}
use native.Mathlib.Nat.{mod-eq_of_lt}
use native.Mathlib.Omega.{arith}
use lib.Bits.{bit_and, and_zero_r}
use lib.Dec.{T, eqb, ltb, eqb→eq, ltb→lt}
use lib.ListN.{get_or}
use borrow.Author.Tests.{eq-eqb, ne_eqb, lt-ltb}
use Rattle.mask.specs.Range.{each}
use Rattle.mask.specs.Mask.{bit, mask_of, diff, above}
use Rattle.mask.proofs.Logic.{same, holds, true_holds, clash, test, by_eq, by_lt, and_in, and_out}
use Rattle.mask.proofs.Range.{each_in, each_out}
use Rattle.mask.proofs.Bits.{bit_single, bit_of_zero, bit-diff, bit_ext}
use Rattle.mask.proofs.Masks.{bit-mask_of, mask_of_lt, mask_of_same, mask_of_bits, diff_lt}
use Rattle.mask.proofs.Members.{bit-above, above_lt}
use Rattle.game.specs.Problem.{Problem}
use Rattle.game.specs.Lists.{domains}
use Rattle.game.specs.Search.{solid, around, skippable, untried}
use Rattle.solver_arrays.specs.Arrays.{row_in, common_in, States}
use Rattle.solver_arrays.specs.Words.{list_in, leaf_in}
use Rattle.solver_arrays.proofs.WordLaws.{get_d_list_in, get_d_leaf_in}
use Rattle.rule_skip.specs.Skip.{box_in, box_goes, goes_above, boxes_fit, left_by, left_of, LeafSmall}
use Rattle.rule_skip.proofs.BoxLaws.{left_lt}
use Rattle.solver_arrays.specs.declared.arrays.Arrays.{Arrays}

-- The later values of u that are not skipped, as a mask.
pub untried_is : (u a skipped m r : ℕ) → u < 65536 → m ≡ above u a → r ≡ diff m skipped → r ≡ untried (bit skipped) a u
unfolding untried
untried_is u a skipped m r h e q =
    q ∙ ap (λ m. diff m skipped) e
    ∙ bit_ext 16 _ _ (diff_lt 16 (above u a) skipped (above_lt 16 u a h)) (mask_of_lt 16 _) λ b l.
    bit-diff (above u a) skipped b ∙ ap (λ x. x && not (bit skipped b)) (bit-above u a b) ∙ order (bit u b) (ltb a b) (not (bit skipped b))
    ∙ sym (bit-mask_of 16 (λ b. ltb a b && (bit u b && not (bit skipped b))) b l)
  where
    order : (x y z : Bool) → ((x && y) && z) ≡ (y && (x && z))
    order true true z = refl
    order true false z = refl
    order false true z = refl
    order false false z = refl

-- A neighbour of j above it is a variable above j.
pub near_above : (P : Problem) (n : ℕ) (A : Arrays) → States P n A → (j k : ℕ) → j < n → T (bit (above (get_or A.near j 0) j) k) → (j < k) × (k < n)
near_above P n A S j k l t =
    let q = and_out (bit (get_or A.near j 0) k) (ltb j k) (subst T (bit-above (get_or A.near j 0) j k) t) in
    (ltb→lt j k q.1, by_lt k n (λ y. y) (λ y. absurd (clash (S.inside j k l y ∙ bit_of_zero k) q.0)))

module _ (P : Problem) (n : ℕ) (A : Arrays) (S : States P n A) (i : ℕ) (h : i < n) (w : List ℕ) (small : LeafSmall n w) where
  abbrev box : ℕ → ℕ
  box j = box_in (above A.universal i) i w j

  abbrev around_of : ℕ → ℕ → ℕ → Bool
  around_of b = around P (list_in n w) i (leaf_in n w) b

  -- Beside i, the box of a variable is what the rule lets it have; i itself has the value that is tested, and no box.
  box_is : (b j a : ℕ) → j < n → ¬ (j ≡ i) → bit (box j) a ≡ around_of b j a
  unfolding box_in around domains
  box_is b j a l d =
      let q : get_or w (96 + j) 0 % 16 ≡ get_or (leaf_in n w) j 0 = mod-eq_of_lt (small j l) ∙ sym (get_d_leaf_in n w j l) in
      ap (λ x. bit (cond x 0 (cond (bit (above A.universal i) j) (get_or w j 0) (2 ^ (get_or w (96 + j) 0 % 16)))) a) (ne_eqb j i d)
      ∙ ap (λ x. bit (cond x (get_or w j 0) (2 ^ (get_or w (96 + j) 0 % 16))) a) (bit-above A.universal i j ∙ and_comm (bit A.universal j) (ltb i j) ∙ ap (λ x. ltb i j && x) (sym (S.side j l)))
      ∙ ap₂ (λ m v. bit (cond (ltb i j && P.universal j) m (2 ^ v)) a) (sym (get_d_list_in n w j l)) q
      ∙ go (ltb i j && P.universal j)
      ∙ sym (ap (λ x. cond x (eqb a b) (cond (ltb i j && P.universal j) (bit (get_or (list_in n w) j 0) a) (eqb a (get_or (leaf_in n w) j 0)))) (ne_eqb j i d))
    where
      go : (x : Bool) → bit (cond x (get_or (list_in n w) j 0) (2 ^ get_or (leaf_in n w) j 0)) a ≡ cond x (bit (get_or (list_in n w) j 0) a) (eqb a (get_or (leaf_in n w) j 0))
      go true = refl
      go false = bit_single (get_or (leaf_in n w) j 0) a

  around-own : (b a : ℕ) → around_of b i a ≡ eqb a b
  unfolding around
  around-own b a = ap (λ x. cond x (eqb a b) (cond (ltb i i && P.universal i) (domains (list_in n w) i a) (eqb a (get_or (leaf_in n w) i 0)))) (eq-eqb i i refl)

  no_box : (a : ℕ) → bit (box i) a ≡ false
  unfolding box_in
  no_box a = ap (λ x. bit (cond x 0 (cond (bit (above A.universal i) i) (get_or w i 0) (2 ^ (get_or w (96 + i) 0 % 16)))) a) (eq-eqb i i refl) ∙ bit_of_zero a

  -- A value common to the rows of a mask is compatible with each of its values.
  common_is : (j m k c : ℕ) → j < n → k < n → c < 16 → bit (common_in A j m k) c ≡ each 16 (bit m) (λ a. bit (row_in A j a k) c)
  unfolding common_in
  common_is j m k c _ _ l = bit-mask_of 16 (λ c. each 16 (bit m) (λ a. bit (row_in A j a k) c)) c l

  common_out : (j m k c a : ℕ) → j < n → k < n → c < 16 → T (bit (common_in A j m k) c) → a < 16 → T (bit m a) → T (P.compatible j a k c)
  common_out j m k c a x y l t o s =
      subst T (sym (S.row j a k c x o y l)) (each_out 16 (bit m) (λ a. bit (row_in A j a k) c) (subst T (common_is j m k c x y l) t) a o s)

  common_in_lem : (j m k c : ℕ) → j < n → k < n → c < 16 → ((a : ℕ) → a < 16 → T (bit m a) → T (P.compatible j a k c)) → T (bit (common_in A j m k) c)
  common_in_lem j m k c x y l f =
      subst T (sym (common_is j m k c x y l)) (each_in 16 (bit m) (λ a. bit (row_in A j a k) c) λ a o s. subst T (S.row j a k c x o y l) (f a o s))

  -- The test of the pairs without i: what it gives, and what shows it.
  fits_out : T (boxes_fit A n (above A.universal i) i w)
      → (j k a c : ℕ) → j < k → k < n → T (P.constrained j k) → a < 16 → T (bit (box j) a) → c < 16 → T (bit (box k) c) → T (P.compatible j a k c)
  unfolding boxes_fit goes_above box_goes
  fits_out t j k a c l y r o s x v =
      let m = S.most in
      let g = each_out n (λ j. true) (goes_above A (above A.universal i) i w) t j (omega arith) tt in
      let b = and_in (bit (get_or A.near j 0) k) (ltb j k) (subst T (S.joined j k (omega arith) y) r) (true_holds (lt-ltb j k l)) in
      let f = each_out 32 (bit (above (get_or A.near j 0) j)) (box_goes A (above A.universal i) i w j (box j)) g k (omega arith) (subst T (sym (bit-above (get_or A.near j 0) j k)) b) in
      common_out j (box j) k c a (omega arith) y x (each_out 16 (bit (box k)) (bit (common_in A j (box j) k)) f c x v) o s

  fits_in_lem : ((j k a c : ℕ) → j < k → k < n → a < 16 → T (bit (box j) a) → c < 16 → T (bit (box k) c) → T (P.compatible j a k c))
      → T (boxes_fit A n (above A.universal i) i w)
  unfolding boxes_fit goes_above box_goes
  fits_in_lem f =
      each_in n (λ j. true) (goes_above A (above A.universal i) i w) λ j l _.
      each_in 32 (bit (above (get_or A.near j 0) j)) (box_goes A (above A.universal i) i w j (box j)) λ k _ t.
      let y = near_above P n A S j k l t in
      each_in 16 (bit (box k)) (bit (common_in A j (box j) k)) λ c x v. common_in_lem j (box j) k c l y.1 x (λ a o s. f j k a c y.0 y.1 o s x v)

  -- The values that are left of i: what they give, and what shows one.
  left_out : (b : ℕ) → b < 16 → T (bit (left_of A (above A.universal i) i w (get_or A.near i 0)) b)
      → (j a : ℕ) → j < n → T (P.constrained i j) → a < 16 → T (bit (box j) a) → T (P.compatible j a i b)
  unfolding left_of left_by
  left_out b l t j a y r o s =
      let m = S.most in
      let f : ℕ → Bool = λ j. bit (left_by A (above A.universal i) i w j) b in
      let e = subst T (bit-mask_of 16 (λ b. each 32 (bit (get_or A.near i 0)) (λ j. bit (left_by A (above A.universal i) i w j) b)) b l) t in
      common_out j (box j) i b a y h l (each_out 32 (bit (get_or A.near i 0)) f e j (omega arith) (subst T (S.joined i j h y) r)) o s

  left_in : (b : ℕ) → b < 16 → ((j a : ℕ) → j < n → ¬ (j ≡ i) → a < 16 → T (bit (box j) a) → T (P.compatible j a i b))
      → T (bit (left_of A (above A.universal i) i w (get_or A.near i 0)) b)
  unfolding left_of left_by
  left_in b l f =
      subst T (sym (bit-mask_of 16 (λ b. each 32 (bit (get_or A.near i 0)) (λ j. bit (left_by A (above A.universal i) i w j) b)) b l))
      (each_in 32 (bit (get_or A.near i 0)) (λ j. bit (left_by A (above A.universal i) i w j) b) λ j _ t.
      by_lt j n
      (λ y. common_in_lem j (box j) i b y h l (λ a o s. f j a y (λ e. P.apart i j (subst T (sym (S.joined i j h y)) t) (sym e)) o s))
      (λ y. absurd (clash (S.inside i j h y ∙ bit_of_zero j) t)))

  -- The rule's own test: what it gives, and what shows it.
  solid_out : (b : ℕ) → T (skippable P (list_in n w) i (leaf_in n w) b)
      → (j k a c : ℕ) → j < k → k < n → a < 16 → T (around_of b j a) → c < 16 → T (around_of b k c) → T (P.compatible j a k c)
  unfolding skippable solid
  solid_out b t j k a c l y o s x v =
      let z = S.size in
      let one = each_out P.n (λ k. true) (λ k. each k (λ j. true) (λ j. each 16 (around_of b k) (λ c. each 16 (around_of b j) (λ a. P.compatible j a k c)))) t k (omega arith) tt in
      let two = each_out k (λ j. true) (λ j. each 16 (around_of b k) (λ c. each 16 (around_of b j) (λ a. P.compatible j a k c))) one j l tt in
      each_out 16 (around_of b j) (λ a. P.compatible j a k c) (each_out 16 (around_of b k) (λ c. each 16 (around_of b j) (λ a. P.compatible j a k c)) two c x v) a o s

  solid_in : (b : ℕ) → ((j k a c : ℕ) → j < k → k < n → a < 16 → T (around_of b j a) → c < 16 → T (around_of b k c) → T (P.compatible j a k c))
      → T (skippable P (list_in n w) i (leaf_in n w) b)
  unfolding skippable solid
  solid_in b f =
      let z = S.size in
      each_in P.n (λ k. true) (λ k. each k (λ j. true) (λ j. each 16 (around_of b k) (λ c. each 16 (around_of b j) (λ a. P.compatible j a k c)))) λ k y _.
      each_in k (λ j. true) (λ j. each 16 (around_of b k) (λ c. each 16 (around_of b j) (λ a. P.compatible j a k c))) λ j l _.
      each_in 16 (around_of b k) (λ c. each 16 (around_of b j) (λ a. P.compatible j a k c)) λ c x v.
      each_in 16 (around_of b j) (λ a. P.compatible j a k c) λ a o s. f j k a c l (omega arith) o s x v

  -- A value in a box is one that the rule lets the variable have, whatever value of i is tested.
  box_in_lem : (b j a : ℕ) → j < n → T (bit (box j) a) → T (around_of b j a)
  box_in_lem b j a l s =
      by_eq j i (λ e. absurd (clash (ap (λ x. bit (box x) a) e ∙ no_box a) s)) (λ d. subst T (box_is b j a l d) s)

  own_in : (b : ℕ) → T (around_of b i b)
  own_in b = true_holds (around-own b b ∙ eq-eqb b b refl)

  -- One value of i.
  skip_is : (b : ℕ) → b < 16
      → skippable P (list_in n w) i (leaf_in n w) b ≡ (boxes_fit A n (above A.universal i) i w && bit (left_of A (above A.universal i) i w (get_or A.near i 0)) b)
  skip_is b l =
      same (skippable P (list_in n w) i (leaf_in n w) b) (boxes_fit A n (above A.universal i) i w && bit (left_of A (above A.universal i) i w (get_or A.near i 0)) b)
      (λ t. and_in (boxes_fit A n (above A.universal i) i w) (bit (left_of A (above A.universal i) i w (get_or A.near i 0)) b)
      (fits_in_lem λ j k a c q y o s x v. solid_out b t j k a c q y o (box_in_lem b j a (omega arith) s) x (box_in_lem b k c y v))
      (left_in b l λ j a y d o s.
      by_lt j i
      (λ q. solid_out b t j i a b q h o (box_in_lem b j a y s) l (own_in b))
      (λ q. subst T (P.symmetric i b j a) (solid_out b t i j b a (omega arith) y l (own_in b) o (box_in_lem b j a y s)))))
      (λ t. let g = and_out (boxes_fit A n (above A.universal i) i w) (bit (left_of A (above A.universal i) i w (get_or A.near i 0)) b) t in
      solid_in b λ j k a c q y o s x v.
      by_eq j i
      (λ e. subst T (P.symmetric k c j a)
      (subst (λ z. T (P.compatible k c z a)) (sym e) (subst (λ z. T (P.compatible k c i z)) (sym (own b a (subst (λ z. T (around_of b z a)) e s)))
      (test (P.constrained i k)
      (λ r. left_out b l g.1 k c y r x (subst T (sym (box_is b k c y (omega arith))) v))
      (λ r. subst T (P.symmetric i b k c) (P.free i k r b c))))))
      (λ d. by_eq k i
      (λ e. subst (λ z. T (P.compatible j a z c)) (sym e) (subst (λ z. T (P.compatible j a i z)) (sym (own b c (subst (λ z. T (around_of b z c)) e v)))
      (test (P.constrained i j)
      (λ r. left_out b l g.1 j a (omega arith) r o (subst T (sym (box_is b j a (omega arith) d)) s))
      (λ r. subst T (P.symmetric i b j a) (P.free i j r b a)))))
      (λ f. test (P.constrained j k)
      (λ r. fits_out g.0 j k a c q y r o (subst T (sym (box_is b j a (omega arith) d)) s) x (subst T (sym (box_is b k c y f)) v))
      (λ r. P.free j k r a c))))
    where
      own : (b a : ℕ) → T (around_of b i a) → a ≡ b
      own b a t = eqb→eq a b (subst T (around-own b a) t)

  -- All values of i at once, with the mask v of the later universal variables.
  abbrev Skipped : ℕ
  Skipped = mask_of 16 (skippable P (list_in n w) i (leaf_in n w))

  module _ (v : ℕ) (z : v ≡ above A.universal i) where
    fits_at_lem : boxes_fit A n (above A.universal i) i w ≡ boxes_fit A n v i w
    fits_at_lem = ap (λ v. boxes_fit A n v i w) (sym z)

    left_at : left_of A (above A.universal i) i w (get_or A.near i 0) ≡ left_of A v i w (get_or A.near i 0)
    left_at = ap (λ v. left_of A v i w (get_or A.near i 0)) (sym z)

    skip_at : (b : ℕ) → b < 16 → skippable P (list_in n w) i (leaf_in n w) b ≡ (boxes_fit A n v i w && bit (left_of A v i w (get_or A.near i 0)) b)
    skip_at b l = skip_is b l ∙ ap₂ (λ x m. x && bit m b) fits_at_lem left_at

    abbrev left : ℕ
    left = left_of A v i w (get_or A.near i 0)

    left_skipped : boxes_fit A n v i w ≡ true → left ≡ Skipped
    left_skipped t =
        mask_of_bits 16 left (left_lt A v i w (get_or A.near i 0))
        ∙ mask_of_same 16 (bit left) (skippable P (list_in n w) i (leaf_in n w)) λ b l. sym (skip_at b l ∙ ap (λ x. x && bit left b) t)

    none_skipped : boxes_fit A n v i w ≡ false → 0 ≡ Skipped
    none_skipped t =
        mask_of_bits 16 0 (omega arith)
        ∙ mask_of_same 16 (bit 0) (skippable P (list_in n w) i (leaf_in n w)) λ b l.
        bit_of_zero b ∙ sym (skip_at b l ∙ ap (λ x. x && bit left b) t)

    -- Of the values m of i: the pairs without i fit; they do not; no value is left.
    module _ (m : ℕ) where
      pub skips_left : (r : ℕ) → r ≡ bit_and m left → boxes_fit A n v i w ≡ true → r ≡ bit_and m Skipped
      skips_left r e t = e ∙ ap (bit_and m) (left_skipped t)

      pub skips_none : boxes_fit A n v i w ≡ false → 0 ≡ bit_and m Skipped
      skips_none t = sym (ap (bit_and m) (sym (none_skipped t)) ∙ and_zero_r m)

      pub skips_empty : (r : ℕ) → r ≡ bit_and m left → r ≡ 0 → 0 ≡ bit_and m Skipped
      skips_empty r e o = test (boxes_fit A n v i w) (λ t. sym o ∙ skips_left r e (holds t)) skips_none
