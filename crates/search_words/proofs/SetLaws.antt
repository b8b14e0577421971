-- Conflict sets: what a turn hands up, and what it starts with.
use mathlib.Core.Path.{◌≡◌, refl, sym, ap, ap₂, subst, ◌∙◌, fun_ext}
use mathlib.Core.Bool.{Bool, true, false, cond, not, ◌&&◌, ◌||◌, and-true, and-false}
use mathlib.Core.List.{List}
use Prim.Native.Nat.{ℕ, ◌^◌, ◌≤◌, ◌<◌}
use native.Mathlib.Omega.{arith}
use lib.Dec.{T, eqb, ltb}
use lib.Bits.{bit_and, bit_or, or_zero_r, and_le_r}
use lib.ListN.{get_or}
use lib.Pow.{pow_mono}
use borrow.Author.Tests.{lt-ltb, le-ltb}
use Rattle.mask.specs.Range.{some, first}
use Rattle.mask.specs.Mask.{bit, mask_of, rest}
use Rattle.mask.proofs.Logic.{same, clash, fails, by_lt}
use Rattle.mask.proofs.Range.{some_out, some_in}
use Rattle.mask.proofs.Bits.{bit_of_zero, bit_none, bit-bit_and, bit_ext, bit_high}
use Rattle.mask.proofs.Masks.{mask_of_or, mask_of_bits, mask_of_lt, bit-mask_of, or_assoc}
use Rattle.mask.proofs.Members.{some-rest}
use Rattle.game.specs.Problem.{Problem}
use Rattle.game.specs.Search.{handed, start_set}
use Rattle.solver_arrays.specs.Arrays.{States}
use Rattle.solver_arrays.specs.Words.{reason_in, why_in}
use Rattle.solver_arrays.proofs.WordLaws.{get_d_why_in}
use Rattle.search_words.specs.TurnSets.{joined_reasons, ReasonsBelow}
use Rattle.solver_arrays.specs.declared.arrays.Arrays.{Arrays}

-- What a turn hands up -------------------------------------------------------------------------------------------
-- All played variables, the members of e, and those of them in the set S.
module _ (d S e : ℕ) (h : d ≤ 32) (l : e < 2 ^ 32) (m : (k : ℕ) → bit e k ≡ ltb k d) where
  handed_lt : (p : ℕ → Bool) → mask_of d p < 2 ^ 32
  handed_lt p = let q = mask_of_lt d p in let r = pow_mono {i = d} {j = 32} h in omega arith

  pub handed_all : e ≡ handed false d S
  unfolding handed
  handed_all = bit_ext 32 e (mask_of d (λ j. not false || bit S j)) l (handed_lt _) λ k _. m k ∙ by_lt k d
      (λ q. lt-ltb k d q ∙ sym (bit-mask_of d (λ j. not false || bit S j) k q))
      (λ q. le-ltb k d q ∙ sym (bit_high d (mask_of d (λ j. not false || bit S j)) k (mask_of_lt d _) q))

  pub handed_those : bit_and S e ≡ handed true d S
  unfolding handed
  handed_those = bit_ext 32 (bit_and S e) (mask_of d (λ j. not true || bit S j)) (let q = and_le_r S e in omega arith) (handed_lt _) λ k _.
      bit-bit_and S e k ∙ ap (λ (b : Bool). bit S k && b) (m k) ∙ by_lt k d
      (λ q. rw (lt-ltb k d q) (and-true (bit S k) ∙ sym (bit-mask_of d (λ j. not true || bit S j) k q)))
      (λ q. rw (le-ltb k d q) (and-false (bit S k) ∙ sym (bit_high d (mask_of d (λ j. not true || bit S j)) k (mask_of_lt d _) q)))

-- The reasons of a mask's members, one by one ------------------------------------------------------------------
module _ (w : List ℕ) where
  -- A mask of 32 bits; none for no member; the reason of the lowest member and those of the rest.
  joined_lt : (m : ℕ) → joined_reasons m w < 2 ^ 32
  unfolding joined_reasons
  joined_lt m = mask_of_lt 32 _

  joined_none : joined_reasons 0 w ≡ 0
  unfolding joined_reasons
  joined_none =
      bit_none 32 _ (mask_of_lt 32 _) λ j l.
      bit-mask_of 32 _ j l ∙ fails λ t. let r = some_out 32 (bit 0) (λ k. bit (reason_in w k) j) t in clash (bit_of_zero r.0) r.2

  joined-rest : (m : ℕ) → m < 2 ^ 32 → ¬ (m ≡ 0) → reason_in w (first 32 (bit m)) < 2 ^ 32
      → joined_reasons m w ≡ bit_or (reason_in w (first 32 (bit m))) (joined_reasons (rest m) w)
  unfolding joined_reasons
  joined-rest m h z small =
      ap (mask_of 32) (fun_ext λ j. some-rest 32 m h z (λ k. bit (reason_in w k) j))
      ∙ sym (mask_of_or 32 (bit (reason_in w (first 32 (bit m)))) (λ j. some 32 (bit (rest m)) (λ k. bit (reason_in w k) j)))
      ∙ ap (λ x. bit_or x (mask_of 32 (λ j. some 32 (bit (rest m)) (λ k. bit (reason_in w k) j)))) (sym (mask_of_bits 32 _ small))

  -- One member more joined into what is gathered so far, and all gathered.
  pub joined_step : (m : ℕ) → m < 2 ^ 32 → ¬ (m ≡ 0) → (whole out k r m' : ℕ) → out < 2 ^ 32 → r < 2 ^ 32
      → k ≡ first 32 (bit m) → r ≡ reason_in w k → m' ≡ rest m
      → whole ≡ bit_or out (joined_reasons m w) → whole ≡ bit_or (bit_or out r) (joined_reasons m' w)
  joined_step m h z whole out k r m' o s p q e i =
      let here : r ≡ reason_in w (first 32 (bit m)) = q ∙ ap (reason_in w) p in
      i ∙ ap (bit_or out) (joined-rest m h z (subst (λ x. x < 2 ^ 32) here s))
      ∙ ap₂ (λ x y. bit_or out (bit_or x (joined_reasons y w))) (sym here) (sym e)
      ∙ sym (or_assoc 32 out r (joined_reasons m' w) o s (joined_lt m'))

  pub joined_end : (whole out m : ℕ) → m ≡ 0 → whole ≡ bit_or out (joined_reasons m w) → out ≡ whole
  joined_end whole out m z i = sym (i ∙ ap (λ x. bit_or out (joined_reasons x w)) z ∙ ap (bit_or out) joined_none ∙ or_zero_r out)

-- The reasons of the neighbours, in every problem that the arrays state ---------------------------------------
module _ (P : Problem) (n : ℕ) (A : Arrays) (st : States P n A) (w : List ℕ) (below : ReasonsBelow n w) (d : ℕ) (h : d < n) where
  size : P.n ≡ n
  size = st.size

  -- A neighbour is one of the n variables.
  near_lt : (k : ℕ) → T (bit (get_or A.near d 0) k) → k < n
  near_lt k t = by_lt k n (λ l. l) (λ l. absurd (clash (st.inside d k h l ∙ bit_of_zero k) t))

  -- A variable below n is in some reason of a neighbour in the words, as in the game; one from n on is in none.
  near_some : (j : ℕ) → some 32 (bit (get_or A.near d 0)) (λ k. bit (reason_in w k) j) ≡ some P.n (P.constrained d) (λ k. bit (get_or (why_in n w) k 0) j)
  near_some j =
      same (some 32 (bit (get_or A.near d 0)) (λ k. bit (reason_in w k) j)) (some P.n (P.constrained d) (λ k. bit (get_or (why_in n w) k 0) j))
      (λ t. let r = some_out 32 (bit (get_or A.near d 0)) (λ k. bit (reason_in w k) j) t in
      let l = near_lt r.0 r.2 in
      some_in P.n (P.constrained d) (λ k. bit (get_or (why_in n w) k 0) j) r.0 (omega (arith, size))
      (subst T (sym (st.joined d r.0 h l)) r.2) (subst (λ x. T (bit x j)) (sym (get_d_why_in n w r.0 l)) r.3))
      (λ t. let r = some_out P.n (P.constrained d) (λ k. bit (get_or (why_in n w) k 0) j) t in
      let l : r.0 < n = omega (arith, size, r.1) in
      let b = st.most in
      some_in 32 (bit (get_or A.near d 0)) (λ k. bit (reason_in w k) j) r.0 (omega (arith, l, b))
      (subst T (st.joined d r.0 h l) r.2) (subst (λ x. T (bit x j)) (get_d_why_in n w r.0 l) r.3))

  near_none : (j : ℕ) → n ≤ j → some 32 (bit (get_or A.near d 0)) (λ k. bit (reason_in w k) j) ≡ false
  near_none j l = fails λ t. let r = some_out 32 (bit (get_or A.near d 0)) (λ k. bit (reason_in w k) j) t in
      clash (bit_high n (reason_in w r.0) j (below r.0 (near_lt r.0 r.2)) l) r.3

  -- The joined reasons of the neighbours are the game's.
  near_is : joined_reasons (get_or A.near d 0) w ≡ mask_of P.n (λ j. some P.n (P.constrained d) (λ k. bit (get_or (why_in n w) k 0) j))
  unfolding joined_reasons
  near_is =
      let g : ℕ → Bool = λ j. some 32 (bit (get_or A.near d 0)) (λ k. bit (reason_in w k) j) in
      let f : ℕ → Bool = λ j. some P.n (P.constrained d) (λ k. bit (get_or (why_in n w) k 0) j) in
      let b = st.most in
      let p = pow_mono {i = P.n} {j = 32} (omega (arith, size, b)) in
      let q = mask_of_lt P.n f in
      bit_ext 32 (mask_of 32 g) (mask_of P.n f) (mask_of_lt 32 g) (omega (arith, p, q)) λ j l.
      bit-mask_of 32 g j l ∙ by_lt j P.n
      (λ m. near_some j ∙ sym (bit-mask_of P.n f j m))
      (λ m. near_none j (omega (arith, size, m)) ∙ sym (bit_high P.n (mask_of P.n f) j q m))

  -- What the conflict set of an existential turn starts with.
  start_is : (narrowed : Bool) (l e : List ℕ) → narrowed ≡ not (eqb (get_or e d 0) (get_or l d 0))
      → cond narrowed (bit_or (reason_in w d) (joined_reasons (get_or A.near d 0) w)) (reason_in w d) ≡ start_set P (why_in n w) l e d
  unfolding start_set
  start_is narrowed l e q = rw (near_is, q, get_d_why_in n w d h) (go _ _ (eqb (get_or e d 0) (get_or l d 0)))
    where
      go : (x y : ℕ) (b : Bool) → cond (not b) x y ≡ cond b y x
      go x y true = refl
      go x y false = refl

  -- The same for both ways of the code: the domain was narrowed, or not.
  pub start_wide : (l e : List ℕ) (narrowed : Bool) (own more : ℕ) → narrowed ≡ true → own ≡ reason_in w d → more ≡ joined_reasons (get_or A.near d 0) w
      → narrowed ≡ not (eqb (get_or e d 0) (get_or l d 0)) → bit_or own more ≡ start_set P (why_in n w) l e d
  start_wide l e narrowed own more t p q i = ap₂ bit_or p q ∙ start_is true l e (sym t ∙ i)

  pub start-own : (l e : List ℕ) (narrowed : Bool) (own : ℕ) → narrowed ≡ false → own ≡ reason_in w d
      → narrowed ≡ not (eqb (get_or e d 0) (get_or l d 0)) → own ≡ start_set P (why_in n w) l e d
  start-own l e narrowed own t p i = p ∙ start_is false l e (sym t ∙ i)
