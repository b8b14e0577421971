-- The first clash of all, in a problem that the arrays state, is its first broken constraint.
use mathlib.Core.Path.{◌≡◌, refl, sym, ap, ap₂, subst, ◌∙◌}
use mathlib.Core.Bool.{Bool, true, false, cond, not, ◌&&◌, ◌||◌, and-false}
use mathlib.Core.List.{List}
use Prim.Native.Nat.{ℕ, ◌+◌, ◌^◌, ◌<◌}
use native.Mathlib.Omega.{arith}
use lib.Dec.{T, eqb, ltb, ltb→lt}
use lib.Pow.{pow-lt}
use lib.Bits.{bit_and, bit_or, and_le_r}
use lib.ListN.{get_or}
use borrow.Author.Tests.{eq-eqb, ne_eqb, lt-ltb, not-false}
use Rattle.std.specs.Prelude.{None, Some}
use Rattle.mask.specs.Range.{some, each, first}
use Rattle.mask.specs.Mask.{bit, above}
use Rattle.mask.proofs.Logic.{holds, fails, true_holds, clash, test, by_eq, by_lt, and_in, and_out}
use Rattle.mask.proofs.Range.{each_in, each_out, some_in, some_out, first_of, first_least, first_is}
use Rattle.mask.proofs.Bits.{bit-bit_and, bit-bit_or, bit_single, bit_of_zero, bit_none}
use Rattle.mask.proofs.Members.{bit-above}
use Rattle.game.specs.Problem.{Problem}
use Rattle.game.specs.Game.{satisfied}
use Rattle.game.specs.Position.{play_of}
use Rattle.game.specs.Search.{broken, first_broken}
use Rattle.solver_arrays.specs.Arrays.{row_in, States}
use Rattle.search_leaf.specs.Leaf.{clashes, first_clash, Plays, broken_mask}
use Rattle.search_leaf.proofs.LeafWords.{value_of_play}
use Rattle.solver_arrays.specs.declared.arrays.Arrays.{Arrays}

-- A mask misses a value where it does not hold it.
missing : (r b : ℕ) → eqb (bit_and r (2 ^ b)) 0 ≡ not (bit r b)
missing r b =
    test (bit r b)
    (λ t. rw (holds {b = bit r b} t) (ne_eqb (bit_and r (2 ^ b)) 0 λ z.
    clash (sym (bit-bit_and r (2 ^ b) b) ∙ ap (λ x. bit x b) z ∙ bit_of_zero b) (and_in (bit r b) (bit (2 ^ b) b) t (true_holds (bit_single b b ∙ eq-eqb b b refl)))))
    (λ e. rw e (eq-eqb (bit_and r (2 ^ b)) 0 (bit_none (b + 1) (bit_and r (2 ^ b)) bound λ k l. bit-bit_and r (2 ^ b) k ∙ ap (λ x. bit r k && x) (bit_single b k) ∙ off k e)))
  where
    bound : bit_and r (2 ^ b) < 2 ^ (b + 1)
    bound = let l : 2 ^ b < 2 ^ (b + 1) = pow-lt (omega arith) in let m = and_le_r r (2 ^ b) in omega arith

    off : (k : ℕ) → bit r b ≡ false → (bit r k && eqb k b) ≡ false
    off k e = by_eq k b (λ d. rw (d, e)) (λ d. ap (λ x. bit r k && x) (ne_eqb k b d) ∙ and-false (bit r k))

-- The two variables of a broken constraint are not nothing.
pub broken-some : (P : Problem) (p : List ℕ) → ¬ (first_broken P p ≡ 0)
unfolding first_broken
broken-some P p z =
    let x = first P.n (λ x. some P.n (λ y. true) (broken P p x)) in
    let y = first P.n (broken P p x) in
    clash (sym (ap (λ b. b || bit (2 ^ y) x) (bit_single x x ∙ eq-eqb x x refl)) ∙ sym (bit-bit_or (2 ^ x) (2 ^ y) x) ∙ ap (λ m. bit m x) z ∙ bit_of_zero x) tt

module _ (P : Problem) (n : ℕ) (A : Arrays) (S : States P n A) (w p : List ℕ) (Q : Plays n w p) where
  -- The test of x against y in the arrays.
  abbrev breaks : ℕ → ℕ → Bool
  breaks x y = bit (above (get_or A.near x 0) x) y && clashes A w x y

  clash_is : (x y : ℕ) → x < n → y < n → clashes A w x y ≡ not (P.compatible x (get_or p x 0) y (get_or p y 0))
  unfolding clashes
  clash_is x y h l =
      ap₂ (λ a m. eqb (bit_and (row_in A x a y) m) 0) (value_of_play n w p Q x h) (Q.word y l)
      ∙ missing (row_in A x (get_or p x 0) y) (get_or p y 0)
      ∙ ap not (sym (S.row x (get_or p x 0) y (get_or p y 0) h (Q.small x h) l (Q.small y l)))

  -- It is the test of the constraint, since free pairs are compatible; and no variable stands beyond n.
  breaks_is : (x y : ℕ) → x < n → y < n → breaks x y ≡ broken P p x y
  unfolding broken
  breaks_is x y h l =
      ap₂ ◌&&◌ (bit-above (get_or A.near x 0) x y ∙ ap (λ b. b && ltb x y) (sym (S.joined x y h l))) (clash_is x y h l)
      ∙ test (P.constrained x y)
      (λ t. ap (λ b. (b && ltb x y) && not (P.compatible x (get_or p x 0) y (get_or p y 0))) (holds {b = P.constrained x y} t))
      (λ e. ap₂ (λ b f. (b && ltb x y) && not f) e (goes e) ∙ off (ltb x y) ∙ ap (λ f. ltb x y && not f) (sym (goes e)))
    where
      goes : P.constrained x y ≡ false → P.compatible x (get_or p x 0) y (get_or p y 0) ≡ true
      goes e = holds (P.free x y e (get_or p x 0) (get_or p y 0))

      off : (b : Bool) → false ≡ (b && false)
      off true = refl
      off false = refl

  breaks-within : (x y : ℕ) → x < n → T (breaks x y) → y < n
  breaks-within x y h t =
      by_lt y n (λ l. l) λ l.
      absurd (clash (bit-above (get_or A.near x 0) x y ∙ ap (λ b. b && ltb x y) (S.inside x y h l ∙ bit_of_zero y)) (and_out (bit (above (get_or A.near x 0) x) y) (clashes A w x y) t).0)

  -- A variable with a clash has a broken constraint, the first at that clash; one without has none.
  module _ (x : ℕ) (h : x < n) where
    clash_least : (j : ℕ) → j < first_clash A w x → j < n → broken P p x j ≡ false
    unfolding first_clash
    clash_least j l k = sym (breaks_is x j h k) ∙ first_least 32 (breaks x) j l

    clash-broken : first_clash A w x < 32 → (first_clash A w x < n) × T (broken P p x (first_clash A w x))
    unfolding first_clash
    clash-broken l =
        let y = first 32 (breaks x) in
        let t = first_of 32 (breaks x) l in
        let k = breaks-within x y h t in
        (k, subst T (breaks_is x y h k) t)

    none_broken : ¬ (first_clash A w x < 32) → some P.n (λ y. true) (broken P p x) ≡ false
    none_broken o = fails λ t.
        let r = some_out P.n (λ y. true) (broken P p x) t in
        let k : r.0 < n = omega (arith, r.1, S.size) in
        let m = S.most in
        clash (clash_least r.0 (omega arith) k) r.3

  -- A play with a broken constraint is not satisfied; one without is.
  unsatisfied : (x y : ℕ) → y < n → T (broken P p x y) → satisfied P.compatible n (play_of p) ≡ false
  unfolding satisfied broken play_of
  unsatisfied x y k b =
      let q = and_out (ltb x y) (not (P.compatible x (get_or p x 0) y (get_or p y 0))) b in
      fails λ t.
      let s = each_out n (λ i. true) (λ i. each i (λ j. true) (λ j. P.compatible j (get_or p j 0) i (get_or p i 0))) t y k tt in
      let c : P.compatible x (get_or p x 0) y (get_or p y 0) ≡ true = holds (each_out y (λ j. true) (λ j. P.compatible j (get_or p j 0) y (get_or p y 0)) s x (ltb→lt x y q.0) tt) in
      clash (ap not c) q.1

  satisfied_all : ((x y : ℕ) → x < n → y < n → broken P p x y ≡ false) → T (satisfied P.compatible n (play_of p))
  unfolding satisfied broken play_of
  satisfied_all f =
      each_in n (λ i. true) (λ i. each i (λ j. true) (λ j. P.compatible j (get_or p j 0) i (get_or p i 0))) λ y k _.
      each_in y (λ j. true) (λ j. P.compatible j (get_or p j 0) y (get_or p y 0)) λ x l _.
      true_holds (not-false (P.compatible x (get_or p x 0) y (get_or p y 0)) (ap (λ b. b && not (P.compatible x (get_or p x 0) y (get_or p y 0))) (sym (lt-ltb x y l)) ∙ f x y (omega arith) k))

  -- What the loop has passed: variables without a clash.
  abbrev Passed : ℕ → Type 0
  Passed x = (k : ℕ) → k < x → ¬ (first_clash A w k < 32)

  -- The first variable with a clash: the play is not satisfied, and these are the two variables.
  pub told-broken :
      (x y : ℕ) → x < n → Passed x → y ≡ first_clash A w x → y < 32
      → Some (bit_or (2 ^ x) (2 ^ y)) ≡ broken_mask P n p
  unfolding first_broken
  told-broken x y h o e l =
      let r = clash-broken x h (omega arith) in
      let k : y < n = omega (arith, r.0) in
      let b : T (broken P p x y) = subst (λ z. T (broken P p x z)) (sym e) r.1 in
      let z = S.size in
      let f : first P.n (broken P p x) ≡ y = first_is P.n (broken P p x) y (omega arith) b (λ j q. clash_least x h j (omega arith) (omega arith)) in
      let g : first P.n (λ x. some P.n (λ y. true) (broken P p x)) ≡ x =
      first_is P.n (λ x. some P.n (λ y. true) (broken P p x)) x (omega arith) (some_in P.n (λ y. true) (broken P p x) y (omega arith) tt b)
      (λ j q. none_broken j (omega arith) (o j q)) in
      sym (ap (λ s. cond s None (Some (first_broken P p))) (unsatisfied x y k b)
      ∙ ap (λ x. Some (bit_or (2 ^ x) (2 ^ first P.n (broken P p x)))) g ∙ ap (λ y. Some (bit_or (2 ^ x) (2 ^ y))) f)

  -- No variable has one.
  pub told_none : Passed n → None ≡ broken_mask P n p
  told_none o =
      let s : satisfied P.compatible n (play_of p) ≡ true = holds (satisfied_all λ x y h k. clash_least x h y (let m = S.most in let q = o x h in omega arith) k) in
      sym (ap (λ s. cond s None (Some (first_broken P p))) s)
