-- The numbers of a constraint and all constraints, as the code puts them.
use Prim.Native.Nat.{ℕ, suc, ◌+◌, ◌*◌, ◌/◌, ◌%◌, ◌≤◌, ◌<◌}
use mathlib.Core.Path.{◌≡◌, refl, sym, ap, subst, ◌∙◌}
use mathlib.Core.Bool.{Bool, true, false}
use mathlib.Core.List.{List, [], ◌∷◌, ◌++◌, append-nil}
use native.Mathlib.Numerals.{add-one}
use native.Mathlib.Omega.{arith}
use lib.Bits.{bit_and}
use lib.Dec.{T}
use lib.ListN.{length, get_or, set, take, drop}
use lib.Seq.{take-append_seam}
use Rattle.mask.specs.Range.{count}
use Rattle.mask.specs.Mask.{bit}
use Rattle.mask.proofs.Logic.{holds, true_holds, and_out}
use Rattle.mask.proofs.Places.{count_in, count_out}
use Rattle.buffer.specs.Stored.{stored, joined}
use Rattle.buffer.proofs.StoredLaws.{stored_behind, stored-start, joined-stored, row_of_width, one_each}
use Rattle.buffer.proofs.ChosenLaws.{length_chosen}
use Rattle.file_layout.specs.Numbers.{in_order}
use Rattle.file_layout.proofs.NumberLaws.{constraints_most}
use Rattle.problem_theory.proofs.PairCount.{pairs_most, pair_few}
use Rattle.solver_arrays.specs.declared.arrays.Arrays.{Arrays}
use Rattle.solver_arrays.specs.Arrays.{row_in}
use Rattle.problem_writer.specs.Listing.{tied_in, row_within, numbers_in, is_pair_in, constraints_in, Lists}

module _ (A : Arrays) where
  -- A tie found on one side, or else sought on the other.
  pub tied_then : (i j : ℕ) {b : Bool} → b ≡ bit (get_or A.near i 0) j → b ≡ true → b ≡ tied_in A i j
  unfolding tied_in
  tied_then i j e t = rw (sym e ∙ t) t

  pub tied_else : (i j : ℕ) {b c : Bool} → b ≡ bit (get_or A.near i 0) j → b ≡ false → c ≡ bit (get_or A.near j 0) i → c ≡ tied_in A i j
  unfolding tied_in
  tied_else i j e f d = rw (sym e ∙ f) d

  -- A row of a value of the domain, and of another value.
  pub row_then : (i j a : ℕ) {b : Bool} {r m : ℕ} → b ≡ bit (get_or A.domains i 0) a → b ≡ true → r ≡ row_in A i a j → m ≡ bit_and r (get_or A.domains j 0) → m ≡ row_within A i j a
  unfolding row_within
  row_then i j a e t d q = rw (sym e ∙ t) (q ∙ ap (λ (x : ℕ). bit_and x (get_or A.domains j 0)) d)

  pub row_else : (i j a : ℕ) {b : Bool} → b ≡ bit (get_or A.domains i 0) a → b ≡ false → 0 ≡ row_within A i j a
  unfolding row_within
  row_else i j a e f = rw (sym e ∙ f) refl

  abbrev row_list : ℕ → ℕ → ℕ → List ℕ
  row_list i j a = row_within A i j a ∷ []

  -- One more row stored behind those before it.
  pub row_stored : (l : List ℕ) (p i j a : ℕ) → set (stored l p (joined (row_list i j) a)) (p + a) (row_within A i j a) ≡ stored l p (joined (row_list i j) (a + 1))
  unfolding stored
  row_stored l p i j a =
      let w = row_of_width (row_list i j) 1 (λ b. refl) p a in
      let e : p + a ≡ p + 1 * a = omega arith in
      rw (e, add-one) (joined-stored (row_list i j) p (λ b. p + 1 * b) a w l)

  -- A pair and its rows, stored one behind another.
  pub numbers_stored : (l : List ℕ) (p i j : ℕ) → stored (set (set l p i) (p + 1) j) (p + 2) (joined (row_list i j) 16) ≡ stored l p (numbers_in A i j)
  unfolding numbers_in stored
  numbers_stored l p i j = let e : p + 2 ≡ suc (suc p) = omega arith in rw (e, add-one) refl

  length_numbers : (i j : ℕ) → length (numbers_in A i j) ≡ 18
  unfolding numbers_in
  length_numbers i j = omega (arith, one_each (row_within A i j) 16)

  -- One more pair: with a constraint, and without.
  constraints_more : (x : ℕ) → T (is_pair_in A x) → constraints_in A (suc x) ≡ constraints_in A x ++ numbers_in A (x / 32) (x % 32)
  unfolding constraints_in joined
  constraints_more x t = let e : is_pair_in A x ≡ true = holds t in rw e refl

  constraints_kept : (x : ℕ) → is_pair_in A x ≡ false → constraints_in A (suc x) ≡ constraints_in A x
  unfolding constraints_in joined
  constraints_kept x e = rw e (append-nil _)

  -- 18 numbers for each constraint.
  length_constraints : (x : ℕ) → length (constraints_in A x) ≡ 18 * count x (is_pair_in A)
  unfolding constraints_in
  length_constraints x = length_chosen 18 (is_pair_in A) (λ y. numbers_in A (y / 32) (y % 32)) (λ y. length_numbers (y / 32) (y % 32)) x

  -- What is listed of the pairs below x: t constraints, put at the start of l.
  pub record ListedBelow (l : List ℕ) (x t : ℕ) (l' : List ℕ) : Type 0 where
    pub numbers : l' ≡ stored l 0 (constraints_in A x)
    pub count : t ≡ count x (is_pair_in A)

  pub listed_none : (l : List ℕ) → ListedBelow l 0 0 l
  unfolding constraints_in joined stored count
  listed_none l = record { numbers = refl; count = refl }

  pub listed_more : {l l' l'' : List ℕ} {x t u : ℕ} → ListedBelow l x t l' → is_pair_in A x ≡ true → u ≡ t + 1
      → l'' ≡ stored l' (18 * t) (numbers_in A (x / 32) (x % 32)) → ListedBelow l (x + 1) u l''
  listed_more {l} {l'} {l''} {x} {t} {u} b e z q =
      rw add-one (
      record {
        numbers =
            q
            ∙ ap (λ (y : List ℕ). stored y (18 * t) (numbers_in A (x / 32) (x % 32))) b.numbers
            ∙ stored_behind (constraints_in A x) (numbers_in A (x / 32) (x % 32)) l (18 * t) (omega (arith, length_constraints x, b.count))
            ∙ ap (stored l 0) (sym (constraints_more x (true_holds e)));
        count = omega (arith, z, b.count, count_in x (is_pair_in A) (true_holds e));
      })

  pub listed_kept : {l l' l'' : List ℕ} {x t u : ℕ} → ListedBelow l x t l' → is_pair_in A x ≡ false → u ≡ t → l'' ≡ l' → ListedBelow l (x + 1) u l''
  listed_kept {l} {x = x} b e z q =
      rw add-one (record { numbers = q ∙ b.numbers ∙ ap (stored l 0) (sym (constraints_kept x e)); count = z ∙ b.count ∙ sym (count_out x (is_pair_in A) e) })

  -- A pair with a constraint is in order, so fewer than 496 of them stand below one.
  in_order_of : (x : ℕ) → T (is_pair_in A x) → T (in_order (x / 32) (x % 32) A.n)
  unfolding is_pair_in
  in_order_of x t = (and_out (in_order (x / 32) (x % 32) A.n) (tied_in A (x / 32) (x % 32)) t).0

  pub listed_few : {l l' : List ℕ} {x t : ℕ} → ListedBelow l x t l' → x < 32 * A.n → is_pair_in A x ≡ true → t < 496
  listed_few {x = x} b h e = omega (arith, b.count, pair_few A.n (is_pair_in A) A.most in_order_of x h (true_holds e))

  -- No more than 496 are listed.
  listed_most : count (32 * A.n) (is_pair_in A) ≤ 496
  listed_most = constraints_most A.n _ (record { some = A.some; most = A.most; pairs = pairs_most A.n (is_pair_in A) A.most in_order_of })

  -- All are listed.
  pub listed_all : {l l' : List ℕ} {x t : ℕ} → x ≡ 32 * A.n → ListedBelow l x t l' → Lists A t l l'
  listed_all {l} {l'} {x} {t} y b = let b' = subst (λ k. ListedBelow l k t l') y b in record { counted = b'.count; listed = b'.numbers }

-- Their numbers lie within the list, and at its front.
pub listed_fits : {A : Arrays} {t : ℕ} {l l' : List ℕ} → Lists A t l l' → 18 * t ≤ 8928
listed_fits {A} w = omega (arith, w.counted, listed_most A)

pub listed_front : {A : Arrays} {t : ℕ} (l l' : List ℕ) → length l ≡ 8928 → Lists A t l l' → take (18 * t) l' ≡ constraints_in A (32 * A.n)
listed_front {A} {t} l l' z w =
    let c = constraints_in A (32 * A.n) in
    let e : length c ≡ 18 * t = omega (arith, length_constraints A (32 * A.n), w.counted) in
    ap (take (18 * t)) (w.listed ∙ stored-start c l (omega (arith, e, z, listed_fits w)))
    ∙ ap (λ k. take k (c ++ drop (length c) l)) (sym e)
    ∙ take-append_seam c (drop (length c) l)
