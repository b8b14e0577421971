-- The words that a list goes into, and the tests of a call.
use mathlib.Core.Path.{◌≡◌, refl, sym, ap, ap₂, ◌∙◌}
use mathlib.Core.Bool.{Bool, true, false, not, ◌&&◌}
use mathlib.Core.List.{List}
use mathlib.Core.Logic.{◌⊎◌, ⊎_elim}
use Prim.Native.Nat.{ℕ, ◌+◌, ◌-◌, ◌≤◌, ◌<◌}
use native.Mathlib.Omega.{arith}
use lib.Dec.{T, eqb, ltb}
use lib.ListN.{get_or, get_or-append, get_or-eq_default, length, length-append, length-replicate, take}
use lib.Seq.{ext_get_or, get_or-take, length-take-le}
use borrow.Author.Tests.{eqb-true, eqb-false, ltb-true, not-true, lt-ltb, le-ltb, eq-eqb, ne_eqb}
use Rattle.mask.specs.Range.{each}
use Rattle.mask.specs.Mask.{bit}
use Rattle.mask.proofs.Logic.{holds, true_holds}
use Rattle.mask.proofs.Range.{each_out, each_eq}
use Rattle.mask.proofs.Bits.{bit_of_zero}
use Rattle.refusal.specs.declared.reason.Reason.TheVariants.{Value, Variable, Lent}
use Rattle.refusal.specs.Chain.{Fine, need}
use Rattle.refusal.proofs.Chain.{then_fine, need_fine, both_true}
use Rattle.game.specs.Problem.{Problem}
use Rattle.game.specs.Lists.{domains, within, may_lend}
use Rattle.solver_arrays.specs.Arrays.{Poses}
use Rattle.solver_arrays.specs.Words.{list_in, Nonzero}
use Rattle.solver_arrays.proofs.PosedLaws.{posed_domain}
use Rattle.solver_arrays.proofs.WordLaws.{length-list_in, get_d_list_in}
use Rattle.rule_lend.specs.Lend.{mask_fits, fits_at, lendable, value_in, list_test, variable_test, value_test, words_for}
use Rattle.solver_arrays.specs.declared.arrays.Arrays.{Arrays}

-- ---- the words of a turn

-- The first n words are the list that they hold.
pub front_in : (n : ℕ) (w : List ℕ) → n ≤ length w → take n w ≡ list_in n w
front_in n w h =
    ext_get_or 0 (take n w) (list_in n w) (length-take-le n w h ∙ sym (length-list_in n w))
    (λ i b. let e = length-take-le n w h in get_or-take n w i 0 (omega arith) ∙ sym (get_d_list_in n w i (omega arith)))

-- The words of a list w: they hold it, they are long enough, and none is zero where none of the list is.
pub words_hold : (n : ℕ) (l w : List ℕ) → w ≡ words_for l → length l ≡ n → list_in n w ≡ l
unfolding words_for
words_hold n l w e h =
    ext_get_or 0 (list_in n w) l (length-list_in n w ∙ sym h)
    (λ i b. let s = length-list_in n w in get_d_list_in n w i (omega arith) ∙ ap (λ (v : List ℕ). get_or v i 0) e ∙ get_or-append l _ 0 i (omega arith))

pub words_long : (n : ℕ) (l w : List ℕ) → w ≡ words_for l → length l ≡ n → n ≤ 32 → 96 ≤ length w
unfolding words_for
words_long n l w e h b = omega (arith, ap length e ∙ length-append l _ ∙ ap (λ (k : ℕ). length l + k) (length-replicate {A = ℕ} (128 - length l) 0))

pub words_nonzero : (n : ℕ) (l w : List ℕ) → w ≡ words_for l → length l ≡ n → Nonzero n l → Nonzero n w
unfolding words_for
words_nonzero n l w e h z i b q = z i b (sym (ap (λ (v : List ℕ). get_or v i 0) e ∙ get_or-append l _ 0 i (omega arith)) ∙ q)

-- ---- the tests

-- A value of a variable; no value of any, and a value of no variable.
pub value_at_lem : (l : List ℕ) (x a : ℕ) (r : Bool) → a < 16 → r ≡ bit (get_or l x 0) a → r ≡ value_in l x a
unfolding value_in domains
value_at_lem l x a r h e = rw (lt-ltb a 16 h) e

pub no_value : (l : List ℕ) (x a : ℕ) (r : Bool) → r ≡ false → ((a < 16) × (length l ≤ x)) ⊎ (16 ≤ a) → r ≡ value_in l x a
unfolding value_in
no_value l x a r e h =
    ⊎_elim
    (λ b. value_at_lem l x a r b.0 (e ∙ sym (ap (λ (m : ℕ). bit m a) (get_or-eq_default l 0 {n = x} b.1) ∙ bit_of_zero a)))
    (λ b. rw (le-ltb a 16 b) e)
    h

-- A list of another length may not be lent; one of n masks goes by them.
pub not-lendable : (n : ℕ) (D l : List ℕ) (r : Bool) → ¬ (length l ≡ n) → r ≡ false → r ≡ lendable n D l
unfolding lendable
not-lendable n D l r h e = rw (ne_eqb (length l) n h) e

pub lendable_by : (n : ℕ) (D l : List ℕ) (r : Bool) → length l ≡ n → r ≡ each n (λ i. true) (fits_at D l) → r ≡ lendable n D l
unfolding lendable
lendable_by n D l r h e = rw (eq-eqb (length l) n h) e

-- Domains that agree on the n variables fit the same lists.
fits_same : (n : ℕ) (D E l : List ℕ) → ((i : ℕ) → i < n → get_or D i 0 ≡ get_or E i 0) → lendable n D l ≡ lendable n E l
unfolding lendable
fits_same n D E l h = ap (λ b. eqb (length l) n && b) (each_eq n (λ i. true) (fits_at D l) (fits_at E l) (λ i b. ap (mask_fits (get_or l i 0)) (h i b)))

lend_is : (P : Problem) (l : List ℕ) → may_lend P l ≡ lendable P.n P.domain l
unfolding may_lend lendable mask_fits
lend_is P l = refl

module _ (P : Problem) (A : Arrays) (l : List ℕ) (h : Poses P A) where
  -- The file's masks test a list as the problem does.
  pub lend_same : lendable A.n A.domains l ≡ may_lend P l
  lend_same =
      sym (fits_same A.n P.domain A.domains l (posed_domain P A h))
      ∙ ap (λ (k : ℕ). lendable k P.domain l) (sym h.states.size)
      ∙ sym (lend_is P l)

  pub may_lend_lem : list_test (lendable A.n A.domains l) ≡ Fine → T (may_lend P l)
  unfolding list_test
  may_lend_lem e = true_holds (sym lend_same ∙ need_fine (lendable A.n A.domains l) Lent e)

  pub list_same : list_test (lendable A.n A.domains l) ≡ list_test (may_lend P l)
  list_same = ap list_test lend_same

  pub variable_same : (x : ℕ) → variable_test (lendable A.n A.domains l) A.n x ≡ variable_test (may_lend P l) P.n x
  variable_same x = ap₂ (λ b k. variable_test b k x) lend_same (sym h.states.size)

  pub value_same : (x a : ℕ) → value_test (lendable A.n A.domains l) A.n l x a ≡ value_test (may_lend P l) P.n l x a
  value_same x a = ap₂ (λ b k. value_test b k l x a) lend_same (sym h.states.size)

-- What a list that may be lent is.
pub record LentList (n : ℕ) (l : List ℕ) : Type 0 where
  pub size : length l ≡ n
  pub some : (i : ℕ) → i < n → ¬ (get_or l i 0 ≡ 0)

pub lent : (n : ℕ) (D l : List ℕ) → lendable n D l ≡ true → LentList n l
unfolding lendable mask_fits
lent n D l e =
    let b = both_true (eqb (length l) n) (each n (λ i. true) (fits_at D l)) e in
    record {
      size = eqb-true (length l) n b.0;
      some = λ i h.
          let t = each_out n (λ i. true) (fits_at D l) (true_holds b.1) i h tt in
          eqb-false (get_or l i 0) 0 (not-true (eqb (get_or l i 0) 0) (both_true (not (eqb (get_or l i 0) 0)) (within (get_or l i 0) (get_or D i 0)) (holds t)).0);
    }

-- Tests that are fine.
pub list_fine : (n : ℕ) (D l : List ℕ) → list_test (lendable n D l) ≡ Fine → LentList n l
unfolding list_test
list_fine n D l e = lent n D l (need_fine (lendable n D l) Lent e)

pub variable_fine : (n : ℕ) (D l : List ℕ) (x : ℕ) → variable_test (lendable n D l) n x ≡ Fine → LentList n l × (x < n)
unfolding variable_test
variable_fine n D l x e =
    let b = then_fine (list_test (lendable n D l)) (need (ltb x n) Variable) e in
    (list_fine n D l b.0, ltb-true x n (need_fine (ltb x n) Variable b.1))

pub value_fine : (n : ℕ) (D l : List ℕ) (x a : ℕ) → value_test (lendable n D l) n l x a ≡ Fine → LentList n l × (x < n) × (a < 16)
unfolding value_test value_in
value_fine n D l x a e =
    let b = then_fine (variable_test (lendable n D l) n x) (need (ltb a 16 && domains l x a) Value) e in
    let v = variable_fine n D l x b.0 in
    (v.0, v.1, ltb-true a 16 (both_true (ltb a 16) (domains l x a) (need_fine (ltb a 16 && domains l x a) Value b.1)).0)
