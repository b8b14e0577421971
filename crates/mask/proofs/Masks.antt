-- Laws of masks: made of a test, and read back from one; empty; met with a complement.
use mathlib.Core.Path.{◌≡◌, refl, sym, ap, ap₂, ◌∙◌}
use mathlib.Core.Bool.{Bool, true, false, cond, not, ◌&&◌, ◌||◌, or-false, or-true}
use mathlib.Core.Bool.{and_assoc as Bool·and-assoc, or_assoc as Bool·or-assoc}
use Prim.Native.Nat.{ℕ, zero, suc, ◌-◌, ◌/◌, ◌%◌, ◌^◌, ◌<◌}
use native.Mathlib.Nat.{le_refl, pow-suc, lt_of_le_of_lt}
use native.Mathlib.Decide.{ℕ_discrete}
use native.Mathlib.Omega.{arith}
use lib.Dec.{eqb, eqb→eq}
use lib.Bits.{bit_and, bit_or, or_lt, xor_lt, and_le_l}
use lib.Pow.{pow-lt}
use borrow.Author.Tests.{eq-eqb, ne_eqb}
use Rattle.mask.specs.Range.{some, each}
use Rattle.mask.specs.Mask.{bit, mask_of, diff}
use Rattle.mask.proofs.Logic.{same, holds, true_holds, fails, clash, test, and_out, and_keep}
use Rattle.mask.proofs.Range.{some_out, some_in, each_out, each_in}
use Rattle.mask.proofs.Bits.{bit-bit_or, bit_single, bit_of_zero, bit_none, bit_high, bit_suc, bit_zero, bit_ext, bit-bit_and}

-- The bits of a mask that is made of a test.
pub mask_of_lt : (n : ℕ) (p : ℕ → Bool) → mask_of n p < 2 ^ n
unfolding mask_of
mask_of_lt zero p = le_refl 1
mask_of_lt (suc n) p = go (p n) (mask_of_lt n p)
  where
    go : (b : Bool) → mask_of n p < 2 ^ n → cond b (bit_or (mask_of n p) (2 ^ n)) (mask_of n p) < 2 ^ suc n
    go true h = let l : 2 ^ n < 2 ^ suc n = pow-lt (le_refl (suc n)) in or_lt (suc n) (mask_of n p) (2 ^ n) (omega arith) l
    go false h = let l : 2 ^ n < 2 ^ suc n = pow-lt (le_refl (suc n)) in omega arith

pub bit-mask_of : (n : ℕ) (p : ℕ → Bool) (k : ℕ) → k < n → bit (mask_of n p) k ≡ p k
unfolding mask_of
bit-mask_of zero p k h = absurd (omega arith)
bit-mask_of (suc n) p k h = go (ℕ_discrete k n) (p n) refl (λ l. bit-mask_of n p k l)
  where
    go : Dec (k ≡ n) → (b : Bool) → p n ≡ b → (k < n → bit (mask_of n p) k ≡ p k) → bit (cond b (bit_or (mask_of n p) (2 ^ n)) (mask_of n p)) k ≡ p k
    go (yes d) true e r = bit-bit_or (mask_of n p) (2 ^ n) k ∙ rw (bit_single n k, eq-eqb k n d, or-true (bit (mask_of n p) k)) (sym (ap p d ∙ e))
    go (yes d) false e r = bit_high n (mask_of n p) k (mask_of_lt n p) (omega arith) ∙ sym (ap p d ∙ e)
    go (no d) true e r = bit-bit_or (mask_of n p) (2 ^ n) k ∙ rw (bit_single n k, ne_eqb k n d, or-false (bit (mask_of n p) k)) (r (omega arith))
    go (no d) false e r = r (omega arith)

-- The complement within n places.
pub bit_not : (n w k : ℕ) → w < 2 ^ n → k < n → bit (2 ^ n - 1 - w) k ≡ not (bit w k)
bit_not zero w k h l = absurd (omega arith)
bit_not (suc n) w zero h l =
    bit_zero (2 ^ suc n - 1 - w) ∙ flip (w % 2) ((2 ^ suc n - 1 - w) % 2) (let p = pow-suc 2 n in omega arith) (let p = pow-suc 2 n in omega arith) ∙ sym (ap not (bit_zero w))
  where
    flip : (x y : ℕ) → x < 2 → y ≡ 1 - x → eqb y 1 ≡ not (eqb x 1)
    flip zero y h e = rw e refl
    flip (suc zero) y h e = rw e refl
    flip (suc (suc x)) y h e = absurd (omega arith)
bit_not (suc n) w (suc k) h l =
    bit_suc (2 ^ suc n - 1 - w) k ∙ ap (λ (m : ℕ). bit m k) half ∙ bit_not n (w / 2) k (let p = pow-suc 2 n in omega arith) (omega arith) ∙ sym (ap not (bit_suc w k))
  where
    half : (2 ^ suc n - 1 - w) / 2 ≡ 2 ^ n - 1 - w / 2
    half = let p = pow-suc 2 n in omega arith

-- Less is no wider.
pub diff_lt : (n m w : ℕ) → m < 2 ^ n → diff m w < 2 ^ n
unfolding diff
diff_lt n m w h = xor_lt n m (bit_and m w) h (lt_of_le_of_lt (and_le_l m w) h)

-- Masks made of tests: met, and made of a mask's own bits.
pub mask_of_and : (n : ℕ) (p q : ℕ → Bool) → bit_and (mask_of n p) (mask_of n q) ≡ mask_of n (λ (k : ℕ). p k && q k)
mask_of_and n p q =
    bit_ext n _ _ (lt_of_le_of_lt (and_le_l (mask_of n p) (mask_of n q)) (mask_of_lt n p)) (mask_of_lt n _) (λ k h.
    bit-bit_and (mask_of n p) (mask_of n q) k ∙ ap₂ ◌&&◌ (bit-mask_of n p k h) (bit-mask_of n q k h) ∙ sym (bit-mask_of n (λ (k : ℕ). p k && q k) k h))

pub mask_of_or : (n : ℕ) (p q : ℕ → Bool) → bit_or (mask_of n p) (mask_of n q) ≡ mask_of n (λ (k : ℕ). p k || q k)
mask_of_or n p q =
    bit_ext n _ _ (or_lt n (mask_of n p) (mask_of n q) (mask_of_lt n p) (mask_of_lt n q)) (mask_of_lt n _) (λ k h.
    bit-bit_or (mask_of n p) (mask_of n q) k ∙ ap₂ ◌||◌ (bit-mask_of n p k h) (bit-mask_of n q k h) ∙ sym (bit-mask_of n (λ (k : ℕ). p k || q k) k h))

-- Masks of tests that agree below n are equal.
pub mask_of_same : (n : ℕ) (p q : ℕ → Bool) → ((k : ℕ) → k < n → p k ≡ q k) → mask_of n p ≡ mask_of n q
mask_of_same n p q e = bit_ext n _ _ (mask_of_lt n p) (mask_of_lt n q) (λ k h. bit-mask_of n p k h ∙ e k h ∙ sym (bit-mask_of n q k h))

pub mask_of_bits : (n m : ℕ) → m < 2 ^ n → m ≡ mask_of n (bit m)
mask_of_bits n m h = bit_ext n m (mask_of n (bit m)) h (mask_of_lt n (bit m)) (λ k l. sym (bit-mask_of n (bit m) k l))

-- Three masks met, and joined, in either order.
pub and_assoc : (n a b c : ℕ) → a < 2 ^ n → bit_and (bit_and a b) c ≡ bit_and a (bit_and b c)
and_assoc n a b c h =
    bit_ext n (bit_and (bit_and a b) c) (bit_and a (bit_and b c)) (lt_of_le_of_lt (and_le_l (bit_and a b) c) (lt_of_le_of_lt (and_le_l a b) h)) (lt_of_le_of_lt (and_le_l a (bit_and b c)) h)
    λ k l. rw (bit-bit_and (bit_and a b) c k, bit-bit_and a b k, bit-bit_and a (bit_and b c) k, bit-bit_and b c k) (Bool·and-assoc (bit a k) (bit b k) (bit c k))

pub or_assoc : (n a b c : ℕ) → a < 2 ^ n → b < 2 ^ n → c < 2 ^ n → bit_or (bit_or a b) c ≡ bit_or a (bit_or b c)
or_assoc n a b c h k l =
    bit_ext n (bit_or (bit_or a b) c) (bit_or a (bit_or b c)) (or_lt n (bit_or a b) c (or_lt n a b h k) l) (or_lt n a (bit_or b c) h (or_lt n b c k l))
    λ v _. rw (bit-bit_or (bit_or a b) c v, bit-bit_or a b v, bit-bit_or a (bit_or b c) v, bit-bit_or b c v) (Bool·or-assoc (bit a v) (bit b v) (bit c v))

-- A mask of n places is empty where it holds nothing.
pub empty-some : (n m : ℕ) → m < 2 ^ n → eqb m 0 ≡ not (some n (bit m) (λ k. true))
empty-some n m h =
    test (some n (bit m) (λ k. true))
    (λ t. let w = some_out n (bit m) (λ k. true) t in rw (holds {b = some n (bit m) (λ k. true)} t) (ne_eqb m 0 (λ z. clash (ap (λ (x : ℕ). bit x w.0) z ∙ bit_of_zero w.0) w.2)))
    (λ e. rw e (eq-eqb m 0 (bit_none n m h (λ k l. fails λ t. clash e (some_in n (bit m) (λ k. true) k l t tt)))))

-- A mask of n places lies within w where its meet with w is itself, and in nothing where it is empty.
pub within-each : (n m w : ℕ) → m < 2 ^ n → eqb (bit_and m w) m ≡ each n (bit m) (bit w)
within-each n m w h =
    same (eqb (bit_and m w) m) (each n (bit m) (bit w))
    (λ t. each_in n (bit m) (bit w) λ k l b. (and_out (bit m k) (bit w k) (rw (← (bit-bit_and m w k), eqb→eq (bit_and m w) m t) b)).1)
    (λ t. true_holds (eq-eqb (bit_and m w) m (bit_ext n (bit_and m w) m (lt_of_le_of_lt (and_le_l m w) h) h λ k l. bit-bit_and m w k ∙ and_keep (bit m k) (bit w k) (each_out n (bit m) (bit w) t k l))))

pub empty-each : (n m : ℕ) → m < 2 ^ n → eqb m 0 ≡ each n (bit m) (λ k. false)
empty-each n m h =
    same (eqb m 0) (each n (bit m) (λ k. false))
    (λ t. each_in n (bit m) (λ k. false) λ k l b. clash (ap (λ (x : ℕ). bit x k) (eqb→eq m 0 t) ∙ bit_of_zero k) b)
    (λ t. true_holds (eq-eqb m 0 (bit_none n m h λ k l. fails (each_out n (bit m) (λ k. false) t k l))))
