-- Laws of `bit`: each stated once, for every number, place and width. An operation on numbers is the operation on bits at each place;
-- numbers with the same bits are equal; `ones` counts the bits and `count_trailing_zeros` finds the lowest.
use mathlib.Core.Path.{◌≡◌, refl, sym, ap, ap₂, ◌∙◌, fun_ext}
use mathlib.Core.Bool.{Bool, true, false, cond, not, ◌&&◌, ◌||◌}
use Prim.Native.Nat.{ℕ, zero, suc, ◌+◌, ◌*◌, ◌/◌, ◌%◌, ◌^◌, ◌≤◌, ◌<◌, min, max}
use native.Mathlib.Nat.{le_of_suc-le-suc, not-suc-le-zero, mod-lt, zero-lt-suc, div-one, pow-suc, div-div-eq-div-mul, mul_comm, zero-div, add_comm, one-mul}
use native.Mathlib.Omega.{arith}
use lib.Arith.{digits_mod, lt-one}
use lib.Pow.{pow_pos, shl_exact}
use lib.Dec.{eqb, eqb-zero-suc, eqb-suc-zero, eqb-suc-suc}
use lib.Bits.{bit_and, bit_or, bit_xor, differ, and_step, or_step, xor_step, and_shr, or_shr, xor_shr}
use lib.Count.{ones, ones_step, count_trailing_zeros, under}
use Rattle.mask.specs.Range.{count, first}
use Rattle.mask.specs.Mask.{bit, diff}

two_pos : zero < 2
two_pos = zero-lt-suc 1

-- what holds at 0 and at 1 holds of every digit
two : (P : ℕ → Type 0) → P 0 → P 1 → (x : ℕ) → x < 2 → P x
two P p q zero h = p
two P p q (suc zero) h = q
two P p q (suc (suc x)) h = absurd (not-suc-le-zero (le_of_suc-le-suc (le_of_suc-le-suc h)))

-- one argument for each operation: its digits are f of the digits, and f on digits is g on bits
module _ (op f : ℕ → ℕ → ℕ) (g : Bool → Bool → Bool)
    (shr : (a b k : ℕ) → op a b / 2 ^ k ≡ op (a / 2 ^ k) (b / 2 ^ k))
    (step : (a b : ℕ) → op a b ≡ op (a / 2) (b / 2) * 2 + f (a % 2) (b % 2))
    (small : (x y : ℕ) → x < 2 → y < 2 → f x y < 2)
    (digit : (x y : ℕ) → x < 2 → y < 2 → eqb (f x y) 1 ≡ g (eqb x 1) (eqb y 1)) where
  bit_op : (a b k : ℕ) → bit (op a b) k ≡ g (bit a k) (bit b k)
  unfolding bit
  bit_op a b k =
      let x = a / 2 ^ k in
      let y = b / 2 ^ k in
      ap (λ (n : ℕ). eqb (n % 2) 1) (shr a b k ∙ step x y)
      ∙ ap (λ (n : ℕ). eqb n 1) (digits_mod (op (x / 2) (y / 2)) (small (x % 2) (y % 2) (mod-lt x two_pos) (mod-lt y two_pos)))
      ∙ digit (x % 2) (y % 2) (mod-lt x two_pos) (mod-lt y two_pos)

pair : (P : ℕ → ℕ → Type 0) → P 0 0 → P 0 1 → P 1 0 → P 1 1 → (x y : ℕ) → x < 2 → y < 2 → P x y
pair P a b c d x y h l = two (λ (x : ℕ). P x y) (two (P 0) a b y l) (two (P 1) c d y l) x h

one_lt : 1 < 2
one_lt = omega arith

pub bit-bit_and : (a b k : ℕ) → bit (bit_and a b) k ≡ bit a k && bit b k
bit-bit_and = bit_op bit_and min ◌&&◌ and_shr and_step (pair (λ (x y : ℕ). min x y < 2) two_pos two_pos two_pos one_lt) (pair (λ (x y : ℕ). eqb (min x y) 1 ≡ eqb x 1 && eqb y 1) refl refl refl refl)

pub bit-bit_or : (a b k : ℕ) → bit (bit_or a b) k ≡ bit a k || bit b k
bit-bit_or = bit_op bit_or max ◌||◌ or_shr or_step (pair (λ (x y : ℕ). max x y < 2) two_pos one_lt one_lt one_lt) (pair (λ (x y : ℕ). eqb (max x y) 1 ≡ eqb x 1 || eqb y 1) refl refl refl refl)

abbrev unlike : Bool → Bool → Bool
unlike true b = not b
unlike false b = b

bit-bit_xor : (a b k : ℕ) → bit (bit_xor a b) k ≡ unlike (bit a k) (bit b k)
bit-bit_xor = bit_op bit_xor differ unlike xor_shr xor_step (pair (λ (x y : ℕ). differ x y < 2) two_pos one_lt one_lt two_pos) (pair (λ (x y : ℕ). eqb (differ x y) 1 ≡ unlike (eqb x 1) (eqb y 1)) refl refl refl refl)

unlike_and : (a b : Bool) → unlike a (a && b) ≡ a && not b
unlike_and true b = refl
unlike_and false b = refl

pub bit-diff : (m w k : ℕ) → bit (diff m w) k ≡ bit m k && not (bit w k)
unfolding diff
bit-diff m w k = bit-bit_xor m (bit_and m w) k ∙ ap (unlike (bit m k)) (bit-bit_and m w k) ∙ unlike_and (bit m k) (bit w k)

-- the lowest place, and the places above it
pub bit_zero : (m : ℕ) → bit m 0 ≡ eqb (m % 2) 1
unfolding bit
bit_zero m = ap (λ (n : ℕ). eqb (n % 2) 1) (div-one m)

pub bit_suc : (m k : ℕ) → bit m (suc k) ≡ bit (m / 2) k
unfolding bit
bit_suc m k = ap (λ (n : ℕ). eqb (n % 2) 1) (ap (λ (n : ℕ). m / n) (pow-suc 2 k ∙ mul_comm (2 ^ k) 2) ∙ sym (div-div-eq-div-mul m 2 (2 ^ k)))

pub bit_of_zero : (k : ℕ) → bit 0 k ≡ false
unfolding bit
bit_of_zero k = ap (λ (n : ℕ). eqb (n % 2) 1) (zero-div (2 ^ k))

-- a power of two is a set of one member
pub bit_single : (j k : ℕ) → bit (2 ^ j) k ≡ eqb k j
bit_single zero zero = bit_zero 1
bit_single zero (suc k) = bit_suc 1 k ∙ bit_of_zero k ∙ sym (eqb-suc-zero k)
bit_single (suc j) zero = bit_zero (2 ^ suc j) ∙ ap (λ (n : ℕ). eqb n 1) (even j) ∙ sym (eqb-zero-suc j)
  where
    even : (j : ℕ) → 2 ^ suc j % 2 ≡ 0
    even j = rw pow-suc (omega arith)
bit_single (suc j) (suc k) = bit_suc (2 ^ suc j) k ∙ ap (λ (n : ℕ). bit n k) (half j) ∙ bit_single j k ∙ sym (eqb-suc-suc k j)
  where
    half : (j : ℕ) → 2 ^ suc j / 2 ≡ 2 ^ j
    half j = rw pow-suc (omega arith)

-- two numbers of n places with the same bits are equal
digit_eq : (x y : ℕ) → x < 2 → y < 2 → eqb x 1 ≡ eqb y 1 → x ≡ y
digit_eq = pair (λ (x y : ℕ). eqb x 1 ≡ eqb y 1 → x ≡ y) (λ e. refl) (λ e. absurd (no (sym e))) (λ e. absurd (no e)) (λ e. refl)
  where
    no : true ≡ false → ⊥
    no e = let z : ◌≡◌ {A = ℕ} 0 1 = cc in omega arith

half_lt : {m : ℕ} (n : ℕ) → m < 2 ^ suc n → m / 2 < 2 ^ n
half_lt n h = let l = rw pow-suc at h in omega arith

pub bit_ext : (n a b : ℕ) → a < 2 ^ n → b < 2 ^ n → ((k : ℕ) → k < n → bit a k ≡ bit b k) → a ≡ b
bit_ext zero a b ha hb e = lt-one ha ∙ sym (lt-one hb)
bit_ext (suc n) a b ha hb e =
    let low : a % 2 ≡ b % 2 = digit_eq (a % 2) (b % 2) (mod-lt a two_pos) (mod-lt b two_pos) (sym (bit_zero a) ∙ e 0 (zero-lt-suc n) ∙ bit_zero b) in
    let high : a / 2 ≡ b / 2 = bit_ext n (a / 2) (b / 2) (half_lt n ha) (half_lt n hb) (λ k h. sym (bit_suc a k) ∙ e (suc k) (omega arith) ∙ bit_suc b k) in
    omega arith

-- a mask with no bit below n is empty
pub bit_none : (n m : ℕ) → m < 2 ^ n → ((k : ℕ) → k < n → bit m k ≡ false) → m ≡ 0
bit_none n m h e = bit_ext n m 0 h (pow_pos n) (λ k l. e k l ∙ sym (bit_of_zero k))

-- no bit stands at n or above
pub bit_high : (n m k : ℕ) → m < 2 ^ n → n ≤ k → bit m k ≡ false
bit_high zero m k h l = ap (λ (x : ℕ). bit x k) (lt-one h) ∙ bit_of_zero k
bit_high (suc n) m zero h l = absurd (not-suc-le-zero l)
bit_high (suc n) m (suc k) h l = bit_suc m k ∙ bit_high n (m / 2) k (half_lt n h) (le_of_suc-le-suc l)

-- sums and firsts from the other end
count_front : (n : ℕ) (p : ℕ → Bool) → count (suc n) p ≡ cond (p 0) 1 0 + count n (λ (k : ℕ). p (suc k))
unfolding count
count_front zero p = add_comm 0 (cond (p 0) 1 0)
count_front (suc n) p = let e = count_front n p in omega arith

digit-cond : (x : ℕ) → x < 2 → cond (eqb x 1) 1 0 ≡ x
digit-cond = two (λ (x : ℕ). cond (eqb x 1) 1 0 ≡ x) refl refl

-- the set digits of a number of n places
pub ones-count : (n m : ℕ) → m < 2 ^ n → ones m ≡ count n (bit m)
unfolding count ones
ones-count zero m h = ap ones (lt-one h)
ones-count (suc n) m h =
    ones_step m
    ∙ ap₂ ◌+◌ (sym (ap (λ (b : Bool). cond b 1 0) (bit_zero m) ∙ digit-cond (m % 2) (mod-lt m two_pos)))
    (ones-count n (m / 2) (half_lt n h) ∙ ap (count n) (fun_ext (λ k. sym (bit_suc m k))))
    ∙ sym (count_front n (bit m))

under_cond : (x t : ℕ) → x < 2 → under x t ≡ cond (eqb x 1) zero (suc t)
under_cond x t = two (λ (x : ℕ). under x t ≡ cond (eqb x 1) zero (suc t)) refl refl x

-- the zeros below the lowest set digit
pub zeros_first : (n m : ℕ) → count_trailing_zeros n m ≡ first n (bit m)
unfolding first count_trailing_zeros
zeros_first zero m = refl
zeros_first (suc n) m =
    under_cond (m % 2) (count_trailing_zeros n (m / 2)) (mod-lt m two_pos)
    ∙ ap₂ (λ (b : Bool) (t : ℕ). cond b zero (suc t)) (sym (bit_zero m)) (zeros_first n (m / 2) ∙ ap (first n) (fun_ext (λ k. sym (bit_suc m k))))

-- `1 << k` in a number of w bits
pub shl_one : (w k : ℕ) → k < w → 1 * 2 ^ k % 2 ^ w ≡ 2 ^ k
shl_one w k h = shl_exact 1 k w one_lt (omega arith) ∙ one-mul (2 ^ k)
