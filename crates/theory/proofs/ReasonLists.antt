-- Sets of variables as masks, and lists of n reasons.
use mathlib.Core.Path.{◌≡◌, refl, ◌∙◌, fun_ext}
use mathlib.Core.Bool.{Bool, true, false, cond, ◌&&◌}
use mathlib.Core.List.{List}
use Prim.Native.Nat.{ℕ, ◌^◌, ◌≤◌, ◌<◌}
use native.Mathlib.Omega.{arith}
use lib.Dec.{T, eqb, ltb}
use lib.Bits.{bit_or}
use lib.ListN.{get_or, length, set, length-set, get_or-eq_default}
use lib.Seq.{get_or-set_same, get_or-set_other}
use borrow.Author.Tests.{eq-eqb, ne_eqb, le-ltb}
use Rattle.mask.specs.Mask.{bit}
use Rattle.mask.proofs.Logic.{clash, by_eq, by_lt, or_left, or_right, or_out}
use Rattle.mask.proofs.Bits.{bit-bit_or, bit_single, bit_of_zero}
use Rattle.game.specs.Lists.{domains, narrow_to}
use Rattle.game.specs.Reasons.{first_reasons, next_reasons}
use Rattle.theory.proofs.Lists.{length-list_of, get_d_list_of, get_d_beyond}
use Rattle.theory.proofs.Reasons.{own, mine}

-- A union holds what either part holds.
pub in_left : (a b k : ℕ) → T (bit a k) → T (bit (bit_or a b) k)
in_left a b k t = rw (bit-bit_or a b k) (or_left (bit a k) (bit b k) t)

pub in_right : (a b k : ℕ) → T (bit b k) → T (bit (bit_or a b) k)
in_right a b k t = rw (bit-bit_or a b k) (or_right (bit a k) (bit b k) t)

pub in_out : {A : Type 0} (a b k : ℕ) → T (bit (bit_or a b) k) → (T (bit a k) → A) → (T (bit b k) → A) → A
in_out a b k t f g = or_out (bit a k) (bit b k) (rw (bit-bit_or a b k) at t) f g

-- Nothing is in the reason of a variable that the list does not have.
pub in_list : (R : List ℕ) (j k : ℕ) → T (domains R j k) → j < length R
unfolding domains
in_list R j k t = by_lt j (length R) (λ h. h) (λ h. absurd (clash {b = bit (get_or R j 0) k} (rw (get_or-eq_default R 0 {n = j} h) (bit_of_zero k)) t))

-- One reason changed.
pub reason_at : (R : List ℕ) (x m k : ℕ) → x < length R → domains (set R x m) x k ≡ bit m k
unfolding domains
reason_at R x m k h = rw (get_or-set_same R x m 0 h)

pub reason_off : (R : List ℕ) (x m j k : ℕ) → ¬ (j ≡ x) → domains (set R x m) j k ≡ domains R j k
unfolding domains
reason_off R x m j k h = rw (get_or-set_other R x j m 0 h)

-- The reasons of the first turn and of the turn below.
pub first_reasons-length : (n i : ℕ) → length (first_reasons n i) ≡ n
unfolding first_reasons
first_reasons-length n i = length-list_of n (λ j. cond (ltb j i) (2 ^ j) 0)

pub first_reasons_are : (n i : ℕ) → i ≤ n → domains (first_reasons n i) ≡ own i
unfolding domains first_reasons own
first_reasons_are n i h = fun_ext λ j. fun_ext λ k. by_lt j n
    (λ l. rw (get_d_list_of n (λ j. cond (ltb j i) (2 ^ j) 0) j l) (go (ltb j i) j k))
    (λ l. rw (get_d_beyond n (λ j. cond (ltb j i) (2 ^ j) 0) j l, le-ltb j i (omega arith)) (bit_of_zero k))
  where
    go : (b : Bool) (j k : ℕ) → bit (cond b (2 ^ j) 0) k ≡ (b && eqb k j)
    go true j k = bit_single j k
    go false j k = bit_of_zero k

pub next_reasons-length : (R : List ℕ) (i : ℕ) → length (next_reasons R i) ≡ length R
unfolding next_reasons narrow_to
next_reasons-length R i = length-set R i (2 ^ i)

pub next_reasons_are : (R : List ℕ) (i : ℕ) → i < length R → domains (next_reasons R i) ≡ mine (domains R) i
unfolding next_reasons narrow_to mine
next_reasons_are R i h = fun_ext λ j. fun_ext λ k.
    by_eq j i (λ e. rw (e, eq-eqb i i refl) (reason_at R i (2 ^ i) k h ∙ bit_single i k)) (λ e. rw (ne_eqb j i e) (reason_off R i (2 ^ i) j k e))
