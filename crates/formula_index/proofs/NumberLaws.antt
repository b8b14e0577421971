-- A number read digit by digit.
use Prim.Native.Nat.{ℕ, ◌+◌, ◌-◌, ◌*◌, ◌^◌, ◌≤◌, ◌<◌}
use mathlib.Core.Path.{◌≡◌, refl, sym, ap, ◌∙◌}
use mathlib.Core.Bool.{true, false, not}
use mathlib.Core.List.{List}
use lib.Dec.{leb}
use lib.ListN.{get_or}
use borrow.Author.Count.{below_none, below_more}
use borrow.Author.Tests.{leb-true}
use native.Mathlib.Nat.{pow-suc}
use native.Mathlib.Numerals.{add-one}
use native.Mathlib.Omega.{arith}
use Rattle.mask.proofs.Logic.{true_holds, holds, and_out}
use Rattle.mask.proofs.Range.{first_is, first_none}
use Rattle.formula.specs.Text.{is_digit, digits_at, value_to, number_at, after}

-- The first k bytes from p on are digits, and x is the number that they make.
pub record Passed (t : List ℕ) (p k x : ℕ) : Type 0 where
  pub digits : (j : ℕ) → j < k → is_digit (get_or t (p + j) 0) ≡ true
  pub sum : x ≡ value_to t p k
  pub small : x < 10 ^ k

pub digit_range : (b : ℕ) → is_digit b ≡ true → (48 ≤ b) × (b ≤ 57)
unfolding is_digit
digit_range b e = let r = and_out (leb 48 b) (leb b 57) (true_holds e) in (leb-true 48 b (holds r.0), leb-true b 57 (holds r.1))

pub passed_none : (t : List ℕ) (p : ℕ) → Passed t p 0 0
unfolding value_to
passed_none t p = record { digits = below_none _; sum = refl; small = omega arith }

pub passed_more : {t : List ℕ} {p k x b : ℕ} → Passed t p k x → b ≡ get_or t (p + k) 0 → is_digit b ≡ true → Passed t p (k + 1) (10 * x + (b - 48))
unfolding value_to
passed_more {t} {p} {k} {x} {b} r e d =
    let w = digit_range b d in
    let s = r.small in record {
      digits = below_more _ k r.digits (ap is_digit (sym e) ∙ d);
      sum = rw (add-one, r.sum, e);
      small = rw add-one (rw pow-suc (omega arith));
    }

-- No digit follows, or there are nine: that is the number at p.
number_by : {t : List ℕ} {p k x : ℕ} → Passed t p k x → digits_at t p ≡ k → (x ≡ number_at t p) × (p + k + 1 ≡ after t p)
unfolding number_at after
number_by {t} {p} r e = (rw e r.sum, rw e)

pub passed-stop : {t : List ℕ} {p k x b : ℕ} → Passed t p k x → k < 9 → b ≡ get_or t (p + k) 0 → is_digit b ≡ false
    → (x ≡ number_at t p) × (p + k + 1 ≡ after t p)
unfolding digits_at
passed-stop {t} {p} {k} r h e d =
    number_by r
    (first_is 9 (λ j. not (is_digit (get_or t (p + j) 0))) k h (true_holds (ap not (ap is_digit (sym e) ∙ d))) (λ j l. ap not (r.digits j l)))

pub passed_all : {t : List ℕ} {p k x : ℕ} → Passed t p k x → k ≡ 9 → (x ≡ number_at t p) × (p + 10 ≡ after t p)
unfolding digits_at
passed_all {t} {p} r e =
    let w = number_by r (first_none 9 (λ j. not (is_digit (get_or t (p + j) 0))) (λ j l. ap not (r.digits j (omega arith))) ∙ sym e) in
    (w.0, omega arith)
