-- Numbers in decimal: the last digit behind those of the tenth, and how many there are.
use Prim.Native.Nat.{ℕ, zero, suc, ◌*◌, ◌/◌, ◌%◌, ◌^◌, ◌≤◌, ◌<◌}
use mathlib.Core.Path.{◌≡◌, refl, sym, ap, ◌∙◌, subst}
use mathlib.Core.List.{List, [], ◌∷◌, ◌++◌}
use lib.ListN.{length, length-append}
use borrow.Author.Tests.{lt-ltb, le-ltb}
use native.Mathlib.Numerals.{unary_clauses}
use native.Mathlib.Omega.{arith}
use Rattle.mask.proofs.Logic.{by_lt}
use Rattle.buffer.specs.Decimal.{digit, spelled, decimal}
use Rattle.buffer.specs.declared.Text.{Text}
use Rattle.buffer.specs.Put.{Put}
use Rattle.buffer.proofs.PutLaws.{put_behind}

-- A number below ten is one digit.
spelled-one : (k x : ℕ) → x < 10 → spelled k x ≡ digit x ∷ []
unfolding spelled
spelled-one zero x h = refl
spelled-one (suc k) x h = rw (lt-ltb x 10 h)

-- Any other is its tenth, and its last digit.
spelled_more : (k x : ℕ) → 10 ≤ x → spelled (suc k) x ≡ spelled k (x / 10) ++ (digit (x % 10) ∷ [])
unfolding spelled
spelled_more k x h = rw (le-ltb x 10 h)

-- More digits than enough make no difference.
spelled_same : (j k x : ℕ) → x ≤ j → x ≤ k → spelled j x ≡ spelled k x
spelled_same zero k x h e = spelled-one zero x (omega (arith, h)) ∙ sym (spelled-one k x (omega (arith, h)))
spelled_same (suc j) zero x h e = spelled-one (suc j) x (omega (arith, e)) ∙ sym (spelled-one zero x (omega (arith, e)))
spelled_same (suc j) (suc k) x h e =
    by_lt x 10
    (λ l. spelled-one (suc j) x l ∙ sym (spelled-one (suc k) x l))
    λ l.
    spelled_more j x l
    ∙ ap (λ (v : List ℕ). v ++ (digit (x % 10) ∷ [])) (spelled_same j k (x / 10) (omega (arith, l, h)) (omega (arith, l, e)))
    ∙ sym (spelled_more k x l)

pub decimal-one : (x : ℕ) → x < 10 → decimal x ≡ digit x ∷ []
unfolding decimal
decimal-one x h = spelled-one x x h

pub decimal_more : (x : ℕ) → 10 ≤ x → decimal x ≡ decimal (x / 10) ++ (digit (x % 10) ∷ [])
unfolding decimal
decimal_more zero h = absurd (omega (arith, h))
decimal_more (suc k) h =
    spelled_more k (suc k) h
    ∙ ap (λ (v : List ℕ). v ++ (digit (suc k % 10) ∷ [])) (spelled_same k (suc k / 10) (suc k / 10) (omega (arith, h)) (omega arith))

-- A number below the power k + 1 of ten has at most k + 1 digits.
pub decimal_short : (k x : ℕ) → x < 10 ^ suc k → length (decimal x) ≤ suc k
decimal_short zero x h = rw (decimal-one x h) (omega arith)
decimal_short (suc k) x h =
    by_lt x 10
    (λ l. rw (decimal-one x l) (omega arith))
    λ l.
    rw (decimal_more x l)
    (omega (arith, length-append (decimal (x / 10)) (digit (x % 10) ∷ []), decimal_short k (x / 10) (simp unary_clauses (tenth (10 ^ k) (simp unary_clauses at h)))))
  where
    tenth : (p : ℕ) → x < p * 10 * 10 → x / 10 < p * 10
    tenth p g = omega (arith, g)

-- ---- numbers in a buffer

-- The last digit alone; the digits of the tenth, then the last.
pub number-one : {s t : Text} {b : ℕ} (x : ℕ) → x ≤ 9 → b ≡ digit (x % 10) → Put s (b ∷ []) t → Put s (decimal x) t
number-one {s} {t} x h e p =
    let z : x % 10 ≡ x = omega (arith, h) in
    subst (λ (v : List ℕ). Put s v t) (ap (λ (d : ℕ). d ∷ []) (e ∙ ap digit z) ∙ sym (decimal-one x (omega (arith, h)))) p

pub number_more : {s t u : Text} {b : ℕ} (x : ℕ) → 9 < x → b ≡ digit (x % 10) → Put s (decimal (x / 10)) t → Put t (b ∷ []) u → Put s (decimal x) u
number_more {s} {t} {u} x h z p q =
    subst (λ (v : List ℕ). Put s v u) (ap (λ (d : ℕ). decimal (x / 10) ++ (d ∷ [])) z ∙ sym (decimal_more x (omega (arith, h)))) (put_behind p q)
