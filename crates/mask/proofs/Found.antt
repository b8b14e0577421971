-- Searches for the first that passes: what `find` over the members of a mask finds, and masks cut to the numbers below n.
use mathlib.Core.Path.{◌≡◌, sym, ap, subst, ◌∙◌}
use mathlib.Core.Bool.{Bool, false, ◌&&◌, and-true}
use Prim.Native.Nat.{ℕ, suc, ◌-◌, ◌^◌, ◌≤◌, ◌<◌}
use native.Mathlib.Omega.{arith}
use lib.Dec.{T, ltb}
use lib.Bits.{bit_and, and_le_r}
use lib.Pow.{pow_pos, pow_mono}
use denote.Param.Members.{Mut}
use denote.Ref.{Bor}
use borrow.Author.Tests.{lt-ltb, le-ltb}
use Rattle.std.specs.Prelude.{Option, None, Some}
use Rattle.std.specs.Option.{unwrap_or}
use Rattle.std.specs.Iterator.{FindsItem}
use Rattle.mask.specs.Range.{first}
use Rattle.mask.specs.Mask.{bit, mask_of}
use Rattle.mask.proofs.Logic.{clash, by_lt}
use Rattle.mask.proofs.Range.{first_of, first_most}
use Rattle.mask.proofs.Bits.{bit_ext, bit_high, bit-bit_and}
use Rattle.mask.proofs.Masks.{mask_of_lt, bit-mask_of}
use Rattle.mask.proofs.Members.{bit-ones, ones_lt}
use Rattle.mask.proofs.Chains.{Steps, TestsAt, find_members}
use Rattle.mask.specs.Found.{found}

-- What is found tells the place, and where it is not, none passes.
pub found_some : (n k x : ℕ) → Some x ≡ found n k → (x ≡ k) × (k < n)
unfolding found
found_some n k x e = by_lt k n
    (λ l. let q : Some x ≡ Some k = rw (lt-ltb k n l) at e in (cc, l))
    (λ l. let q : Some x ≡ None = rw (le-ltb k n l) at e in absurd (cc))

pub found_none : (n k : ℕ) → None ≡ found n k → n ≤ k
unfolding found
found_none n k e = by_lt k n
    (λ l. let q : None ≡ Some k = rw (lt-ltb k n l) at e in absurd (cc))
    (λ l. l)

-- One bound more tells a place from none.
found_by : (r : Option ℕ) (n : ℕ) (p : ℕ → Bool) → unwrap_or r n ≡ first n p → unwrap_or r (suc n) ≡ first (suc n) p → p n ≡ false → r ≡ found n (first n p)
unfolding found
found_by None n p a b e = rw (← a, le-ltb n n (omega arith))
found_by (Some x) n p a b e = by_lt x n (λ l. rw (← a, lt-ltb x n l))
    (λ l. let m = first_most n p in let q : first (suc n) p ≡ n = omega arith in absurd (clash e (subst (λ k. T (p k)) q (first_of (suc n) p (omega arith)))))

-- `find` among the members of a mask of n places.
pub find_first : {S F : Type 0} (w : ℕ) (mask : S → ℕ) (g : Mut F (Bor ℕ × Unit {0}) Bool) (f : F) (test : ℕ → Bool) (s u : S) (r : Option ℕ) (m n : ℕ)
    → mask s ≡ m → m < 2 ^ n → FindsItem (Steps w mask) g s f r u → TestsAt w mask g f test m → r ≡ found n (first n (λ k. bit m k && test k))
find_first w mask g f test s u r m n e h a c =
    found_by r n (λ k. bit m k && test k) (find_members w mask g f test s u r m n e h a c)
    (find_members w mask g f test s u r m (suc n) e (let p = pow_mono {i = n} {j = suc n} (omega arith) in omega arith) a c)
    (ap (λ b. b && test n) (bit_high n m n h (omega arith)))

-- A mask cut to the numbers below n has n places.
pub cut_fits : (n m e : ℕ) → n ≤ 32 → e < 2 ^ 32 → ((k : ℕ) → bit e k ≡ ltb k n) → bit_and m e < 2 ^ n
cut_fits n m e b h f =
    let q : e ≡ 2 ^ n - 1 = bit_ext 32 e (2 ^ n - 1) h (ones_lt 32 n b) (λ k _. f k ∙ sym (bit-ones n k)) in
    let l = and_le_r m e in let p = pow_pos n in omega arith

-- A mask cut to the numbers below n is the mask of its own test.
pub cut_is : (n m e : ℕ) → n ≤ 32 → e < 2 ^ 32 → ((k : ℕ) → bit e k ≡ ltb k n) → bit_and m e ≡ mask_of n (bit m)
cut_is n m e h l f =
    bit_ext n (bit_and m e) (mask_of n (bit m)) (cut_fits n m e h l f) (mask_of_lt n (bit m))
    λ k b. bit-bit_and m e k ∙ ap (λ x. bit m k && x) (f k ∙ lt-ltb k n b) ∙ and-true (bit m k) ∙ sym (bit-mask_of n (bit m) k b)
