-- Chains over the numbers below n: `all` is `each`, `any` is `some`.
use Prim.Native.Nat.{ℕ, zero, suc, ◌+◌, ◌<◌}
use mathlib.Core.Path.{◌≡◌, refl, sym, ap, ◌∙◌, subst}
use mathlib.Core.Bool.{Bool, true, false, ◌||◌, or_comm, or_assoc}
use mathlib.Core.List.{List, [], ◌∷◌, ◌++◌}
use native.Mathlib.Omega.{arith}
use lib.ListN.{length}
use denote.Param.Members.{Mut}
use Rattle.std.specs.declared.ops.Range.{Range}
use Rattle.std.specs.Bool.{MatchBool}
use Rattle.std.specs.Fn.{Called}
use Rattle.std.specs.Iterator.{ChecksAll}
use Rattle.std.specs.List.{list_any, range_with_len, AllWithin, HoldsAt}
use Rattle.std.proofs.iter.Yields.{nat_range_steps}
use Rattle.std.proofs.lemmas.Iterator.{cases_from_all, YieldsList-from_range}
use Rattle.std.proofs.lemmas.List.FromFn.{length-range_with_len, get_or-range_with_len}
use Rattle.mask.specs.Range.{some, each}
use Rattle.mask.proofs.Logic.{holds, fails, clash, true_holds}
use Rattle.mask.proofs.Range.{each_in, each_out}

-- A call of the closure leaves it, and gives the test of a number below n.
pub all_below :
    {F : Type 0} {g : Mut F (ℕ × Unit {0}) Bool} {s u : Range ℕ} {f : F} {r : Bool} (n : ℕ) (test : ℕ → Bool)
    → ChecksAll nat_range_steps g s f r u → s ≡ record { start = 0; end = n }
    → ((x : ℕ) (b : Bool) (q : F) → Called g f (x, tt) b q → (q ≡ f) × (x < n → b ≡ test x)) → r ≡ each n (λ a. true) test
all_below {u = u} {f = f} {r = r} n test c e computes =
    by r
    (cases_from_all u f r (λ x. x < n → true ≡ test x) (λ x. x < n → false ≡ test x) c (YieldsList-from_range 0 n n e (omega arith))
    (λ x q k. computes x true q k) (λ x q k. (computes x false q k).1))
  where
    all : List ℕ
    all = range_with_len 0 n

    at : (P : ℕ → Type 0) (k : ℕ) → k < n → HoldsAt P all k → P k
    at P k l h = subst P (get_or-range_with_len 0 n k 0 l ∙ omega arith) (h 0)

    by : (r : Bool)
        → MatchBool r (AllWithin (λ x. x < n → true ≡ test x) all 0 (length all)) ((k : ℕ) × (k < length all) × HoldsAt (λ x. x < n → false ≡ test x) all k)
        → r ≡ each n (λ a. true) test
    by true h =
        sym (holds (each_in n (λ a. true) test
        (λ a l t. true_holds (sym (at (λ x. x < n → true ≡ test x) a l (λ d. h a d (omega arith) (omega (arith, length-range_with_len 0 n))) l)))))
    by false h =
        let l : h.0 < n = omega (arith, h.1, length-range_with_len 0 n) in
        sym (fails (λ t. clash (sym (at (λ x. x < n → false ≡ test x) h.0 l h.2 l)) (each_out n (λ a. true) test t h.0 l tt)))

any_push : (t : ℕ → Bool) (xs : List ℕ) (x : ℕ) → list_any t (xs ++ (x ∷ [])) ≡ (t x || list_any t xs)
any_push t [] x = refl
any_push t (y ∷ ys) x =
    ap (λ b. t y || b) (any_push t ys x)
    ∙ sym (or_assoc (t y) (t x) (list_any t ys))
    ∙ ap (λ b. b || list_any t ys) (or_comm (t y) (t x))
    ∙ or_assoc (t x) (t y) (list_any t ys)

range-more : (a n j : ℕ) → a + n ≡ j → range_with_len a (suc n) ≡ range_with_len a n ++ (j ∷ [])
range-more a zero j e = let z : a ≡ j = omega arith in rw z
range-more a (suc n) j e = ap (λ l. a ∷ l) (range-more (a + 1) n j (omega arith))

pub any_below : (t : ℕ → Bool) (n : ℕ) → list_any t (range_with_len 0 n) ≡ some n (λ j. true) t
unfolding some
any_below t zero = refl
any_below t (suc n) = ap (list_any t) (range-more 0 n n (omega arith)) ∙ any_push t (range_with_len 0 n) n ∙ ap (λ b. t n || b) (any_below t n)
