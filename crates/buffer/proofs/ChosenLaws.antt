-- Lists of one width, joined from the numbers that pass a test: each stands at the place of its number.
use mathlib.Core.Path.{◌≡◌, refl, sym, ap, ◌∙◌}
use mathlib.Core.Bool.{Bool, true, cond}
use mathlib.Core.List.{List, [], ◌++◌, append-nil}
use Prim.Native.Nat.{ℕ, zero, suc, ◌+◌, ◌*◌, ◌≤◌, ◌<◌}
use native.Mathlib.Nat.{mul-zero, mul-suc, mul-le-mul_left}
use native.Mathlib.Omega.{arith}
use lib.Dec.{T}
use lib.ListN.{length, get_or, length-append, get_or-append}
use lib.Seq.{get_or-append-add}
use Rattle.mask.specs.Range.{count}
use Rattle.mask.proofs.Logic.{holds, test, by_eq}
use Rattle.mask.proofs.Range.{count_none}
use Rattle.mask.proofs.Places.{count_in, count_out, place-below}
use Rattle.buffer.specs.Stored.{joined}

module _ (w : ℕ) (p : ℕ → Bool) (g : ℕ → List ℕ) (wide : (x : ℕ) → length (g x) ≡ w) where
  abbrev chosen : ℕ → List ℕ
  chosen x = cond (p x) (g x) []

  -- So long for each that passes.
  pub length_chosen : (k : ℕ) → length (joined chosen k) ≡ w * count k p
  unfolding joined
  length_chosen zero = rw (count_none zero p (λ k l. absurd (omega arith)), mul-zero) refl
  length_chosen (suc k) =
      test (p k)
      (λ t. let e : p k ≡ true = holds t in rw (e, count_in k p t, mul-suc) (omega (arith, length-append (joined chosen k) (g k), length_chosen k, wide k)))
      (λ e. rw (count_out k p e, e, append-nil (joined chosen k)) (length_chosen k))

  -- They stand at its place.
  pub chosen_at : (k x a : ℕ) → x < k → T (p x) → a < w → get_or (joined chosen k) (w * count x p + a) 0 ≡ get_or (g x) a 0
  unfolding joined
  chosen_at zero x a h t l = absurd (omega arith)
  chosen_at (suc k) x a h t l =
      by_eq x k
      (λ e.
      let s : p k ≡ true = ap p (sym e) ∙ holds t in
      let z : w * count x p + a ≡ length (joined chosen k) + a = ap (λ y. w * count y p + a) e ∙ omega (arith, length_chosen k) in
      ap (λ b. get_or (joined chosen k ++ cond b (g k) []) (w * count x p + a) 0) s
      ∙ ap (λ i. get_or (joined chosen k ++ g k) i 0) z ∙ get_or-append-add (joined chosen k) (g k) a 0 ∙ ap (λ y. get_or (g y) a 0) (sym e))
      (λ e.
      let below : w * suc (count x p) ≤ w * count k p = mul-le-mul_left w (omega (arith, place-below k p x (omega arith) t)) in
      let inside = rw mul-suc at below in
      get_or-append (joined chosen k) (chosen k) 0 (w * count x p + a) (omega (arith, length_chosen k, inside)) ∙ chosen_at k x a (omega arith) t l)
