-- Lists in 32 places, zero behind them.
use mathlib.Core.Path.{◌≡◌, refl, sym, ap, ◌∙◌}
use mathlib.Core.List.{List, [], ◌∷◌, ◌++◌}
use Prim.Native.Nat.{ℕ, zero, suc, ◌+◌, ◌-◌, ◌≤◌, ◌<◌}
use native.Mathlib.Numerals.{add-one}
use native.Mathlib.Omega.{arith}
use lib.ListN.{get_or, length, set, replicate, length-append, length-replicate, get_or-append, get_or-eq_default}
use lib.Seq.{ext_get_or, append_snoc, set-append_seam, get_or-append-add}
use Rattle.mask.proofs.Logic.{by_lt}
use Rattle.game.specs.Lists.{list_of, spread}
use Rattle.theory.proofs.Lists.{length-list_of, get_d_list_of}

zeros_at : (m i : ℕ) → ◌≡◌ {A = ℕ} (get_or (replicate m 0) i 0) 0
zeros_at zero i = refl
zeros_at (suc m) zero = refl
zeros_at (suc m) (suc i) = zeros_at m i

-- The places: the list's elements, then zeros.
pub length-spread : (l : List ℕ) → length l ≤ 32 → length (spread l) ≡ 32
unfolding spread
length-spread l h = length-append l (replicate (32 - length l) 0) ∙ simp length-replicate (omega arith)

pub get_d_spread : (l : List ℕ) (i : ℕ) → get_or (spread l) i 0 ≡ get_or l i 0
unfolding spread
get_d_spread l i =
    by_lt i (length l)
    (λ h. get_or-append l (replicate (32 - length l) 0) 0 i h)
    (λ h. let e : i ≡ length l + (i - length l) = omega arith in
    ap (λ (k : ℕ). get_or (l ++ replicate (32 - length l) 0) k 0) e
    ∙ get_or-append-add l (replicate (32 - length l) 0) (i - length l) 0
    ∙ zeros_at (32 - length l) (i - length l)
    ∙ sym (get_or-eq_default l 0 {n = i} h))

-- The same list by places.
pub spread_places : (l : List ℕ) → length l ≤ 32 → spread l ≡ list_of 32 (λ i. get_or l i 0)
spread_places l h =
    let a = length-spread l h in
    ext_get_or 0 (spread l) (list_of 32 (λ i. get_or l i 0)) (a ∙ sym (length-list_of 32 (λ i. get_or l i 0)))
    λ i k. get_d_spread l i ∙ sym (get_d_list_of 32 (λ i. get_or l i 0) i (omega arith))

-- One element more.
pub spread-next : (l : List ℕ) (a : ℕ) → length l < 32 → set (spread l) (length l) a ≡ spread (l ++ (a ∷ []))
unfolding spread
spread-next l a h =
    let e : 32 - length l ≡ suc (32 - (length l + 1)) = omega arith in
    rw (e, length-append l (a ∷ [])) (set-append_seam l 0 _ a ∙ sym (append_snoc l a _))

-- A loop that fills 32 places by a function: its next step.
list_of_snoc : (n : ℕ) (f : ℕ → ℕ) → list_of (suc n) f ≡ list_of n f ++ (f n ∷ [])
unfolding list_of
list_of_snoc zero f = refl
list_of_snoc (suc n) f = ap (λ (l : List ℕ). f zero ∷ l) (list_of_snoc n (λ i. f (suc i)))

pub listed_next : (f : ℕ → ℕ) (w : List ℕ) (j r : ℕ) → j < 32 → w ≡ spread (list_of j f) → r ≡ f j → set w j r ≡ spread (list_of (j + 1) f)
listed_next f w j r h e q =
    let s = length-list_of j f in
    rw (e, q, add-one, list_of_snoc j f) (ap (λ (k : ℕ). set (spread (list_of j f)) k (f j)) (sym s) ∙ spread-next (list_of j f) (f j) (omega arith))
