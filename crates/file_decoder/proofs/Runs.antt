-- Runs of words stored one behind another: what they hold, and what they leave.
use Prim.Native.Nat.{ℕ, zero, suc, ◌+◌, ◌≤◌, ◌<◌}
use mathlib.Core.Path.{◌≡◌, refl, ◌∙◌}
use mathlib.Core.List.{List}
use mathlib.Core.Logic.{⊎_elim}
use lib.ListN.{length, get_or, length-set}
use lib.Seq.{get_or-set_same, get_or-set_other}
use native.Mathlib.Omega.{arith}
use native.Mathlib.Nat.{eq-or-lt_of_le, le_of_suc-le-suc}
use Rattle.file_decoder.specs.Tables.{put_to}

-- A run keeps the length.
pub length-put : (l : List ℕ) (base : ℕ) (g : ℕ → ℕ) (k : ℕ) → length (put_to l base g k) ≡ length l
unfolding put_to
length-put l base g zero = refl
length-put l base g (suc k) = length-set (put_to l base g k) (base + k) (g k) ∙ length-put l base g k

-- Word a of the run.
pub put_in : (l : List ℕ) (base : ℕ) (g : ℕ → ℕ) (k a : ℕ) → base + k ≤ length l → a < k → get_or (put_to l base g k) (base + a) 0 ≡ g a
unfolding put_to
put_in l base g zero a h l0 = absurd (omega arith)
put_in l base g (suc k) a h l0 =
    ⊎_elim
    (λ (e : a ≡ k). rw e (get_or-set_same (put_to l base g k) (base + k) (g k) 0 (omega (arith, length-put l base g k))))
    (λ (s : a < k).
    get_or-set_other (put_to l base g k) (base + k) (base + a) (g k) 0 (λ e. omega arith) ∙ put_in l base g k a (omega arith) s)
    (eq-or-lt_of_le (le_of_suc-le-suc l0))

-- A word before the run.
pub put-before : (l : List ℕ) (base : ℕ) (g : ℕ → ℕ) (k x : ℕ) → x < base → get_or (put_to l base g k) x 0 ≡ get_or l x 0
unfolding put_to
put-before l base g zero x h = refl
put-before l base g (suc k) x h =
    get_or-set_other (put_to l base g k) (base + k) x (g k) 0 (λ e. omega arith) ∙ put-before l base g k x h
