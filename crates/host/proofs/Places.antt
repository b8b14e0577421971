-- The places of a position, written one after another.
use mathlib.Core.Path.{◌≡◌, sym, ◌∙◌}
use mathlib.Core.List.{List}
use Prim.Native.Nat.{ℕ, ◌+◌, ◌<◌}
use native.Mathlib.Omega.{arith}
use lib.ListN.{get_or, length, set}
use lib.Seq.{ext_get_or, get_or-set_same, get_or-set_other}
use Rattle.mask.proofs.Logic.{by_eq}
use Rattle.game.specs.Lists.{list_of}
use Rattle.theory.proofs.Lists.{length-list_of, get_d_list_of}

-- The first k of the list are what f gives.
abbrev pub Upto : (ℕ → ℕ) → ℕ → List ℕ → Type 0
Upto f k l = (i : ℕ) → i < k → get_or l i 0 ≡ f i

pub one_more : (f : ℕ → ℕ) (n k : ℕ) (l : List ℕ) (x : ℕ) → k < n → length l ≡ n → x ≡ f k → Upto f k l → Upto f (k + 1) (set l k x)
one_more f n k l x h s e o i t = by_eq i k (λ z. rw (z, get_or-set_same l k x 0 (omega (arith, s))) e) (λ z. get_or-set_other l k i x 0 z ∙ o i (omega arith))

pub all_of : (f : ℕ → ℕ) (n : ℕ) (l : List ℕ) → length l ≡ n → Upto f n l → l ≡ list_of n f
all_of f n l e o = ext_get_or 0 l (list_of n f) (e ∙ sym (length-list_of n f)) λ i h. o i (omega (arith, e)) ∙ sym (get_d_list_of n f i (omega (arith, e)))
