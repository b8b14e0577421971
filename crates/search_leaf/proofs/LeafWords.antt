-- The words with a leaf put in: where it stands, and what stays.
use mathlib.Core.Path.{◌≡◌, refl, sym, ap, ◌∙◌}
use mathlib.Core.List.{List}
use mathlib.Core.Logic.{◌⊎◌, inl, inr, ⊎_elim}
use Prim.Native.Nat.{ℕ, zero, suc, ◌+◌, ◌^◌, ◌≤◌, ◌<◌}
use native.Mathlib.Omega.{arith}
use lib.ListN.{get_or, length, set, length-set}
use lib.Seq.{ext_get_or, get_or-set_same, get_or-set_other}
use borrow.Author.Tests.{eq-eqb, ne_eqb}
use Rattle.mask.specs.Range.{first}
use Rattle.mask.specs.Mask.{bit}
use Rattle.mask.proofs.Logic.{true_holds, by_eq}
use Rattle.mask.proofs.Range.{first_is}
use Rattle.mask.proofs.Bits.{bit_single}
use Rattle.solver_arrays.specs.Words.{leaf_in}
use Rattle.solver_arrays.proofs.WordLaws.{length-leaf_in, get_d_leaf_in}
use Rattle.search_leaf.specs.Leaf.{value_of, value_in, Plays, with_leaf}

pub length-with_leaf : (n : ℕ) (w : List ℕ) → length (with_leaf n w) ≡ length w
unfolding with_leaf
length-with_leaf zero w = refl
length-with_leaf (suc n) w = length-set (with_leaf n w) (96 + n) (value_in w n) ∙ length-with_leaf n w

-- A word outside the leaf stays.
pub with_leaf_other : (n : ℕ) (w : List ℕ) (k : ℕ) → (k < 96) ⊎ (96 + n ≤ k) → get_or (with_leaf n w) k 0 ≡ get_or w k 0
unfolding with_leaf
with_leaf_other zero w k o = refl
with_leaf_other (suc n) w k o =
    get_or-set_other (with_leaf n w) (96 + n) k (value_in w n) 0 (⊎_elim (λ l. omega arith) (λ l. omega arith) o)
    ∙ with_leaf_other n w k (⊎_elim (λ l. inl l) (λ l. inr (omega arith)) o)

-- Word j of the leaf is the value of variable j.
with_leaf_at : (n : ℕ) (w : List ℕ) → 96 + n ≤ length w → (j : ℕ) → j < n → get_or (with_leaf n w) (96 + j) 0 ≡ value_in w j
unfolding with_leaf
with_leaf_at zero w b j h = absurd (omega arith)
with_leaf_at (suc n) w b j h =
    by_eq j n
    (λ e. let l = length-with_leaf n w in rw e (get_or-set_same (with_leaf n w) (96 + n) (value_in w n) 0 (omega arith)))
    (λ e. get_or-set_other (with_leaf n w) (96 + n) (96 + j) (value_in w n) 0 (omega arith) ∙ with_leaf_at n w (omega arith) j (omega arith))

-- One value more: what the words hold at n is what they held before the leaf.
pub leaf-next : (n : ℕ) (w v : List ℕ) (a : ℕ) → n < 96 → v ≡ with_leaf n w → a ≡ value_in v n → set v (96 + n) a ≡ with_leaf (suc n) w
unfolding with_leaf
leaf-next n w v a h e q =
    let f : a ≡ value_in w n = q ∙ ap value_of (ap (λ l. get_or l n 0) e ∙ with_leaf_other n w n (inl h)) in
    rw (e, f)

-- Every value of a leaf is below 16.
value_lt : (m : ℕ) → value_of m < 16
unfolding value_of
value_lt m = omega arith

pub leaf_small : (n : ℕ) (w : List ℕ) → 96 + n ≤ length w → (j : ℕ) → j < n → get_or (with_leaf n w) (96 + j) 0 < 16
leaf_small n w b j h = rw (with_leaf_at n w b j h) (value_lt (get_or w j 0))

-- The mask of one value has that value.
value_single : (a : ℕ) → a < 16 → value_of (2 ^ a) ≡ a
unfolding value_of
value_single a h =
    let f : first 16 (bit (2 ^ a)) ≡ a =
    first_is 16 (bit (2 ^ a)) a h (true_holds (bit_single a a ∙ eq-eqb a a refl)) (λ j l. bit_single a j ∙ ne_eqb j a (omega arith)) in
    omega arith

pub value_of_play : (n : ℕ) (w p : List ℕ) → Plays n w p → (j : ℕ) → j < n → value_in w j ≡ get_or p j 0
value_of_play n w p Q j h = ap value_of (Q.word j h) ∙ value_single (get_or p j 0) (Q.small j h)

-- The leaf of a play is the play.
pub leaf_of_play : (n : ℕ) (w p : List ℕ) → 96 + n ≤ length w → Plays n w p → leaf_in n (with_leaf n w) ≡ p
leaf_of_play n w p b Q =
    let k = length-leaf_in n (with_leaf n w) in
    ext_get_or 0 (leaf_in n (with_leaf n w)) p (k ∙ sym Q.all) λ j h.
    get_d_leaf_in n (with_leaf n w) j (omega arith) ∙ with_leaf_at n w b j (omega arith) ∙ value_of_play n w p Q j (omega arith)
