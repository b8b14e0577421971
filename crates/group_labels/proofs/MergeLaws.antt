-- The steps of the loops that merge labels and count them.
use mathlib.Core.Path.{◌≡◌, ap, ap₂}
use mathlib.Core.Bool.{Bool, cond}
use mathlib.Core.List.{List, ◌++◌, map}
use Prim.Native.Nat.{ℕ, ◌+◌, ◌≤◌, ◌<◌, min, max}
use native.Mathlib.Numerals.{add-one}
use native.Mathlib.Omega.{arith}
use lib.ListN.{get_or, length, set, take, drop}
use Rattle.std.proofs.lemmas.List.{length-take, length-drop, take_all, drop_all, append-nil, length-append, length-map, get_or_default}
use Rattle.std.proofs.lemmas.List.Edits.{map_over_more}
use Rattle.mask.specs.Range.{count}
use Rattle.group.specs.Groups.{relabelled, merge, merged_with, merged}
use Rattle.group_labels.specs.Labels.{leads_in}

-- The labels of l, the first k merged.
abbrev pub labels_after : List ℕ → ℕ → ℕ → ℕ → List ℕ
labels_after l low high k = map (relabelled low high) (take k l) ++ drop k l

-- One more of them.
pub after_next : (l w : List ℕ) (low high k r : ℕ) → k < length l → w ≡ labels_after l low high k → r ≡ relabelled low high (get_or w k 0)
    → set w k r ≡ labels_after l low high (k + 1)
after_next l w low high k r h e q =
    let f = relabelled low high in
    let size = length-append (map f (take k l)) (drop k l) in
    let long : k < length w = rw e (omega (arith, size, length-map (take k l) f, length-take k l, length-drop k l)) in
    rw q (map_over_more f l w k (get_or w k 0) h e (get_or_default w k 0 (get_or w k 0) long))

-- All of them.
pub after_all : (l w : List ℕ) (x y low high k : ℕ) → length l ≤ k → low ≡ min (get_or l x 0) (get_or l y 0) → high ≡ max (get_or l x 0) (get_or l y 0)
    → w ≡ labels_after l low high k → w ≡ merge l x y
unfolding merge
after_all l w x y low high k h p q e = rw (e, take_all k l h, drop_all k l h, append-nil, p, q)

-- One more variable that y may be joined with; the constraints of one more variable.
pub with_next : (tie : ℕ → ℕ → Bool) (l w w' : List ℕ) (y x : ℕ) (b : Bool) → b ≡ tie x y → w ≡ merged_with tie l y x → w' ≡ cond b (merge w x y) w
    → w' ≡ merged_with tie l y (x + 1)
unfolding merged_with
with_next tie l w w' y x b t e q = rw (add-one, q) (ap₂ (λ (b : Bool) (u : List ℕ). cond b (merge u x y) u) t e)

pub merged_next : (tie : ℕ → ℕ → Bool) (l w w' : List ℕ) (y : ℕ) → w ≡ merged tie l y → w' ≡ merged_with tie w y y → w' ≡ merged tie l (y + 1)
unfolding merged
merged_next tie l w w' y e q = rw (add-one, q) (ap (λ (u : List ℕ). merged_with tie u y y) e)

-- One more variable that may have its own label.
pub led_next : (l : List ℕ) (out out' i : ℕ) (b : Bool) → b ≡ leads_in l i → out ≡ count i (leads_in l) → out' ≡ out + cond b 1 0 → out' ≡ count (i + 1) (leads_in l)
unfolding count
led_next l out out' i b t e q = rw (add-one, q, e, t)
