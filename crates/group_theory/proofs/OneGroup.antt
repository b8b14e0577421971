-- A problem of one group; labels and groups ask only which variables of the problem a constraint joins.
use mathlib.Core.Path.{◌≡◌, refl, sym, ap, ap₂, ◌∙◌}
use mathlib.Core.Bool.{Bool, cond}
use mathlib.Core.List.{List}
use Prim.Native.Nat.{ℕ, zero, suc, ◌<◌}
use native.Mathlib.Omega.{arith}
use lib.Dec.{T, eqb}
use lib.ListN.{get_or}
use Rattle.mask.specs.Range.{count}
use Rattle.mask.proofs.Logic.{by_lt}
use Rattle.game.specs.Problem.{Problem}
use Rattle.game.specs.Lists.{list_of}
use Rattle.problem_numbers.specs.Numbers.{tied}
use Rattle.group.specs.Groups.{Chain, here, link, merge, merged_with, merged, labels, smallest, leads, groups, in_group, new_number, old_number}
use Rattle.group.specs.GroupProblem.{old_below, group_problem}
use Rattle.group_theory.proofs.GroupLaws.{group_chain, chain_group, group_tied, group_below, group_some, group_full, group_in, in_group-is}
use Rattle.group_theory.proofs.Renumbered.{old_in, new_below, old_new}

-- ---- what labels and groups ask for

-- Of y's constraints, those with the first k variables.
merged_with-same : (tie tie' : ℕ → ℕ → Bool) (l : List ℕ) (y k : ℕ) → ((x : ℕ) → x < k → tie x y ≡ tie' x y) → merged_with tie l y k ≡ merged_with tie' l y k
unfolding merged_with
merged_with-same tie tie' l y zero e = refl
merged_with-same tie tie' l y (suc x) e =
    ap₂ (λ (b : Bool) (u : List ℕ). cond b (merge u x y) u) (e x (omega arith)) (merged_with-same tie tie' l y x (λ z h. e z (omega arith)))

-- Of the first k variables, which two a constraint joins, the smaller first.
pub merged_same : (tie tie' : ℕ → ℕ → Bool) (l : List ℕ) (k : ℕ) → ((x y : ℕ) → x < y → y < k → tie x y ≡ tie' x y) → merged tie l k ≡ merged tie' l k
unfolding merged
merged_same tie tie' l zero e = refl
merged_same tie tie' l (suc y) e =
    merged_with-same tie tie' (merged tie l y) y y (λ x h. e x y h (omega arith))
    ∙ ap (λ (u : List ℕ). merged_with tie' u y y) (merged_same tie tie' l y (λ x z h m. e x z h (omega arith)))

-- So problems in which the same variables are joined have the same labels, and as many groups.
labels_same : (P Q : Problem) → P.n ≡ Q.n → ((i j : ℕ) → i < P.n → j < P.n → tied P i j ≡ tied Q i j) → labels P ≡ labels Q
unfolding labels
labels_same P Q e t =
    merged_same (tied P) (tied Q) (list_of P.n (λ i. i)) P.n (λ x y h l. t x y (omega arith) l)
    ∙ ap (λ (k : ℕ). merged (tied Q) (list_of k (λ i. i)) k) e

pub groups_same : (P Q : Problem) → P.n ≡ Q.n → ((i j : ℕ) → i < P.n → j < P.n → tied P i j ≡ tied Q i j) → groups P ≡ groups Q
unfolding groups leads smallest
groups_same P Q e t = ap₂ (λ (k : ℕ) (l : List ℕ). count k (λ i. eqb (get_or l i 0) i)) e (labels_same P Q e t)

-- ---- one group

-- Where chains join all variables there is one group.
one_group : (P : Problem) → 0 < P.n → ((i j : ℕ) → i < P.n → j < P.n → Chain P i j) → groups P ≡ 1
one_group P h c =
    by_lt 1 (groups P)
    (λ l. let r = group_some P 0 (omega arith) in let s = group_some P 1 l in absurd (omega (arith, chain_group P (c r.0 s.0 r.1 s.1), r.2, s.2)))
    (λ l. omega (arith, l, group_below P 0 h))

-- A chain from a variable of a group is a chain of the group's problem, by the new numbers.
chain_within : (P : Problem) (g : ℕ) {i j : ℕ} → T (in_group P g i) → Chain P i j → Chain (group_problem P g) (new_number P g i) (new_number P g j)
unfolding group_problem tied
chain_within P g t here = here
chain_within P g {i} t (link {k = k} l m u c) =
    let w = group_in P g k (sym (group_tied P i k l m u) ∙ in_group-is P g i t) in
    link (new_below P g i l t) (new_below P g k m w) (rw (old_new P g i l t, old_new P g k m w) u) (chain_within P g w c)

-- So the problem of a group is of one group.
pub group_one : (P : Problem) (g : ℕ) → g < groups P → groups (group_problem P g) ≡ 1
unfolding group_problem
group_one P g h =
    one_group (group_problem P g) (group_full P g h) λ s t a b.
    let u = old_in P g s a in
    let v = old_in P g t b in
    let e = in_group-is P g (old_number P g s) u.0 ∙ sym (in_group-is P g (old_number P g t) v.0) in
    let c = chain_within P g u.0 (group_chain P (old_number P g s) (old_number P g t) (old_below P g s a) (old_below P g t b) e) in
    rw (u.1, v.1) at c
