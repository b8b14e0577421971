-- Labels in 32 places against the n labels of a problem, and the groups that they come to.
use mathlib.Core.Path.{◌≡◌, sym, ap, ◌∙◌}
use mathlib.Core.Bool.{Bool, true, false, cond}
use mathlib.Core.List.{List}
use Prim.Native.Nat.{ℕ, zero, suc, ◌≤◌, ◌<◌, min}
use native.Mathlib.Omega.{arith}
use lib.Dec.{eqb}
use lib.ListN.{get_or, length}
use Rattle.mask.specs.Range.{count}
use Rattle.mask.proofs.Range.{count_same}
use Rattle.game.specs.Problem.{Problem}
use Rattle.game.specs.Lists.{list_of, spread}
use Rattle.theory.proofs.Lists.{length-list_of, get_d_list_of, list_of_same}
use Rattle.solver_arrays.specs.declared.arrays.Arrays.{Arrays}
use Rattle.solver_arrays.specs.Arrays.{Poses}
use Rattle.problem_numbers.specs.Numbers.{tied}
use Rattle.problem_writer.specs.Listing.{tied_in}
use Rattle.problem_writer.proofs.PosedNumbers.{posed_tied}
use Rattle.group.specs.Groups.{merge, merged_with, merged, labels, smallest, leads, group_of, groups}
use Rattle.group_theory.proofs.Labels.{merge_at, length-merge, smallest_most}
use Rattle.group_theory.proofs.OneGroup.{merged_same}
use Rattle.group_labels.specs.declared.Groups.{Groups}
use Rattle.group_labels.specs.Labels.{own_labels, leads_in, Grouped}

-- ---- labels that agree below n

-- Lists of n labels at least, of which the first n are the same.
record Agree (n : ℕ) (l l' : List ℕ) : Type 0 where
  long : n ≤ length l
  long' : n ≤ length l'
  same : (i : ℕ) → i < n → get_or l i 0 ≡ get_or l' i 0

-- They still do after a merge, after the constraints of one variable, after those of k variables.
merge_agrees : (n : ℕ) (l l' : List ℕ) (x y : ℕ) → x < n → y < n → Agree n l l' → Agree n (merge l x y) (merge l' x y)
merge_agrees n l l' x y hx hy a = let s = a.long in let s' = a.long' in record {
  long = omega (arith, length-merge l x y);
  long' = omega (arith, length-merge l' x y);
  same = λ i h. rw (merge_at l x y i (omega arith), merge_at l' x y i (omega arith), a.same x hx, a.same y hy, a.same i h);
}

module _ (tie : ℕ → ℕ → Bool) (n : ℕ) where
  with_agrees : (l l' : List ℕ) (y k : ℕ) → y < n → k ≤ y → Agree n l l' → Agree n (merged_with tie l y k) (merged_with tie l' y k)
  unfolding merged_with
  with_agrees l l' y zero hy h a = a
  with_agrees l l' y (suc x) hy h a = go (tie x y) (with_agrees l l' y x hy (omega arith) a)
    where
      go : (b : Bool) → Agree n (merged_with tie l y x) (merged_with tie l' y x)
          → Agree n (cond b (merge (merged_with tie l y x) x y) (merged_with tie l y x)) (cond b (merge (merged_with tie l' y x) x y) (merged_with tie l' y x))
      go true r = merge_agrees n (merged_with tie l y x) (merged_with tie l' y x) x y (omega arith) hy r
      go false r = r

  merged_agrees : (l l' : List ℕ) (k : ℕ) → k ≤ n → Agree n l l' → Agree n (merged tie l k) (merged tie l' k)
  unfolding merged
  merged_agrees l l' zero h a = a
  merged_agrees l l' (suc y) h a = with_agrees (merged tie l y) (merged tie l' y) y y (omega arith) (omega arith) (merged_agrees l l' y (omega arith) a)

-- At first each variable has its own label in both.
own_agrees : (n : ℕ) → n ≤ 32 → Agree n own_labels (list_of n (λ i. i))
unfolding own_labels
own_agrees n h = record {
  long = omega (arith, length-list_of 32 (λ i. i));
  long' = omega (arith, length-list_of n (λ i. i));
  same = λ i l. get_d_list_of 32 (λ i. i) i (omega arith) ∙ sym (get_d_list_of n (λ i. i) i l);
}

-- ---- the labels of the arrays, and their groups

-- How many variables with labels of their own come before i's label, cut to 32: the number of its group.
unfoldable pub place_in : List ℕ → ℕ → ℕ
place_in l i = count (min (get_or l i 0) 32) (leads_in l)

module _ (P : Problem) (A : Arrays) (h : Poses P A) where
  abbrev labels_in : List ℕ
  labels_in = merged (tied_in A) own_labels A.n

  -- Each variable has its label of the problem, so the same variables lead, and each has its group of the problem.
  label_same : (i : ℕ) → i < A.n → get_or labels_in i 0 ≡ smallest P i
  unfolding smallest labels
  label_same i l =
      let s = h.states in
      ap (λ (u : List ℕ). get_or u i 0) (merged_same (tied_in A) (tied P) own_labels A.n (λ x y g k. posed_tied P A h x y (omega arith) k))
      ∙ (merged_agrees (tied P) A.n own_labels (list_of A.n (λ i. i)) A.n (omega arith) (own_agrees A.n s.most)).same i l
      ∙ ap (λ (n : ℕ). get_or (merged (tied P) (list_of n (λ i. i)) n) i 0) (sym s.size)

  led_same : (i : ℕ) → i < A.n → leads_in labels_in i ≡ leads P i
  unfolding leads_in leads
  led_same i l = ap (λ (k : ℕ). eqb k i) (label_same i l)

  place_group : (i : ℕ) → i < A.n → place_in labels_in i ≡ group_of P i
  unfolding place_in group_of
  place_group i l =
      let s = h.states in
      let m = smallest_most P i (rw s.size l) in
      let b = s.most in
      let e : min (get_or labels_in i 0) 32 ≡ smallest P i = omega (arith, label_same i l) in
      ap (λ (k : ℕ). count k (leads_in labels_in)) e ∙ count_same (smallest P i) (leads_in labels_in) (leads P) (λ k g. led_same k (omega arith))

  -- So the groups of the arrays are those of the problem.
  pub grouped_by : (l : List ℕ) (r : Groups) → l ≡ labels_in → r.count ≡ count A.n (leads_in l) → r.group ≡ spread (list_of A.n (place_in l)) → Grouped P r
  unfolding groups
  grouped_by l r z e q = let s = h.states in record {
    count = e ∙ rw z (count_same A.n (leads_in labels_in) (leads P) led_same) ∙ ap (λ (n : ℕ). count n (leads P)) (sym s.size);
    group = q ∙ ap spread (rw z (list_of_same A.n (place_in labels_in) (group_of P) place_group) ∙ ap (λ (n : ℕ). list_of n (group_of P)) (sym s.size));
  }
