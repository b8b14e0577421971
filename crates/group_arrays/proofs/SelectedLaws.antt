-- The arrays that are selected state the group's problem: their variables, and all that they say of these.
use mathlib.Core.Path.{◌≡◌, sym, ap, ap₂, ◌∙◌}
use mathlib.Core.Bool.{Bool, ◌&&◌}
use Prim.Native.Nat.{ℕ, ◌+◌, ◌*◌, ◌/◌, ◌%◌, ◌≤◌, ◌<◌}
use native.Mathlib.Omega.{arith}
use lib.Dec.{eqb}
use lib.ListN.{get_or, take}
use lib.Seq.{take-append_seam}
use Rattle.mask.specs.Mask.{bit}
use Rattle.mask.proofs.Range.{count_same, first-agree}
use Rattle.mask.proofs.Bits.{bit_of_zero, bit_high}
use Rattle.mask.proofs.Masks.{mask_of_lt, bit-mask_of}
use Rattle.game.specs.Problem.{Problem}
use Rattle.game.specs.Lists.{list_of, spread}
use Rattle.theory.proofs.Lists.{length-list_of, get_d_list_of, list_of_same}
use Rattle.theory.proofs.SpreadLaws.{get_d_spread}
use Rattle.solver_arrays.specs.declared.arrays.Arrays.{Arrays}
use Rattle.solver_arrays.specs.Arrays.{row_in, Poses}
use Rattle.solver_arrays.proofs.PosedLaws.{posed_domain}
use Rattle.group.specs.Groups.{group_of, in_group, new_number, old_number, group_size}
use Rattle.group.specs.GroupProblem.{old_below, group_problem}
use Rattle.group_labels.specs.declared.Groups.{Groups}
use Rattle.group_labels.specs.Labels.{Grouped}
use Rattle.group_arrays.specs.declared.members.Members.{Members}
use Rattle.group_arrays.specs.Members.{grouped_in, at_place_in, Holds, old_in}
use Rattle.group_arrays.specs.Selected.{renumbered, index_in, Renumbers}

-- The elements of a list in 32 places: all of them, and each.
take_spread : (n : ℕ) (f : ℕ → ℕ) → take n (spread (list_of n f)) ≡ list_of n f
unfolding spread
take_spread n f = ap (λ (k : ℕ). take k (spread (list_of n f))) (sym (length-list_of n f)) ∙ take-append_seam (list_of n f) _

spread_at : (n : ℕ) (f : ℕ → ℕ) (i : ℕ) → i < n → get_or (spread (list_of n f)) i 0 ≡ f i
spread_at n f i h = get_d_spread (list_of n f) i ∙ get_d_list_of n f i h

-- A renumbered mask: a member is in it where its old number is in the mask, and nothing else is.
renumbered_bit : (m : Members) (mask t : ℕ) → t < m.size → bit (renumbered m mask) t ≡ bit mask (old_in m t)
unfolding renumbered
renumbered_bit m mask t h = bit-mask_of m.size (λ t. bit mask (old_in m t)) t h

renumbered_beyond : (m : Members) (mask t : ℕ) → m.size ≤ t → bit (renumbered m mask) t ≡ bit 0 t
unfolding renumbered
renumbered_beyond m mask t h = bit_high m.size _ t (mask_of_lt m.size (λ t. bit mask (old_in m t))) h ∙ sym (bit_of_zero t)

-- So the domains, the neighbours and the rows in B are those of old numbers in A.
module _ (A : Arrays) (m : Members) (B : Arrays) (parts : Renumbers A m B) where
  domain_at : take B.n B.domains ≡ list_of m.size (λ t. get_or A.domains (old_in m t) 0)
  domain_at = rw (parts.n, parts.domains) (take_spread m.size _)

  near_at : (i : ℕ) → i < m.size → get_or B.near i 0 ≡ renumbered m (get_or A.near (old_in m i) 0)
  near_at i h = rw parts.near (spread_at m.size _ i h)

  row_at : (i a j : ℕ) → i < 32 → j < 32 → row_in B i a j ≡ row_in A (old_in m i) a (old_in m j)
  unfolding row_in index_in
  row_at i a j h l =
      let e : (32 * i + j) / 32 ≡ i = omega arith in
      let k : (32 * i + j) % 32 ≡ j = omega arith in
      rw (parts.rows, parts.index, get_d_list_of 1024 (index_in m A) (32 * i + j) (omega arith), e, k)

-- The members are the group's variables by their new numbers.
module _ (P : Problem) (A : Arrays) (r : Groups) (g : ℕ) (m : Members) (poses : Poses P A) (grouped : Grouped P r) (holds : Holds r A.n g m) where
  open P use {n}

  group_agrees : (i : ℕ) → i < n → grouped_in r g i ≡ in_group P g i
  unfolding grouped_in in_group
  group_agrees i h = ap (λ (k : ℕ). eqb k g) (rw grouped.group (spread_at n (group_of P) i h))

  pub size_agrees : m.size ≡ group_size P g
  unfolding group_size new_number
  size_agrees = holds.size ∙ rw (← poses.states.size) (count_same n (grouped_in r g) (in_group P g) group_agrees)

  place_agrees : (t : ℕ) → at_place_in r A.n g t ≡ old_number P g t
  unfolding at_place_in old_number new_number
  place_agrees t = rw (← poses.states.size)
      (first-agree n _ _ λ i h. ap₂ (λ (b : Bool) (k : ℕ). b && eqb k t) (group_agrees i h) (count_same i (grouped_in r g) (in_group P g) λ j l. group_agrees j (omega arith)))

  old_agrees : (t : ℕ) → t < group_size P g → old_in m t ≡ old_number P g t
  unfolding old_in
  old_agrees t h =
      let s = size_agrees in
      let b = old_below P g t h in
      let e = poses.states.size in
      let w = poses.states.most in
      let z : get_or m.old t 0 ≡ old_number P g t = rw holds.old (spread_at m.size (at_place_in r A.n g) t (omega arith)) ∙ place_agrees t in
      omega arith

  -- So arrays that say the same of them state the group's problem.
  pub selected : (B : Arrays) → Renumbers A m B → Poses (group_problem P g) B
  unfolding group_problem
  selected B parts = record {
    states = record {
      size = sym (parts.n ∙ size_agrees);
      most = B.most;
      side = λ i h. poses.states.side (old_number P g i) (below i h) ∙ ap (bit A.universal) (sym (same i h)) ∙ sym (rw parts.universal (renumbered_bit m A.universal i (member i h)));
      joined = λ i j h l.
          poses.states.joined (old_number P g i) (old_number P g j) (below i h) (below j l)
          ∙ ap₂ (λ (a b : ℕ). bit (get_or A.near a 0) b) (sym (same i h)) (sym (same j l))
          ∙ sym (rw (near_at A m B parts i (member i h)) (renumbered_bit m _ j (member j l)));
      inside = λ i j h l. rw (near_at A m B parts i (member i h)) (renumbered_beyond m _ j (let e = parts.n in omega arith));
      row = λ i a j b h k l q.
          poses.states.row (old_number P g i) a (old_number P g j) b (below i h) k (below j l) q
          ∙ ap₂ (λ (x y : ℕ). bit (row_in A x a y) b) (sym (same i h)) (sym (same j l))
          ∙ ap (λ (x : ℕ). bit x b) (sym (row_at A m B parts i a j (let w = B.most in omega arith) (let w = B.most in omega arith)));
    };
    domain =
        ap (λ (k : ℕ). list_of k (λ t. get_or P.domain (old_number P g t) 0)) (sym size_agrees)
        ∙ list_of_same m.size _ _ (λ t h. let s = group t h in posed_domain P A poses (old_number P g t) (old t s) ∙ ap (λ (i : ℕ). get_or A.domains i 0) (sym (old_agrees t s)))
        ∙ sym (domain_at A m B parts);
  }
    where
      member : (t : ℕ) → t < B.n → t < m.size
      member t h = let e = parts.n in omega arith

      group : (t : ℕ) → t < m.size → t < group_size P g
      group t h = let e = size_agrees in omega arith

      old : (t : ℕ) → t < group_size P g → old_number P g t < A.n
      old t h = let e = poses.states.size in let b = old_below P g t h in omega arith

      below : (t : ℕ) → t < B.n → old_number P g t < A.n
      below t h = old t (group t (member t h))

      same : (t : ℕ) → t < B.n → old_in m t ≡ old_number P g t
      same t h = old_agrees t (group t (member t h))
