-- "The job is won exactly if each group is": a problem's verdict is that all its groups' problems are won.
use mathlib.Core.Path.{◌≡◌, sym, ap, ◌∙◌, fun_ext}
use mathlib.Core.Bool.{Bool, true, false}
use mathlib.Core.List.{[]}
use Prim.Native.Nat.{ℕ, zero, suc, ◌+◌, ◌<◌}
use native.Mathlib.Omega.{arith}
use lib.Dec.{T}
use lib.ListN.{get_or}
use Rattle.mask.specs.Range.{each, count}
use Rattle.mask.specs.Mask.{bit}
use Rattle.mask.proofs.Logic.{same, holds, clash, test, by_eq}
use Rattle.mask.proofs.Range.{each_in, each_out}
use Rattle.game.specs.Problem.{Problem}
use Rattle.game.specs.Game.{Play, put, turn, won, wins, satisfied}
use Rattle.game.specs.Lists.{domains, wins_over}
use Rattle.game.specs.Position.{position, narrowed}
use Rattle.game.specs.Winning.{verdict}
use Rattle.theory.proofs.Moves.{put_at, put_off, satisfied_out, satisfied_in}
use Rattle.theory.proofs.Transfer.{turn_cong}
use Rattle.theory.proofs.Lists.{get_d_list_of}
use Rattle.group.specs.Groups.{groups, in_group, new_number, old_number, group_size}
use Rattle.group.specs.GroupProblem.{old_below, group_problem}
use Rattle.group_theory.proofs.Renumbered.{old_in, new_below, old_new, new_next, new_same, new_less, old_up}
use Rattle.group_theory.proofs.Apart.{compatible_among, among_in, among_out, wins_among, won_among, to_each, from_each}

module _ (P : Problem) where
  open P use {n, domain, universal, compatible}

  -- ---- the problem of a group is the game inside the group

  module _ (g : ℕ) where
    -- Domain and side of a variable, by its new number.
    domain_is : (i : ℕ) → i < n → T (in_group P g i) → domains (group_problem P g).domain (new_number P g i) ≡ domains domain i
    unfolding group_problem domains
    domain_is i h t =
        fun_ext λ a.
        ap (λ (x : ℕ). bit x a)
        (get_d_list_of (group_size P g) (λ t. get_or domain (old_number P g t) 0) (new_number P g i) (new_below P g i h t) ∙ ap (λ (z : ℕ). get_or domain z 0) (old_new P g i h t))

    side_is : (i : ℕ) → i < n → T (in_group P g i) → (group_problem P g).universal (new_number P g i) ≡ universal i
    unfolding group_problem
    side_is i h t = ap universal (old_new P g i h t)

    -- The game of the group's problem from its variable t on.
    abbrev wins_new : ℕ → ℕ → Play → Bool
    wins_new m t q = won (group_problem P g).universal (satisfied (group_problem P g).compatible (group_size P g)) (domains (group_problem P g).domain) m t q

    -- A play of the group's problem against one of the problem, on the variables below i.
    abbrev Same : ℕ → Play → Play → Type 0
    Same i p q = (j : ℕ) → j < i → T (in_group P g j) → q (new_number P g j) ≡ p j

    same_end : (p q : Play) → Same n p q → satisfied (compatible_among P (in_group P g)) n p ≡ satisfied (group_problem P g).compatible (group_size P g) q
    unfolding group_problem
    same_end p q r =
        same (satisfied (compatible_among P (in_group P g)) n p) (satisfied (group_problem P g).compatible (group_size P g) q)
        (λ t. satisfied_in (group_problem P g).compatible (group_size P g) q λ x y h l.
        let u = old_number P g x in
        let v = old_number P g y in
        let a = old_in P g x h in
        let b = old_in P g y (omega arith) in
        let hu = old_below P g x h in
        let hv = old_below P g y (omega arith) in
        let eu : q x ≡ p u = ap q (sym a.1) ∙ r u hu a.0 in
        let ev : q y ≡ p v = ap q (sym b.1) ∙ r v hv b.0 in
        rw (eu, ev) (among_out P (in_group P g) v (p v) u (p u) (satisfied_out (compatible_among P (in_group P g)) n p t u v hu (old_up P g y x l h)) b.0 a.0))
        (λ t. satisfied_in (compatible_among P (in_group P g)) n p λ i j h l. among_in P (in_group P g) j (p j) i (p i) λ u w.
        let c : T (compatible (old_number P g (new_number P g j)) (q (new_number P g j)) (old_number P g (new_number P g i)) (q (new_number P g i))) =
        satisfied_out (group_problem P g).compatible (group_size P g) q t (new_number P g i) (new_number P g j) (new_below P g i h w) (new_less P g j i l u) in
        rw (old_new P g i h w, old_new P g j (omega arith) u, r i h w, r j (omega arith) u) at c)

    -- From variable i on: the others are passed over.
    renumbered : (k i m : ℕ) (p q : Play) → k + i ≡ n → m + new_number P g i ≡ group_size P g → Same i p q
        → wins_among P (in_group P g) k i p ≡ wins_new m (new_number P g i) q
    unfolding wins_among won_among won group_size
    renumbered zero i zero p q e f r = let z : i ≡ n = omega arith in same_end p q (λ j h. r j (rw z h))
    renumbered zero i (suc m) p q e f r = let z : i ≡ n = omega arith in let f' : suc m + new_number P g n ≡ new_number P g n = rw z at f in absurd (omega arith)
    renumbered (suc k) i m p q e f r =
        test (in_group P g i) (λ t. let z : in_group P g i ≡ true = holds t in rw z (own t m f (λ m p q. renumbered k (suc i) m p q (omega arith))))
        (λ z. rw z (other z (renumbered k (suc i) m p q (omega arith))))
      where
        h : i < n
        h = omega arith

        other : in_group P g i ≡ false
            → (m + new_number P g (suc i) ≡ group_size P g → Same (suc i) p q → wins_among P (in_group P g) k (suc i) p ≡ wins_new m (new_number P g (suc i)) q)
            → wins_among P (in_group P g) k (suc i) p ≡ wins_new m (new_number P g i) q
        other z ih = rw (new_same P g i z) at (ih (rw (new_same P g i z) f) (λ j l t. by_eq j i (λ w. absurd (clash z (rw w at t))) (λ w. r j (omega arith) t)))

        own : T (in_group P g i) → (m : ℕ) → m + new_number P g i ≡ group_size P g
            → ((m : ℕ) (p q : Play) → m + new_number P g (suc i) ≡ group_size P g → Same (suc i) p q → wins_among P (in_group P g) k (suc i) p ≡ wins_new m (new_number P g (suc i)) q)
            → turn (universal i) (domains domain i) (λ a. wins_among P (in_group P g) k (suc i) (put p i a)) ≡ wins_new m (new_number P g i) q
        own t zero f ih = absurd (omega (arith, new_below P g i h t))
        own t (suc m) f ih =
            rw (side_is i h t, domain_is i h t)
            (turn_cong (universal i) (domains domain i) (λ a. wins_among P (in_group P g) k (suc i) (put p i a)) (λ a. wins_new m (suc (new_number P g i)) (put q (new_number P g i) a))
            λ a x. rw (new_next P g i t) at (ih m (put p i a) (put q (new_number P g i) a) (rw (new_next P g i t) (omega arith))
            (λ j l u. by_eq j i (λ w. rw w (put_at q (new_number P g i) a ∙ sym (put_at p i a)))
            (λ w. put_off q (new_number P g i) a (new_number P g j) (λ y. absurd (omega (arith, y, new_less P g j i (omega arith) u))) ∙ r j (omega arith) u ∙ sym (put_off p i a j w)))))

    -- From the start.
    group_wins : wins_among P (in_group P g) n 0 (λ j. 0) ≡ verdict (group_problem P g) []
    unfolding verdict wins_over wins position narrowed new_number count group_problem group_size
    group_wins = renumbered n 0 (group_size P g) (λ j. 0) (λ j. 0) (omega arith) (omega arith) (λ j l t. absurd (omega arith))

  -- ---- the verdict

  whole : T (verdict P []) → (g : ℕ) → T (verdict (group_problem P g) [])
  unfolding verdict wins_over wins position narrowed
  whole t g = rw (group_wins g) at (to_each P g n 0 (λ j. 0) (omega arith) t)

  parts : ((g : ℕ) → g < groups P → T (verdict (group_problem P g) [])) → T (verdict P [])
  unfolding verdict wins_over wins position narrowed
  parts f = from_each P n 0 (λ j. 0) (omega arith) (λ g l. rw (group_wins g) (f g l))

  -- "The job is won exactly if each group is."
  pub groups_verdict : verdict P [] ≡ each (groups P) (λ g. true) (λ g. verdict (group_problem P g) [])
  groups_verdict =
      same (verdict P []) (each (groups P) (λ g. true) (λ g. verdict (group_problem P g) []))
      (λ t. each_in (groups P) (λ g. true) (λ g. verdict (group_problem P g) []) λ g l m. whole t g)
      (λ t. parts λ g l. each_out (groups P) (λ g. true) (λ g. verdict (group_problem P g) []) t g l tt)
