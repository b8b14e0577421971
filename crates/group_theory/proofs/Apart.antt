-- The game of a problem and the games inside its groups, the other variables left out: no constraint joins two groups, so the whole
-- is won exactly if each of them is.
use mathlib.Core.Path.{◌≡◌, refl, sym, ◌∙◌}
use mathlib.Core.Bool.{Bool, true, false, cond, not, ◌&&◌, ◌||◌}
use Prim.Native.Nat.{ℕ, zero, suc, ◌+◌, ◌<◌}
use native.Mathlib.Omega.{arith}
use lib.Dec.{T, T_not}
use Rattle.mask.proofs.Logic.{holds, true_holds, clash, test, by_eq, and_in, and_out, or_left, or_right, or_out}
use Rattle.game.specs.Problem.{Problem}
use Rattle.game.specs.Game.{Domains, Play, put, turn, won, satisfied}
use Rattle.game.specs.Lists.{domains}
use Rattle.theory.proofs.Moves.{turn_out, turn_in, put_at, put_off, satisfied_out, satisfied_in}
use Rattle.theory.proofs.Transfer.{In}
use Rattle.theory.proofs.Lists.{file_lent}
use Rattle.problem_numbers.specs.Numbers.{tied}
use Rattle.group.specs.Groups.{group_of, groups, in_group}
use Rattle.group_theory.proofs.GroupLaws.{group_in, in_group-is, group_below, group_tied}

-- A turn keeps its win where each of its values does, and holds at some value where there is one.
turn_mono : (s : Bool) (d f g : ℕ → Bool) → ((a : ℕ) → T (f a) → T (g a)) → T (turn s d f) → T (turn s d g)
turn_mono true d f g e t = turn_in true d g (λ a l m. e a (turn_out true d f t a l m))
turn_mono false d f g e t = let w = turn_out false d f t in turn_in false d g (w.0, w.1, w.2, e w.0 w.3)

turn_some : (s : Bool) (d f : ℕ → Bool) → (a : ℕ) × In d a → T (turn s d f) → (a : ℕ) × T (f a)
turn_some true d f v t = (v.0, turn_out true d f t v.0 v.1.0 v.1.1)
turn_some false d f v t = let w = turn_out false d f t in (w.0, w.3)

-- The game of the chosen variables; the others keep the value of the play.
unfoldable pub won_among : (ℕ → Bool) → (ℕ → Bool) → (Play → Bool) → Domains → ℕ → ℕ → Play → Bool
won_among chosen universal Q D zero i p = Q p
won_among chosen universal Q D (suc k) i p =
    cond (chosen i) (turn (universal i) (D i) (λ a. won_among chosen universal Q D k (suc i) (put p i a))) (won_among chosen universal Q D k (suc i) p)

module _ (P : Problem) (chosen : ℕ → Bool) where
  open P use {n, domain, universal, compatible}

  -- Compatible, or not both chosen.
  unfoldable pub compatible_among : ℕ → ℕ → ℕ → ℕ → Bool
  compatible_among i a j b = not (chosen i && chosen j) || compatible i a j b

  pub among_out : (i a j b : ℕ) → T (compatible_among i a j b) → T (chosen i) → T (chosen j) → T (compatible i a j b)
  unfolding compatible_among
  among_out i a j b t u w =
      or_out (not (chosen i && chosen j)) (compatible i a j b) t (λ x. absurd (T_not (chosen i && chosen j) x (and_in (chosen i) (chosen j) u w))) (λ x. x)

  pub among_in : (i a j b : ℕ) → (T (chosen i) → T (chosen j) → T (compatible i a j b)) → T (compatible_among i a j b)
  unfolding compatible_among
  among_in i a j b f =
      test (chosen i && chosen j) (λ t. let r = and_out (chosen i) (chosen j) t in or_right (not (chosen i && chosen j)) (compatible i a j b) (f r.0 r.1))
      (λ e. or_left (not (chosen i && chosen j)) (compatible i a j b) (true_holds (rw e refl)))

  unfoldable pub wins_among : ℕ → ℕ → Play → Bool
  wins_among k i p = won_among chosen universal (satisfied compatible_among n) (domains domain) k i p

  -- It asks only for the values of chosen variables.
  local : (k i : ℕ) (p q : Play) → ((j : ℕ) → T (chosen j) → p j ≡ q j) → T (wins_among k i p) → T (wins_among k i q)
  unfolding wins_among won_among
  local zero i p q e t =
      satisfied_in compatible_among n q λ i j h l. among_in j (q j) i (q i) λ u w.
      let r = among_out j (p j) i (p i) (satisfied_out compatible_among n p t i j h l) u w in
      rw (← (e j u), ← (e i w)) r
  local (suc k) i p q e t = go (chosen i) t (λ p q. local k (suc i) p q)
    where
      puts : (a j : ℕ) → T (chosen j) → put p i a j ≡ put q i a j
      puts a j m = by_eq j i (λ z. rw z (put_at p i a ∙ sym (put_at q i a))) (λ z. put_off p i a j z ∙ e j m ∙ sym (put_off q i a j z))

      go : (b : Bool) → T (cond b (turn (universal i) (domains domain i) (λ a. wins_among k (suc i) (put p i a))) (wins_among k (suc i) p))
          → ((p q : Play) → ((j : ℕ) → T (chosen j) → p j ≡ q j) → T (wins_among k (suc i) p) → T (wins_among k (suc i) q))
          → T (cond b (turn (universal i) (domains domain i) (λ a. wins_among k (suc i) (put q i a))) (wins_among k (suc i) q))
      go true t f =
          turn_mono (universal i) (domains domain i) (λ a. wins_among k (suc i) (put p i a)) (λ a. wins_among k (suc i) (put q i a))
          (λ a. f (put p i a) (put q i a) (puts a)) t
      go false t f = f p q e t

  -- So what is put at a variable that is not chosen changes nothing.
  elsewhere : (k x i a : ℕ) (p : Play) → chosen i ≡ false → T (wins_among k x p) → T (wins_among k x (put p i a))
  elsewhere k x i a p d t = local k x p (put p i a) (λ j m. sym (put_off p i a j (λ e. clash d (rw e at m)))) t

  elsewhere_back : (k x i a : ℕ) (p : Play) → chosen i ≡ false → T (wins_among k x (put p i a)) → T (wins_among k x p)
  elsewhere_back k x i a p d t = local k x (put p i a) p (λ j m. put_off p i a j (λ e. clash d (rw e at m))) t

module _ (P : Problem) where
  open P use {n, domain, universal, compatible, constrained, free}

  -- The game from variable i on.
  abbrev wins_from : ℕ → ℕ → Play → Bool
  wins_from k i p = won universal (satisfied compatible n) (domains domain) k i p

  -- From the whole game to each group's.
  pub to_each : (g k i : ℕ) (p : Play) → k + i ≡ n → T (wins_from k i p) → T (wins_among P (in_group P g) k i p)
  unfolding wins_among won_among won
  to_each g zero i p e t =
      satisfied_in (compatible_among P (in_group P g)) n p λ i j h l. among_in P (in_group P g) j (p j) i (p i) λ u w. satisfied_out compatible n p t i j h l
  to_each g (suc k) i p e t =
      let f : (a : ℕ) → T (wins_from k (suc i) (put p i a)) → T (wins_among P (in_group P g) k (suc i) (put p i a)) = λ a. to_each g k (suc i) (put p i a) (omega arith) in
      test (in_group P g i)
      (λ c. rw (holds c) (turn_mono (universal i) (domains domain i) (λ a. wins_from k (suc i) (put p i a)) (λ a. wins_among P (in_group P g) k (suc i) (put p i a)) f t))
      (λ c. let w = turn_some (universal i) (domains domain i) (λ a. wins_from k (suc i) (put p i a)) ((file_lent P).full i (omega arith)) t in
      rw c (elsewhere_back P (in_group P g) k (suc i) i w.0 p c (f w.0 w.1)))

  -- And back.
  pub from_each : (k i : ℕ) (p : Play) → k + i ≡ n → ((g : ℕ) → g < groups P → T (wins_among P (in_group P g) k i p)) → T (wins_from k i p)
  unfolding wins_among won_among won tied
  from_each zero i p e f = satisfied_in compatible n p λ i j h l.
      let g = group_of P i in
      test (constrained j i)
      (λ c. let z = group_tied P j i (omega arith) h (or_left (constrained j i) (constrained i j) c) in
      among_out P (in_group P g) j (p j) i (p i) (satisfied_out (compatible_among P (in_group P g)) n p (f g (group_below P i h)) i j h l) (group_in P g j z) (group_in P g i refl))
      (λ c. free j i c (p j) (p i))
  from_each (suc k) i p e f =
      turn_mono (universal i) (domains domain i) (λ a. wins_among P (in_group P (group_of P i)) k (suc i) (put p i a)) (λ a. wins_from k (suc i) (put p i a))
      (λ a t. from_each k (suc i) (put p i a) (omega arith) (all a t))
      (rw (holds (group_in P (group_of P i) i refl)) at (f (group_of P i) (group_below P i (omega arith))))
    where
      all : (a : ℕ) → T (wins_among P (in_group P (group_of P i)) k (suc i) (put p i a)) → (g : ℕ) → g < groups P → T (wins_among P (in_group P g) k (suc i) (put p i a))
      all a t g l = test (in_group P g i) (λ c. rw (← (in_group-is P g i c)) t) (λ c. elsewhere P (in_group P g) k (suc i) i a p c (rw c at (f g l)))
