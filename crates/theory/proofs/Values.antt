-- One turn of the search, given that the turns below answer rightly: the loop over the values of an existential and of a universal
-- variable, the leaf, and what rule 7 skips.
use mathlib.Core.Path.{◌≡◌, refl, sym, ◌∙◌}
use mathlib.Core.Bool.{Bool, true, false, cond, not, ◌&&◌, ◌||◌}
use mathlib.Core.List.{List, ◌∷◌}
use mathlib.Core.Logic.{◌⊎◌, inl, inr}
use Prim.Native.Nat.{ℕ, zero, suc, ◌+◌, ◌^◌, ◌≤◌, ◌<◌}
use native.Mathlib.Omega.{arith}
use lib.Dec.{T, T_not, eqb, eqb→eq, eqb_refl, ltb, lt→ltb, ltb→lt}
use lib.Bits.{bit_or}
use lib.ListN.{get_or, length}
use borrow.Author.Tests.{eq-eqb, ne_eqb}
use Rattle.mask.specs.Range.{some, first}
use Rattle.mask.specs.Mask.{bit, mask_of}
use Rattle.mask.proofs.Logic.{holds, fails, clash, test, by_eq, by_lt, and_in, and_out, or_right}
use Rattle.mask.proofs.Range.{some_out, some_in, first_least, first_in}
use Rattle.mask.proofs.Bits.{bit_single}
use Rattle.mask.proofs.Masks.{bit-mask_of}
use Rattle.game.specs.Problem.{Problem}
use Rattle.game.specs.Game.{put, satisfied, narrow, Domains, Play}
use Rattle.game.specs.Lists.{domains}
use Rattle.game.specs.Position.{play_of}
use Rattle.game.specs.Search.{Ending, solved, failed, or_else, and_also, handed, hand_up, some_value, untried, each_value, broken, first_broken, leaf, around, skippable}
use Rattle.game.specs.Skipping.{shown, skipping}
use Rattle.theory.proofs.Transfer
use Rattle.theory.proofs.Transfer.{In, Inside}
use Rattle.theory.proofs.Swap.{start}
use Rattle.theory.proofs.Laws.{start_at, play}
use Rattle.theory.proofs.Moves.{turn_in, put_off, replace_at, replace_off, satisfied_in}
use Rattle.theory.proofs.Sound.{Outcome, State, Sound}
use Rattle.theory.proofs.Conflict.{Conflict, conflict_more, conflict-leaf, conflict-universal, conflict_jump, solid-wins}
use Rattle.theory.proofs.ReasonLists.{in_left, in_right}

-- What is untried after a leaf.
untried_is : (skips : ℕ → Bool) (a u b : ℕ) → b < 16 → bit (untried skips a u) b ≡ (ltb a b && (bit u b && not (skips b)))
unfolding untried
untried_is skips a u b h = bit-mask_of 16 (λ b. ltb a b && (bit u b && not (skips b))) b h

pub untried_sub : (skips : ℕ → Bool) (a u b : ℕ) → b < 16 → T (bit (untried skips a u) b) → T (bit u b)
untried_sub skips a u b h t = (and_out (bit u b) (not (skips b)) (and_out (ltb a b) (bit u b && not (skips b)) (rw (untried_is skips a u b h) at t)).1).0

-- The turn of the search, whose untried values are dropped after each leaf, is that turn.
pub skipping_is : (skips : List ℕ → ℕ → Bool) (d : ℕ) (f : ℕ → Ending) (v a u : ℕ) (ls : List (List ℕ)) (q : List ℕ) → v + a ≡ 16
    → ((b : ℕ) → a ≤ b → b < 16 → bit u b ≡ (bit d b && not (shown skips ls b))) → each_value skips f v a u q ≡ skipping skips d f v a ls q
unfolding each_value skipping shown
skipping_is skips d f zero a u ls q n e = refl
skipping_is skips d f (suc v) a u ls q n e = go (bit u a) (e a (omega arith) (omega arith)) (f a) (skipping_is skips d f v (suc a))
  where
    split : (x y z : Bool) → ((x && not y) && not z) ≡ (x && not (z || y))
    split true true true = refl
    split true true false = refl
    split true false true = refl
    split true false false = refl
    split false y z = refl

    one : (r : List ℕ) (b : ℕ) → suc a ≤ b → b < 16 → bit (untried (skips r) a u) b ≡ (bit d b && not (shown skips (r ∷ ls) b))
    one r b h l = untried_is (skips r) a u b l ∙ rw (holds {b = ltb a b} (lt→ltb a b h), e b (omega arith) l) (split (bit d b) (shown skips ls b) (skips r b))

    go : (b : Bool) → b ≡ (bit d a && not (shown skips ls a)) → (r : Ending)
        → ((u : ℕ) (ls : List (List ℕ)) (q : List ℕ) → v + suc a ≡ 16 → ((b : ℕ) → suc a ≤ b → b < 16 → bit u b ≡ (bit d b && not (shown skips ls b))) → each_value skips f v (suc a) u q ≡ skipping skips d f v (suc a) ls q)
        → cond b (and_also r (λ r. each_value skips f v (suc a) (untried (skips r) a u) r)) (each_value skips f v (suc a) u q)
        ≡ cond (bit d a && not (shown skips ls a)) (and_also r (λ r. skipping skips d f v (suc a) (r ∷ ls) r)) (skipping skips d f v (suc a) ls q)
    go true z r ih = rw (← z) (below r)
      where
        below : (r : Ending) → and_also r (λ r. each_value skips f v (suc a) (untried (skips r) a u) r) ≡ and_also r (λ r. skipping skips d f v (suc a) (r ∷ ls) r)
        below (solved q) = ih (untried (skips q) a u) (q ∷ ls) q (omega arith) (one q)
        below (failed S) = refl
    go false z r ih = rw (← z) (ih u ls q (omega arith) (λ b h l. e b (omega arith) l))

module _ (P : Problem) where
  open P use {n, universal, compatible, symmetric}

  -- What an answer means at a turn over D at the position (i, p) of the file's domains F: a won turn has a leaf inside D that extends p and
  -- breaks no constraint; a lost turn has a set such that every position with p's values there is lost.
  abbrev pub Fine : Domains → Domains → ℕ → Play → Ending → Type 0
  Fine F D i p (solved q) = T (start P D) × (length q ≡ n) × Inside D n (play_of q) × ((j : ℕ) → j < i → play_of q j ≡ p j) × T (satisfied compatible n (play_of q))
  Fine F D i p (failed S) = Conflict P F (bit S) i p

  -- Sets may grow, so what is handed up is fine too.
  pub hand_up_fine : (jump : Bool) (F D : Domains) (i : ℕ) (p : Play) (r : Ending) → Fine F D i p r → Fine F D i p (hand_up jump i r)
  unfolding hand_up handed
  hand_up_fine jump F D i p (solved q) h = h
  hand_up_fine jump F D i p (failed S) h =
      conflict_more P F (bit S) (bit (mask_of i (λ j. not jump || bit S j))) i p (λ j l t. rw (bit-mask_of i (λ j. not jump || bit S j) j l) (or_right (not jump) (bit S j) t)) h

  module _ (F D : Domains) (i : ℕ) (p : Play) (li : i < n) (e : List ℕ) (sE : State P i p (domains e)) where
    abbrev E : Domains
    E = domains e

    -- A leaf of this turn, whose list after its rules is e.
    abbrev pub Leaf : List ℕ → Type 0
    Leaf q = (length q ≡ n) × Inside (domains e) n (play_of q) × ((j : ℕ) → j < i → play_of q j ≡ p j) × T (satisfied compatible n (play_of q))

    abbrev pub Child : ℕ → Ending → Type 0
    Child a r = Fine F (narrow (domains e) i a) (suc i) (put p i a) r

    pub leaf_up : (a : ℕ) → In (E i) a → (q : List ℕ) → Child a (solved q) → Leaf q
    leaf_up a m q (_, z, h, f, s) = (
      z,
      (λ j l. by_eq j i (λ z. let k : In (λ b. eqb b a) (play_of q i) = rw (z, replace_at E i (λ b. eqb b a)) at (h j l) in rw (z, eqb→eq (play_of q i) a k.1) m)
          (λ z. rw (replace_off E i (λ b. eqb b a) j z) at (h j l))),
      (λ j l. f j (omega arith) ∙ put_off p i a j (omega arith)),
      s,
    )

    -- Rule 7: a value that passes the test of a leaf of this turn wins.
    pub skippable-wins : universal i ≡ true → (q : List ℕ) (a : ℕ) → Leaf q → In (domains e i) a → T (skippable P e i q a) → T (start P (narrow (domains e) i a))
    unfolding skippable around play_of
    skippable-wins s q a lf m t = solid-wins P (narrow E i a) (around P e i q a)
        (λ j l z b k. by_eq j i (λ e. rw (e, eq-eqb i i refl) (at_i b (rw e at k))) (λ e. off j l z b e (rw (replace_off E i (λ b. eqb b a) j e) at k)))
        (λ j l z. let ne : ¬ (j ≡ i) = λ e. clash z (rw (e, s) tt) in
        (get_or q j 0, rw (replace_off E i (λ b. eqb b a) j ne) (lf.1 j l), rw (ne_eqb j i ne, z) (fixed (ltb i j) (E j (get_or q j 0)) (get_or q j 0)))) t
      where
        at_i : (b : ℕ) → In (narrow E i a i) b → T (eqb b a)
        at_i b k = let r : In (λ b. eqb b a) b = rw (replace_at E i (λ b. eqb b a)) at k in r.1

        fixed : (x e : Bool) (b : ℕ) → T (cond (x && false) e (eqb b b))
        fixed true e b = eqb_refl b
        fixed false e b = eqb_refl b

        off : (j : ℕ) → j < n → universal j ≡ true → (b : ℕ) → ¬ (j ≡ i) → In (E j) b → T (cond (eqb j i) (eqb b a) (cond (ltb i j && universal j) (E j b) (eqb b (get_or q j 0))))
        off j l z b ne k = rw (ne_eqb j i ne, z) (by_lt i j (λ h. rw (holds {b = ltb i j} (lt→ltb i j h)) k.1)
            (λ h. either (ltb i j) k.1 (rw ((sE.played j (omega arith)).1 b k, ← (lf.2 j (omega arith))) (eqb_refl (get_or q j 0)))))
          where
            either : (x : Bool) → T (E j b) → T (eqb b (get_or q j 0)) → T (cond (x && true) (E j b) (eqb b (get_or q j 0)))
            either true u w = u
            either false u w = w

    module _ (f : ℕ → Ending) (ch : (a : ℕ) → In (domains e i) a → Child a (f a)) (Goal : Ending → Type 0)
        (won : (q : List ℕ) → T (start P (domains e)) → Leaf q → Goal (solved q)) (lost : (S : ℕ) → Conflict P F (bit S) i p → Goal (failed S)) where
      universal-wins : universal i ≡ true → ((b : ℕ) → In (E i) b → T (start P (narrow E i b))) → T (start P E)
      universal-wins s h = rw (play P E i p li sE.played, s) (turn_in true (E i) (λ a. start P (narrow E i a)) (λ b l m. h b (l, m)))

      existential_wins : universal i ≡ false → (b : ℕ) → In (E i) b → T (start P (narrow E i b)) → T (start P E)
      existential_wins s b m t = rw (play P E i p li sE.played, s) (turn_in false (E i) (λ a. start P (narrow E i a)) (b, m.0, m.1, t))

      -- The universal side: values that were tried or dropped are won, and there is a leaf once there is such a value.
      abbrev pub Past : ℕ → ℕ → List ℕ → Type 0
      Past a u q = (b : ℕ) → In (domains e i) b → (b < a) ⊎ (bit u b ≡ false) → T (start P (narrow (domains e) i b)) × Leaf q

      pub each_value_fine : universal i ≡ true → ((a : ℕ) → In (domains e i) a → T (F i a))
          → (skips : List ℕ → ℕ → Bool) → ((q : List ℕ) (a : ℕ) → Leaf q → In (domains e i) a → T (skips q a) → T (start P (narrow (domains e) i a)))
          → (v a u : ℕ) (q : List ℕ) → v + a ≡ 16 → ((b : ℕ) → b < 16 → T (bit u b) → T (domains e i b)) → Past a u q
          → Goal (each_value skips f v a u q)
      unfolding each_value
      each_value_fine s le skips ok zero a u q z sub h =
          let m = sE.foe_in i li s in
          won q (universal-wins s (λ b k. (h b k (inl (omega (arith, k.0)))).0)) (h (sE.foe i) m (inl (omega (arith, m.0)))).1
      each_value_fine s le skips ok (suc v) a u q z sub h = go (bit u a) refl (f a) refl (each_value_fine s le skips ok v (suc a))
        where
          next : (r : List ℕ) → Leaf r → T (start P (narrow E i a)) → Past (suc a) (untried (skips r) a u) r
          next r lf w b m (inl l) = by_eq b a (λ z. (rw z w, lf)) (λ z. ((h b m (inl (omega arith))).0, lf))
          next r lf w b m (inr z) = by_lt a b (λ l. later l) (λ l. by_eq b a (λ z. (rw z w, lf)) (λ z. ((h b m (inl (omega arith))).0, lf)))
            where
              later : a < b → T (start P (narrow E i b)) × Leaf r
              later l =
                  let k : (bit u b && not (skips r b)) ≡ false = rw (untried_is (skips r) a u b m.0, holds {b = ltb a b} (lt→ltb a b l)) at z in
                  test (bit u b) (λ t. (ok r b lf m (test (skips r b) (λ y. y) (λ y. absurd (clash k (and_in (bit u b) (not (skips r b)) t (rw y tt))))), lf)) (λ y. ((h b m (inr y)).0, lf))

          pass_by : bit u a ≡ false → Past (suc a) u q
          pass_by z b m (inl l) = by_eq b a (λ k. h b m (inr (rw k z))) (λ k. h b m (inl (omega arith)))
          pass_by z b m (inr k) = h b m (inr k)

          go : (m : Bool) → bit u a ≡ m → (r : Ending) → f a ≡ r
              → ((u : ℕ) (q : List ℕ) → v + suc a ≡ 16 → ((b : ℕ) → b < 16 → T (bit u b) → T (E i b)) → Past (suc a) u q → Goal (each_value skips f v (suc a) u q))
              → Goal (cond m (and_also r (λ r. each_value skips f v (suc a) (untried (skips r) a u) r)) (each_value skips f v (suc a) u q))
          go false me r re ih = ih u q (omega arith) sub (pass_by me)
          go true me (solved r) re ih =
              let m : In (E i) a = (omega arith, sub a (omega arith) (rw me tt)) in
              let c : Child a (solved r) = rw re at (ch a m) in
              ih (untried (skips r) a u) r (omega arith) (λ b l t. sub b l (untried_sub (skips r) a u b l t)) (next r (leaf_up a m r c) c.0)
          go true me (failed S) re ih =
              let m : In (E i) a = (omega arith, sub a (omega arith) (rw me tt)) in
              let c : Child a (failed S) = rw re at (ch a m) in
              lost S (conflict-universal P F (bit S) i p a li s (m.0, le a m) c)

      -- The existential side: J joins the sets of the values tried; `end` says what J must hold when all are lost.
      pub some_value_fine : universal i ≡ false → (jump : Bool) (first : ℕ)
          → ((J : ℕ) → ((b : ℕ) → In (domains e i) b → Conflict P F (bit J) (suc i) (put p i b)) → ((j : ℕ) → T (bit first j) → T (bit J j)) → Conflict P F (bit J) i p)
          → (v a J : ℕ) → v + a ≡ 16 → ((b : ℕ) → b < a → T (domains e i b) → Conflict P F (bit J) (suc i) (put p i b)) → ((j : ℕ) → T (bit first j) → T (bit J j))
          → Goal (some_value jump i (get_or e i 0) f v a J)
      unfolding some_value domains
      some_value_fine s jump first end zero a J z h up = lost J (end J (λ b m. h b (omega (arith, m.0)) m.1) up)
      some_value_fine s jump first end (suc v) a J z h up = go (bit (get_or e i 0) a) refl (f a) refl (some_value_fine s jump first end v (suc a))
        where
          Tried : ℕ → ℕ → Type 0
          Tried a J = (b : ℕ) → b < a → T (bit (get_or e i 0) b) → Conflict P F (bit J) (suc i) (put p i b)

          step : (S : ℕ) → Child a (failed S) → (w : Bool) → (jump && not (bit S i)) ≡ w
              → ((J : ℕ) → v + suc a ≡ 16 → Tried (suc a) J → ((j : ℕ) → T (bit first j) → T (bit J j)) → Goal (some_value jump i (get_or e i 0) f v (suc a) J))
              → Goal (cond w (failed S) (some_value jump i (get_or e i 0) f v (suc a) (bit_or J S)))
          step S c true we ih = lost S (conflict_jump P F (bit S) i p a li s (fails (λ t. T_not (bit S i) (and_out jump (not (bit S i)) (rw we tt)).1 t)) c)
          step S c false we ih = ih (bit_or J S) (omega arith)
              (λ b l m. by_eq b a (λ z. rw z (conflict_more P F (bit S) (bit (bit_or J S)) (suc i) (put p i a) (λ j _ t. in_right J S j t) c))
              (λ z. conflict_more P F (bit J) (bit (bit_or J S)) (suc i) (put p i b) (λ j _ t. in_left J S j t) (h b (omega arith) m)))
              (λ j t. in_left J S j (up j t))

          go : (m : Bool) → bit (get_or e i 0) a ≡ m → (r : Ending) → f a ≡ r
              → ((J : ℕ) → v + suc a ≡ 16 → Tried (suc a) J → ((j : ℕ) → T (bit first j) → T (bit J j)) → Goal (some_value jump i (get_or e i 0) f v (suc a) J))
              → Goal (cond m (or_else r (λ S. cond (jump && not (bit S i)) (failed S) (some_value jump i (get_or e i 0) f v (suc a) (bit_or J S)))) (some_value jump i (get_or e i 0) f v (suc a) J))
          go false me r re ih = ih J (omega arith) (λ b l m. by_eq b a (λ z. absurd (clash me (rw z at m))) (λ z. h b (omega arith) m)) up
          go true me (solved r) re ih =
              let m : In (E i) a = (omega arith, rw me tt) in
              let c : Child a (solved r) = rw re at (ch a m) in
              won r (existential_wins s a m c.0) (leaf_up a m r c)
          go true me (failed S) re ih =
              let c : Child a (failed S) = rw re at (ch a (omega arith, rw me tt)) in
              step S c (jump && not (bit S i)) refl ih

  -- A play that breaks a constraint has a first broken one, of (x, y), ascending.
  pub first_broken_is : (p : List ℕ) → satisfied compatible n (play_of p) ≡ false
      → (x y : ℕ) × (x < y) × (y < n) × (compatible x (get_or p x 0) y (get_or p y 0) ≡ false) × (first_broken P p ≡ bit_or (2 ^ x) (2 ^ y))
      × ((i j : ℕ) → i < j → j < n → (i < x) ⊎ ((i ≡ x) × (j < y)) → T (compatible i (get_or p i 0) j (get_or p j 0)))
  unfolding first_broken broken play_of
  first_broken_is p e =
      test (some n any (λ x. true))
      (λ t. let r = some_out n any (λ x. true) t in
      let z = first_in n any r.0 r.1 r.2 in
      let u = some_out n (λ y. true) (broken P p x) z.1 in
      let w = first_in n (broken P p x) u.0 u.1 u.3 in
      let g = and_out (ltb x y) (not (compatible x (get_or p x 0) y (get_or p y 0))) w.1 in
      (x, y, ltb→lt x y g.0, w.0, fails {b = compatible x (get_or p x 0) y (get_or p y 0)} (T_not (compatible x (get_or p x 0) y (get_or p y 0)) g.1), refl, least))
      (λ z. absurd (clash e (satisfied_in compatible n (play_of p) λ i j l h. test (compatible j (get_or p j 0) i (get_or p i 0)) (λ t. t) (λ q. absurd (clash z (some_in n any (λ x. true) j (omega arith)
      (some_in n (λ y. true) (broken P p j) i l tt (breaks j i h q)) tt))))))
    where
      any : ℕ → Bool
      any x = some n (λ y. true) (broken P p x)

      x : ℕ
      x = first n any

      y : ℕ
      y = first n (broken P p x)

      breaks : (i j : ℕ) → i < j → compatible i (get_or p i 0) j (get_or p j 0) ≡ false → T (ltb i j && not (compatible i (get_or p i 0) j (get_or p j 0)))
      breaks i j h q = and_in (ltb i j) (not (compatible i (get_or p i 0) j (get_or p j 0))) (lt→ltb i j h) (rw q tt)

      least : (i j : ℕ) → i < j → j < n → (i < x) ⊎ ((i ≡ x) × (j < y)) → T (compatible i (get_or p i 0) j (get_or p j 0))
      least i j h l (inl k) = test (compatible i (get_or p i 0) j (get_or p j 0)) (λ t. t) (λ q. absurd (clash (first_least n any i k) (some_in n (λ y. true) (broken P p i) j l tt (breaks i j h q))))
      least i j h l (inr k) = test (compatible i (get_or p i 0) j (get_or p j 0)) (λ t. t) (λ q. absurd (clash (first_least n (broken P p x) j k.1) (breaks x j (rw k.0 at h) (rw k.0 at q))))

  -- A leaf: where a rule found a loss a constraint is broken, so the verdict is the constraints' alone.
  pub leaf_game : (p : Play) (D : Domains) → State P n p D → start P D ≡ satisfied compatible n p
  leaf_game p D s = start_at P D n p (omega arith) s.played ∙ Transfer.from_end n universal (satisfied compatible n) D p

  pub leaf_is : (p : List ℕ) (D : Domains) (o : Outcome) (U : ℕ) → State P n (play_of p) D → Sound P n (play_of p) D o
      → leaf P o.loss U p ≡ cond (satisfied compatible n (play_of p)) (solved p) (failed (bit_or (first_broken P p) U))
  unfolding leaf
  leaf_is p D o U s h = go o.loss refl (satisfied compatible n (play_of p)) refl
    where
      go : (b : Bool) → o.loss ≡ b → (c : Bool) → satisfied compatible n (play_of p) ≡ c → cond (not b && c) (solved p) (failed (bit_or (first_broken P p) U)) ≡ cond c (solved p) (failed (bit_or (first_broken P p) U))
      go true e true q = let z : satisfied compatible n (play_of p) ≡ false = sym (leaf_game (play_of p) D s) ∙ (rw e at h.law) in absurd (clash z (rw q tt))
      go true e false q = refl
      go false e c q = refl

  pub leaf_fine : (F D : Domains) (p : List ℕ) (o : Outcome) (U : ℕ) → length p ≡ n → State P n (play_of p) D → Sound P n (play_of p) D o → Fine F D n (play_of p) (leaf P o.loss U p)
  unfolding play_of
  leaf_fine F D p o U z s h = rw (leaf_is p D o U s h) (go (satisfied compatible n (play_of p)) refl)
    where
      go : (c : Bool) → satisfied compatible n (play_of p) ≡ c → Fine F D n (play_of p) (cond c (solved p) (failed (bit_or (first_broken P p) U)))
      go true q = (rw (leaf_game (play_of p) D s, q) tt, z, (λ j l. (s.played j l).0), (λ j l. refl), rw q tt)
      go false q =
          let b = first_broken_is p q in
          let x = b.0 in
          let y = b.1 in
          conflict-leaf P F (bit (bit_or (first_broken P p) U)) x y (play_of p) (let h = b.2 in let k = b.3 in omega arith) b.3 (let h = b.2 in omega arith)
          (in_left (first_broken P p) U x (rw b.5 (in_left (2 ^ x) (2 ^ y) x (rw (bit_single x x) (eqb_refl x)))))
          (in_left (first_broken P p) U y (rw b.5 (in_right (2 ^ x) (2 ^ y) y (rw (bit_single y y) (eqb_refl y))))) b.4
