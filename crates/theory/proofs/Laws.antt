-- The laws that the rules use: narrowing of one domain, one turn of a position, losses, and pruning of values that no won position has.
use mathlib.Core.Path.{◌≡◌, sym, ◌∙◌}
use mathlib.Core.Bool.{Bool, true, false}
use Prim.Native.Nat.{ℕ, suc, ◌-◌, ◌≤◌, ◌<◌}
use native.Mathlib.Omega.{arith}
use lib.Dec.{T, eqb, eqb→eq, eqb_refl}
use Rattle.mask.proofs.Logic.{same, test, by_eq}
use Rattle.game.specs.Game.{put, turn, satisfied, replace, narrow, Domains, Play}
use Rattle.game.specs.Problem.{Problem}
use Rattle.theory.proofs.Moves.{put_at, put_off, replace_at, replace_off, satisfied_out, satisfied_in}
use Rattle.theory.proofs.Swap
use Rattle.theory.proofs.Swap.{start, Live, Meets, Better}
use Rattle.theory.proofs.Transfer
use Rattle.theory.proofs.Transfer.{In, Inside, Reply, from, turn_cong}

module _ (P : Problem) where
  open P use {n, universal, compatible, symmetric}

  -- How m covers a domain d, of which it is a part: at an existential variable by a better value for each that may win, at a universal
  -- one by a worse value for each.
  abbrev pub Cover : Bool → (ℕ → Bool) → (ℕ → Bool) → (ℕ → Type 0) → (ℕ → ℕ → Type 0) → Type 0
  Cover true d m W F = (b : ℕ) → In d b → (a : ℕ) × In m a × F a b
  Cover false d m W F = (a : ℕ) → In d a → W a → (b : ℕ) × In m b × F a b

  -- NARROWING: one variable's domain cut down to a part that covers it keeps the verdict.
  pub narrowing : (D : Domains) (x : ℕ) (m : ℕ → Bool) → x < n → ((a : ℕ) → In m a → T (D x a))
      → Cover (universal x) (D x) m (Live P D x) (Better P D x)
      → start P D ≡ start P (replace D x m)
  narrowing D x m lx sub c =
      same (start P D) (start P (replace D x m))
      (Swap.swap P D (replace D x m) x lx (replace_off D x m) (rw (replace_at D x m) (fwd (universal x) c)))
      (Swap.swap P (replace D x m) D x lx (λ j h. sym (replace_off D x m j h)) (rw (replace_at D x m) (bwd (universal x) c)))
    where
      B : ℕ → ℕ → Type 0
      B = Better P D x

      fwd : (s : Bool) → Cover s (D x) m (Live P D x) B → Reply s (D x) m (Live P D x) B
      fwd true c = λ b h. (b, (h.0, sub b h), λ j l ne v k t. t)
      fwd false c = c

      bwd : (s : Bool) → Cover s (D x) m (Live P D x) B
          → Reply s m (D x) (Live P (replace D x m) x) (Better P (replace D x m) x)
      bwd true c = λ b h. let r = c b h in (r.0, r.1, λ j l ne v k t. r.2 j l ne v (rw (replace_off D x m j ne) at k) t)
      bwd false c = λ a h w. (a, (h.0, sub a h), λ j l ne v k t. t)

  -- Rule 4: a is compatible with every value of every other domain.
  abbrev pub Pure : Domains → ℕ → ℕ → Type 0
  Pure D x a = (j : ℕ) → j < n → ¬ (j ≡ x) → (c : ℕ) → In (D j) c → T (compatible x a j c)

  -- A universal variable narrowed to a part that lacks only pure values.
  pub pure-universal : (D : Domains) (x : ℕ) (m : ℕ → Bool) → x < n → universal x ≡ true → ((a : ℕ) → In m a → T (D x a))
      → (a : ℕ) → In m a → ((b : ℕ) → In (D x) b → m b ≡ false → Pure D x b)
      → start P D ≡ start P (replace D x m)
  pure-universal D x m lx s sub a h pu =
      narrowing D x m lx sub (rw s λ b k. test (m b) (λ t. (b, (k.0, t), λ j l ne c v t. t)) (λ e. (a, h, λ j l ne c v t. pu b k e j l ne c v)))

  -- Rule 5: two values are compatible with the same values of every other domain.
  abbrev pub Equivalent : Domains → ℕ → ℕ → ℕ → Type 0
  Equivalent D x a b = (j : ℕ) → j < n → ¬ (j ≡ x) → (c : ℕ) → In (D j) c → compatible x a j c ≡ compatible x b j c

  -- A domain narrowed to a part with an equivalent for each value.
  pub substitute : (D : Domains) (x : ℕ) (m : ℕ → Bool) → x < n → ((a : ℕ) → In m a → T (D x a))
      → ((b : ℕ) → In (D x) b → (a : ℕ) × In m a × Equivalent D x a b)
      → start P D ≡ start P (replace D x m)
  substitute D x m lx sub f = narrowing D x m lx sub (go (universal x))
    where
      go : (s : Bool) → Cover s (D x) m (Live P D x) (Better P D x)
      go true = λ b k. let r = f b k in (r.0, r.1, λ j l ne c v t. rw (r.2 j l ne c v) at t)
      go false = λ b k w. let r = f b k in (r.0, r.1, λ j l ne c v t. rw (r.2 j l ne c v) t)

  -- Positions -----------------------------------------------------------------------------------------------------------
  abbrev pub at : Domains → ℕ → Play → Bool
  at D i p = from n universal (satisfied compatible n) D i p

  -- The test asks only for the values below n.
  pub satisfied_local : (p q : Play) → ((j : ℕ) → j < n → p j ≡ q j) → T (satisfied compatible n p) → T (satisfied compatible n q)
  satisfied_local p q e t = satisfied_in compatible n q λ i j h l. rw (← (e i h), ← (e j (omega arith))) (satisfied_out compatible n p t i j h l)

  -- The first i variables have one value each, that of p.
  abbrev pub Played : Domains → ℕ → Play → Type 0
  Played D i p = (j : ℕ) → j < i → In (D j) (p j) × ((a : ℕ) → In (D j) a → a ≡ p j)

  -- One more variable played.
  pub played-put : (D : Domains) (i : ℕ) (p : Play) (a : ℕ) → Played D i p → a < 16 → Played (narrow D i a) (suc i) (put p i a)
  played-put D i p a h l j m =
      by_eq j i (λ e. rw (e, replace_at D i (λ b. eqb b a), put_at p i a) ((l, eqb_refl a), λ b k. eqb→eq b a k.1))
      (λ e. rw (replace_off D i (λ b. eqb b a) j e, put_off p i a j e) (h j (omega arith)))

  -- The game over the domains of a position is the game from there.
  pub start_at : (D : Domains) (i : ℕ) (p : Play) → i ≤ n → Played D i p → start P D ≡ at D i p
  start_at D i p l h =
      Transfer.agree n universal (satisfied compatible n) satisfied_local D 0 (λ j. 0) p (omega arith) (λ j k. absurd (omega arith))
      ∙ Transfer.descend n universal (satisfied compatible n) D i p l h

  -- One turn, at the lowest variable that is not played.
  pub play : (D : Domains) (i : ℕ) (p : Play) → i < n → Played D i p → start P D ≡ turn (universal i) (D i) (λ a. start P (narrow D i a))
  play D i p l h =
      start_at D i p (omega arith) h ∙ Transfer.from_next n universal (satisfied compatible n) D i p l
      ∙ turn_cong (universal i) (D i) (λ a. at D (suc i) (put p i a)) (λ a. start P (narrow D i a)) λ a m.
      sym (start_at (narrow D i a) (suc i) (put p i a) l (played-put D i p a h m.0)
      ∙ Transfer.congruent n universal (satisfied compatible n) (narrow D i a) D (suc i) (λ j k v b w. rw (replace_off D i (λ b. eqb b a) j (omega arith))) (put p i a) l)

  -- Losses --------------------------------------------------------------------------------------------------------------
  -- Values of the universal side: v answers each universal variable inside its domain.
  abbrev pub Answers : Domains → Play → Type 0
  Answers D v = (j : ℕ) → j < n → universal j ≡ true → In (D j) (v j)

  -- Another value for the universal side at x.
  pub answers_put : (D : Domains) (v : Play) (x a : ℕ) → Answers D v → In (D x) a → Answers D (put v x a)
  answers_put D v x a f m j l s = by_eq j x (λ e. rw (e, put_at v x a) m) (λ e. rw (put_off v x a j e) (f j l s))

  -- A won game has an outcome against any values of the universal side.
  pub outcome : (D : Domains) (v : Play) → Answers D v → T (start P D) → (q : Play) × Inside D n q × ((j : ℕ) → j < n → universal j ≡ true → q j ≡ v j) × Meets P q
  outcome D v f t =
      let r = Transfer.outcome n universal (satisfied compatible n) D v f n 0 (λ j. 0) (omega arith) (λ j l. absurd (omega arith)) t in
      (r.0, r.1, λ j l s. r.3 j (omega arith) l s, Swap.meets_out P r.0 r.4)

  -- A live value has an outcome too.
  live_outcome : (D : Domains) (v : Play) → Answers D v → (x a : ℕ) → x < n → Live P D x a
      → (q : Play) × Inside D n q × (q x ≡ a) × ((j : ℕ) → x < j → j < n → universal j ≡ true → q j ≡ v j) × Meets P q
  live_outcome D v f x a l w =
      let r = Transfer.outcome n universal (satisfied compatible n) D v f (n - suc x) (suc x) w.0 (omega arith) w.1 w.3 in
      (r.0, r.1, r.2 x (omega arith) ∙ w.2, r.3, Swap.meets_out P r.0 r.4)

  -- Values that no won position has: one compatible with no value of another variable, one that clashes with some value of a later
  -- universal one.
  pub dies_alone : (D : Domains) (v : Play) → Answers D v → (x a y : ℕ) → x < n → y < n → ¬ (x ≡ y)
      → ((b : ℕ) → In (D y) b → T (compatible x a y b) → ⊥) → Live P D x a → ⊥
  dies_alone D v f x a y lx ly ne k w = let r = live_outcome D v f x a lx w in k (r.0 y) (r.1 y ly) (rw r.2 at (r.4 x y lx ly ne))

  pub dies_facing : (D : Domains) (v : Play) → Answers D v → (x a y b : ℕ) → x < y → y < n → universal y ≡ true → In (D y) b
      → (T (compatible x a y b) → ⊥) → Live P D x a → ⊥
  dies_facing D v f x a y b lx ly s m k w =
      let r = live_outcome D (put v y b) (answers_put D v y b f m) x a (omega arith) w in
      k (rw (r.2, r.3 y lx ly s, put_at v y b) at (r.4 x y (omega arith) ly (omega arith)))

  -- PRUNING: existential values that no won position has are taken out, any number of them at once.
  pub pruning : (D D' : Domains) → ((j a : ℕ) → T (D' j a) → T (D j a)) → ((j a : ℕ) → universal j ≡ true → T (D j a) → T (D' j a))
      → ((j : ℕ) → j < n → universal j ≡ false → (a : ℕ) → In (D j) a → D' j a ≡ false → Live P D j a → ⊥)
      → (i : ℕ) (p : Play) → i ≤ n → Inside D i p → at D i p ≡ at D' i p
  pruning D D' sub keep cut i p l h =
      same (at D i p) (at D' i p)
      (Transfer.prune n universal (satisfied compatible n) D D' (λ j l s a m. sub j a m.1) (λ j l s a m w. test (D' j a) (λ t. t) (λ e. absurd (cut j l s a m e w))) i p l h)
      (Transfer.monotone n universal (satisfied compatible n) D' D i (λ j g l s a m. keep j a s m.1) (λ j g l s a m. sub j a m.1) p l)
