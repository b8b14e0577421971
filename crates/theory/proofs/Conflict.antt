-- What rules 6 and 7 rest on: sets of variables with which a position is lost, and boxes of values with which a game is won.
use mathlib.Core.Path.{◌≡◌, refl, sym, ◌∙◌}
use mathlib.Core.Bool.{Bool, true, false}
use Prim.Native.Nat.{ℕ, suc, ◌<◌}
use native.Mathlib.Omega.{arith}
use lib.Dec.{T}
use Rattle.mask.proofs.Logic.{clash, by_eq}
use Rattle.mask.proofs.Range.{each_out}
use Rattle.mask.specs.Range.{each}
use Rattle.game.specs.Game.{put, satisfied, Domains, Play}
use Rattle.game.specs.Problem.{Problem}
use Rattle.game.specs.Search.{solid}
use Rattle.theory.proofs.Laws.{at}
use Rattle.theory.proofs.Moves.{Turn, put_at, put_off, satisfied_in}
use Rattle.theory.proofs.Swap
use Rattle.theory.proofs.Swap.{start}
use Rattle.theory.proofs.Transfer
use Rattle.theory.proofs.Transfer.{In, Inside}

module _ (P : Problem) where
  open P use {n, universal, compatible, symmetric}

  -- Every position of depth i with p's values at the variables in S is lost.
  abbrev pub Conflict : Domains → (ℕ → Bool) → ℕ → Play → Type 0
  Conflict D S i p = (q : Play) → Inside D i q → ((j : ℕ) → j < i → T (S j) → q j ≡ p j) → T (at P D i q) → ⊥

  -- Sets may grow.
  pub conflict_more : (D : Domains) (S U : ℕ → Bool) (i : ℕ) (p : Play) → ((j : ℕ) → j < i → T (S j) → T (U j)) → Conflict D S i p → Conflict D U i p
  conflict_more D S U i p f h q z e = h q z (λ j l s. e j l (f j l s))

  -- A leaf: the two variables of a broken constraint.
  pub conflict-leaf : (D : Domains) (S : ℕ → Bool) (x y : ℕ) (p : Play) → x < n → y < n → ¬ (x ≡ y) → T (S x) → T (S y) → compatible x (p x) y (p y) ≡ false → Conflict D S n p
  conflict-leaf D S x y p lx ly ne sx sy e q z f t =
      clash e (rw (f x lx sx, f y ly sy) at (Swap.meets_out P q (rw (Transfer.from_end n universal (satisfied compatible n) D q) at t) x y lx ly ne))

  -- One more value in both plays.
  pub put_same : (S : ℕ → Bool) (i : ℕ) (p q : Play) (a : ℕ) → ((j : ℕ) → j < i → T (S j) → q j ≡ p j) → (j : ℕ) → j < suc i → T (S j) → put q i a j ≡ put p i a j
  put_same S i p q a f j l s = by_eq j i (λ e. rw (e, put_at q i a, put_at p i a)) (λ e. put_off q i a j e ∙ f j (omega arith) s ∙ sym (put_off p i a j e))

  -- A universal variable: the set of one value that loses.
  pub conflict-universal : (D : Domains) (S : ℕ → Bool) (i : ℕ) (p : Play) (a : ℕ) → i < n → universal i ≡ true → In (D i) a → Conflict D S (suc i) (put p i a) → Conflict D S i p
  conflict-universal D S i p a l s m h q z f t =
      let w : Turn true (D i) (λ a. T (at P D (suc i) (put q i a))) = rw s at (Transfer.next n universal (satisfied compatible n) D i q l t) in
      h (put q i a) (Transfer.inside_put D i q a z m) (put_same S i p q a f) (w a m.0 m.1)

  -- An existential variable: the set of one value's loss that does not name the variable.
  pub conflict_jump : (D : Domains) (S : ℕ → Bool) (i : ℕ) (p : Play) (a : ℕ) → i < n → universal i ≡ false → S i ≡ false → Conflict D S (suc i) (put p i a) → Conflict D S i p
  conflict_jump D S i p a l s o h q z f t =
      let w : Turn false (D i) (λ a. T (at P D (suc i) (put q i a))) = rw s at (Transfer.next n universal (satisfied compatible n) D i q l t) in
      h (put q i w.0) (Transfer.inside_put D i q w.0 z (w.1, w.2)) (λ j k u. by_eq j i (λ e. absurd (clash o (rw e at u))) (λ e. put_off q i w.0 j e ∙ f j (omega arith) u ∙ sym (put_off p i a j e))) w.3

  -- A box W of values in which all pairs are compatible, with every value of D at universal variables and one at existential ones, wins.
  solid_out : (W : Domains) → T (solid P W) → (i j b c : ℕ) → i < n → j < i → In (W i) b → In (W j) c → T (compatible j c i b)
  unfolding solid
  solid_out W t i j b c l h m k =
      each_out 16 (W j) (λ c. compatible j c i b)
      (each_out 16 (W i) (λ b. each 16 (W j) (λ c. compatible j c i b))
      (each_out i (λ j. true) (λ j. each 16 (W i) (λ b. each 16 (W j) (λ c. compatible j c i b)))
      (each_out n (λ i. true) (λ i. each i (λ j. true) (λ j. each 16 (W i) (λ b. each 16 (W j) (λ c. compatible j c i b)))) t i l tt) j h tt) b m.0 m.1) c k.0 k.1

  pub solid-wins : (D W : Domains) → ((j : ℕ) → j < n → universal j ≡ true → (b : ℕ) → In (D j) b → T (W j b))
      → ((j : ℕ) → j < n → universal j ≡ false → (b : ℕ) × In (D j) b × T (W j b)) → T (solid P W) → T (start P D)
  solid-wins D W u e t =
      Transfer.win n universal (satisfied compatible n) D (Inside W) (λ i p l h. go i p l h (universal i) refl)
      (λ p h. satisfied_in compatible n p λ i j l k. solid_out W t i j (p i) (p j) l k (h i l) (h j (omega arith))) n 0 (λ j. 0) (omega arith) (λ j l. absurd (omega arith))
    where
      go : (i : ℕ) (p : Play) → i < n → Inside W i p → (s : Bool) → universal i ≡ s → Turn s (D i) (λ a. Inside W (suc i) (put p i a))
      go i p l h true s = λ a k m. Transfer.inside_put W i p a h (k, u i l s a (k, m))
      go i p l h false s = let r = e i l s in (r.0, r.1.0, r.1.1, Transfer.inside_put W i p r.0 h (r.1.0, r.2))
