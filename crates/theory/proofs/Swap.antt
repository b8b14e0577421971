-- The game of a problem: at one variable, values exchanged for others that serve at least as well.
-- `swap` is the transfer that rules 4 and 5 rest on.
use mathlib.Core.Path.{◌≡◌, refl, sym, ◌∙◌}
use mathlib.Core.Bool.{Bool, true, false}
use Prim.Native.Nat.{ℕ, suc, ◌<◌}
use native.Mathlib.Omega.{arith}
use native.Mathlib.Nat.{sub-zero}
use lib.Dec.{T}
use Rattle.game.specs.Problem.{Problem}
use Rattle.mask.proofs.Logic.{by_lt, by_eq}
use Rattle.game.specs.Game.{put, satisfied, wins, Domains, Play}
use Rattle.theory.proofs.Moves.{put_at, put_off, satisfied_out, satisfied_in}
use Rattle.theory.proofs.Transfer.{In, Inside, inside_put, Reply, from, Alive, transfer}

-- Replies by weaker means; replies with the same value.
reply_map : (s : Bool) (d d' : ℕ → Bool) {W W' : ℕ → Type 0} {F F' : ℕ → ℕ → Type 0}
    → ((a : ℕ) → In d a → W' a → W a) → ((a b : ℕ) → In d a → F a b → F' a b) → Reply s d d' W F → Reply s d d' W' F'
reply_map true d d' w f r = λ b m. let x = r b m in (x.0, x.1, f x.0 b x.1 x.2)
reply_map false d d' w f r = λ a m v. let x = r a m (w a m v) in (x.0, x.1, f a x.0 m x.2)

reply_same : (s : Bool) (d : ℕ → Bool) (W : ℕ → Type 0) (F : ℕ → ℕ → Type 0) → ((a : ℕ) → In d a → F a a) → Reply s d d W F
reply_same true d W F f = λ b m. (b, m, f b m)
reply_same false d W F f = λ a m v. (a, m, f a m)

module _ (P : Problem) where
  open P use {n, universal, compatible, symmetric}

  -- The game from its start, which is `wins`.
  abbrev pub start : Domains → Bool
  start D = from n universal (satisfied compatible n) D 0 (λ j. 0)

  pub wins-start : (D : Domains) → wins n universal compatible D ≡ start D
  unfolding wins from
  wins-start D = rw sub-zero

  -- A value with which some position is won; a play all of whose pairs are compatible.
  abbrev pub Live : Domains → ℕ → ℕ → Type 0
  Live D x a = Alive n universal (satisfied compatible n) D x a

  abbrev pub Meets : Play → Type 0
  Meets p = (i j : ℕ) → i < n → j < n → ¬ (i ≡ j) → T (compatible i (p i) j (p j))

  -- A satisfied play has all its pairs compatible, either way round, and back.
  pub meets_out : (p : Play) → T (satisfied compatible n p) → Meets p
  meets_out p t i j l m ne = by_lt i j (λ h. satisfied_out compatible n p t j i m h) (λ h. rw (symmetric i (p i) j (p j)) (satisfied_out compatible n p t i j l (omega arith)))

  pub meets_in : (p : Play) → Meets p → T (satisfied compatible n p)
  meets_in p m = satisfied_in compatible n p λ i j h l. m j i (omega arith) h (omega arith)

  -- b in place of a at variable x breaks no pair with a value of another domain.
  abbrev pub Better : Domains → ℕ → ℕ → ℕ → Type 0
  Better D x a b = (j : ℕ) → j < n → ¬ (j ≡ x) → (c : ℕ) → In (D j) c → T (compatible x a j c) → T (compatible x b j c)

  -- SWAP: a win over D is one over D', which differs at x alone, if x's values answer each other by better ones.
  pub swap : (D D' : Domains) (x : ℕ) → x < n → ((j : ℕ) → ¬ (j ≡ x) → D' j ≡ D j)
      → Reply (universal x) (D x) (D' x) (Live D x) (Better D x) → T (start D) → T (start D')
  swap D D' x lx off f = transfer n universal (satisfied compatible n) D D' R step leaf 0 (λ j. 0) (λ j. 0) (omega arith) (λ j l. absurd (omega arith), λ j ne. refl, λ l. absurd (omega arith))
    where
      R : ℕ → Play → Play → Type 0
      R i p q = Inside D i p × ((j : ℕ) → ¬ (j ≡ x) → p j ≡ q j) × (x < i → Better D x (p x) (q x))

      W : ℕ → Play → ℕ → Type 0
      W i p a = T (from n universal (satisfied compatible n) D (suc i) (put p i a))

      both : (i : ℕ) (p q : Play) (a b : ℕ) → ((j : ℕ) → ¬ (j ≡ x) → p j ≡ q j) → (¬ (i ≡ x) → a ≡ b) → (j : ℕ) → ¬ (j ≡ x) → put p i a j ≡ put q i b j
      both i p q a b h e j ne =
          by_eq j i (λ g. rw (g, put_at p i a, put_at q i b) (e (λ z. ne (g ∙ z)))) (λ g. put_off p i a j g ∙ h j ne ∙ sym (put_off q i b j g))

      here : (p q : Play) → R x p q → Reply (universal x) (D x) (D' x) (W x p) (λ a b. R (suc x) (put p x a) (put q x b))
      here p q r =
          reply_map (universal x) (D x) (D' x) (λ a m w. (put p x a, inside_put D x p a r.0 m, put_at p x a, w))
          (λ a b m g. (inside_put D x p a r.0 m, both x p q a b r.1 (λ z. absurd (z refl)), λ _. rw (put_at p x a, put_at q x b) g)) f

      away : (i : ℕ) (p q : Play) → ¬ (i ≡ x) → R i p q → Reply (universal i) (D i) (D i) (W i p) (λ a b. R (suc i) (put p i a) (put q i b))
      away i p q ne r =
          reply_same (universal i) (D i) (W i p) (λ a b. R (suc i) (put p i a) (put q i b)) λ a m. (
            inside_put D i p a r.0 m,
            both i p q a a r.1 (λ _. refl),
            λ l. rw (put_off p i a x (λ z. ne (sym z)), put_off q i a x (λ z. ne (sym z))) (r.2 (omega arith)),
          )

      step : (i : ℕ) (p q : Play) → i < n → R i p q → Reply (universal i) (D i) (D' i) (W i p) (λ a b. R (suc i) (put p i a) (put q i b))
      step i p q l r = by_eq i x (λ e. rw e (here p q (rw e at r))) (λ ne. rw (off i ne) (away i p q ne r))

      at : (p q : Play) → R n p q → Meets p → (j : ℕ) → j < n → ¬ (j ≡ x) → T (compatible x (q x) j (q j))
      at p q r m j l ne = rw (← (r.1 j ne)) (r.2 lx j l ne (p j) (r.0 j l) (m x j lx l (λ z. ne (sym z))))

      leaf : (p q : Play) → R n p q → T (satisfied compatible n p) → T (satisfied compatible n q)
      leaf p q r t =
          let m = meets_out p t in
          meets_in q λ i j li lj ne.
          by_eq i x (λ e. rw e (at p q r m j lj (λ z. ne (e ∙ sym z))))
          (λ ni. by_eq j x (λ e. rw (e, symmetric i (q i) x (q x)) (at p q r m i li ni)) (λ nj. rw (← (r.1 i ni), ← (r.1 j nj)) (m i j li lj ne)))
