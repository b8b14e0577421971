-- The general laws of the game, for any test of the play at the end: unfolding, certificates of a win, and the one lemma from which the
-- rules follow, `transfer`: a win of one game carries over to another along a relation of their plays. Its dual is `outcome`.
use mathlib.Core.Path.{◌≡◌, refl, sym, ◌∙◌}
use mathlib.Core.Bool.{Bool, true, false}
use Prim.Native.Nat.{ℕ, zero, suc, ◌+◌, ◌-◌, ◌≤◌, ◌<◌}
use native.Mathlib.Omega.{arith}
use lib.Dec.{T}
use Rattle.mask.proofs.Logic.{same, clash, by_eq}
use Rattle.game.specs.Game.{Domains, Play, put, turn, won}
use Rattle.theory.proofs.Moves.{Turn, turn_out, turn_in, put_at, put_off, put_self}

-- A value of a domain.
abbrev pub In : (ℕ → Bool) → ℕ → Type 0
In d a = (a < 16) × T (d a)

-- The values of the first i variables lie in the domains.
abbrev pub Inside : Domains → ℕ → Play → Type 0
Inside D i p = (j : ℕ) → j < i → In (D j) (p j)

-- One more value inside; no value at all.
pub inside_put : (D : Domains) (i : ℕ) (p : Play) (a : ℕ) → Inside D i p → In (D i) a → Inside D (suc i) (put p i a)
inside_put D i p a h m j l = by_eq j i (λ e. rw (e, put_at p i a) m) (λ e. rw (put_off p i a j e) (h j (omega arith)))

pub inside_none : (D : Domains) (p : Play) → Inside D 0 p
inside_none D p j l = absurd (omega arith)

-- Plays that agree below i agree below i + 1 when the same value is put at i.
pub both-put : (p q : Play) (i a : ℕ) → ((j : ℕ) → j < i → p j ≡ q j) → (j : ℕ) → j < suc i → put p i a j ≡ put q i a j
both-put p q i a r j l = by_eq j i (λ e. rw (e, put_at p i a, put_at q i a)) (λ e. put_off p i a j e ∙ r j (omega arith) ∙ sym (put_off q i a j e))

-- A turn asks only for the values of its domain; one with a single value asks for that.
pub turn_cong : (s : Bool) (d f g : ℕ → Bool) → ((a : ℕ) → In d a → f a ≡ g a) → turn s d f ≡ turn s d g
turn_cong s d f g e = same (turn s d f) (turn s d g) (λ t. go s f g e t) (λ t. go s g f (λ a m. sym (e a m)) t)
  where
    go : (s : Bool) (f g : ℕ → Bool) → ((a : ℕ) → In d a → f a ≡ g a) → T (turn s d f) → T (turn s d g)
    go true f g e t = turn_in true d g (λ a l m. rw (e a (l, m)) at (turn_out true d f t a l m))
    go false f g e t = let w = turn_out false d f t in turn_in false d g (w.0, w.1, w.2, rw (e w.0 (w.1, w.2)) at w.3)

pub turn_one : (s : Bool) (d : ℕ → Bool) (x : ℕ) (f : ℕ → Bool) → x < 16 → T (d x) → ((a : ℕ) → In d a → a ≡ x) → turn s d f ≡ f x
turn_one true d x f l m o = same (turn true d f) (f x) (λ t. turn_out true d f t x l m) (λ t. turn_in true d f (λ a h k. rw (o a (h, k)) t))
turn_one false d x f l m o =
    same (turn false d f) (f x) (λ t. let w = turn_out false d f t in rw (o w.0 (w.1, w.2)) at w.3) (λ t. turn_in false d f (x, l, m, t))

-- What one side needs to answer a value of the other game: at a universal variable the second game's value is given, at an existential
-- one the first game's, of which W may tell something.
abbrev pub Reply : Bool → (ℕ → Bool) → (ℕ → Bool) → (ℕ → Type 0) → (ℕ → ℕ → Type 0) → Type 0
Reply true d d' W F = (b : ℕ) → In d' b → (a : ℕ) × In d a × F a b
Reply false d d' W F = (a : ℕ) → In d a → W a → (b : ℕ) × In d' b × F a b

module _ (n : ℕ) (universal : ℕ → Bool) (Q : Play → Bool) where
  -- The game from variable i on.
  unfoldable pub from : Domains → ℕ → Play → Bool
  from D i p = won universal Q D (n - i) i p

  -- Unfolding at the next variable, and at the end.
  pub from_next : (D : Domains) (i : ℕ) (p : Play) → i < n → from D i p ≡ turn (universal i) (D i) (λ a. from D (suc i) (put p i a))
  unfolding from won
  from_next D i p h = let e : n - i ≡ suc (n - suc i) = omega arith in rw e

  pub from_end : (D : Domains) (p : Play) → from D n p ≡ Q p
  unfolding from won
  from_end D p = let e : n - n ≡ 0 = omega arith in rw e

  pub next : (D : Domains) (i : ℕ) (p : Play) → i < n → T (from D i p) → Turn (universal i) (D i) (λ a. T (from D (suc i) (put p i a)))
  next D i p h t = turn_out (universal i) (D i) (λ a. from D (suc i) (put p i a)) (rw (from_next D i p h) at t)

  -- A certificate of a win: positions Inv in which the existential side can stay, and that pass the test at the end.
  pub win : (D : Domains) (Inv : ℕ → Play → Type 0)
      → ((i : ℕ) (p : Play) → i < n → Inv i p → Turn (universal i) (D i) (λ a. Inv (suc i) (put p i a)))
      → ((p : Play) → Inv n p → T (Q p))
      → (k i : ℕ) (p : Play) → k + i ≡ n → Inv i p → T (from D i p)
  win D Inv step leaf zero i p e h = let e' : i ≡ n = omega arith in rw e' (rw (from_end D p) (leaf p (rw e' at h)))
  win D Inv step leaf (suc k) i p e h = rw (from_next D i p (omega arith)) (go (universal i) (step i p (omega arith) h) (win D Inv step leaf k (suc i)))
    where
      go : (s : Bool) → Turn s (D i) (λ a. Inv (suc i) (put p i a)) → ((q : Play) → k + suc i ≡ n → Inv (suc i) q → T (from D (suc i) q))
          → T (turn s (D i) (λ a. from D (suc i) (put p i a)))
      go true t f = turn_in true (D i) (λ a. from D (suc i) (put p i a)) λ a l m. f (put p i a) (omega arith) (t a l m)
      go false t f = turn_in false (D i) (λ a. from D (suc i) (put p i a)) (t.0, t.1, t.2, f (put p i t.0) (omega arith) t.3)

  -- TRANSFER: a win of the game over D carries over to the game over D', along a relation of their plays.
  pub transfer : (D D' : Domains) (R : ℕ → Play → Play → Type 0)
      → ((i : ℕ) (p q : Play) → i < n → R i p q
      → Reply (universal i) (D i) (D' i) (λ a. T (from D (suc i) (put p i a))) (λ a b. R (suc i) (put p i a) (put q i b)))
      → ((p q : Play) → R n p q → T (Q p) → T (Q q))
      → (i : ℕ) (p q : Play) → i ≤ n → R i p q → T (from D i p) → T (from D' i q)
  transfer D D' R step leaf i p q l r t =
      win D' Inv (λ i q l h. go i q h.0 (universal i) h.1 (step i h.0 q l h.1) (next D i h.0 l h.2))
      (λ q h. leaf h.0 q h.1 (rw (from_end D h.0) at h.2)) (n - i) i q (omega arith) (p, r, t)
    where
      Inv : ℕ → Play → Type 0
      Inv i q = (p : Play) × R i p q × T (from D i p)

      go : (i : ℕ) (q p : Play) (s : Bool) → R i p q
          → Reply s (D i) (D' i) (λ a. T (from D (suc i) (put p i a))) (λ a b. R (suc i) (put p i a) (put q i b))
          → Turn s (D i) (λ a. T (from D (suc i) (put p i a))) → Turn s (D' i) (λ b. Inv (suc i) (put q i b))
      go i q p true r f w = λ b l m. let x = f b (l, m) in (put p i x.0, x.2, w x.0 x.1.0 x.1.1)
      go i q p false r f w = let x = f w.0 (w.1, w.2) w.3 in (x.0, x.1.0, x.1.1, (put p i w.0, x.2, w.3))

  -- Fewer values at universal variables and more at existential ones keep a win, from any position; only variables to come count.
  pub monotone : (D D' : Domains) (i : ℕ)
      → ((j : ℕ) → i ≤ j → j < n → universal j ≡ true → (a : ℕ) → In (D' j) a → T (D j a))
      → ((j : ℕ) → i ≤ j → j < n → universal j ≡ false → (a : ℕ) → In (D j) a → T (D' j a))
      → (p : Play) → i ≤ n → T (from D i p) → T (from D' i p)
  monotone D D' i u e p h t =
      win D' (λ i' p. (i ≤ i') × T (from D i' p)) (λ i' p l t. go i' p l t.0 (universal i') refl (next D i' p l t.1))
      (λ p t. rw (from_end D p) at t.1) (n - i) i p (omega arith) (omega arith, t)
    where
      go : (i' : ℕ) (p : Play) → i' < n → i ≤ i' → (s : Bool) → universal i' ≡ s → Turn s (D i') (λ a. T (from D (suc i') (put p i' a)))
          → Turn s (D' i') (λ a. (i ≤ suc i') × T (from D (suc i') (put p i' a)))
      go i' p l h true q t = λ a b m. (omega arith, t a b (u i' h l q a (b, m)))
      go i' p l h false q t = (t.0, t.1, e i' h l q t.0 (t.1, t.2), (omega arith, t.3))

  -- The game asks for nothing but the values below 16 of the domains to come.
  pub congruent : (D D' : Domains) (i : ℕ) → ((j : ℕ) → i ≤ j → j < n → (a : ℕ) → a < 16 → D j a ≡ D' j a) → (p : Play) → i ≤ n → from D i p ≡ from D' i p
  congruent D D' i e p h =
      same (from D i p) (from D' i p)
      (monotone D D' i (λ j g l s a m. rw (e j g l a m.0) m.1) (λ j g l s a m. rw (e j g l a m.0) at m.1) p h)
      (monotone D' D i (λ j g l s a m. rw (e j g l a m.0) at m.1) (λ j g l s a m. rw (e j g l a m.0) m.1) p h)

  -- Nor for anything but the values of the first i variables, where the test asks only for those below n.
  module _ (local : (p q : Play) → ((j : ℕ) → j < n → p j ≡ q j) → T (Q p) → T (Q q)) where
    agree-step : (D : Domains) (i : ℕ) (p q : Play) (s : Bool) → ((j : ℕ) → j < i → p j ≡ q j)
        → Reply s (D i) (D i) (λ a. T (from D (suc i) (put p i a))) (λ a b. (j : ℕ) → j < suc i → put p i a j ≡ put q i b j)
    agree-step D i p q true r = λ b m. (b, m, both-put p q i b r)
    agree-step D i p q false r = λ a m w. (a, m, both-put p q i a r)

    pub agree : (D : Domains) (i : ℕ) (p q : Play) → i ≤ n → ((j : ℕ) → j < i → p j ≡ q j) → from D i p ≡ from D i q
    agree D i p q l r =
        same (from D i p) (from D i q)
        (transfer D D (λ i p q. (j : ℕ) → j < i → p j ≡ q j) (λ i p q l r. agree-step D i p q (universal i) r) local i p q l r)
        (transfer D D (λ i p q. (j : ℕ) → j < i → p j ≡ q j) (λ i p q l r. agree-step D i p q (universal i) r) local i q p l (λ j h. sym (r j h)))

  -- A variable with one value only is played already.
  pub forced : (D : Domains) (i : ℕ) (p : Play) → i < n → In (D i) (p i) → ((a : ℕ) → In (D i) a → a ≡ p i) → from D i p ≡ from D (suc i) p
  forced D i p l m o = from_next D i p l ∙ turn_one (universal i) (D i) (p i) (λ a. from D (suc i) (put p i a)) m.0 m.1 o ∙ rw (put_self p i)

  -- So a game whose first i variables have one value each is the game from i on.
  pub descend : (D : Domains) (i : ℕ) (p : Play) → i ≤ n → ((j : ℕ) → j < i → In (D j) (p j) × ((a : ℕ) → In (D j) a → a ≡ p j)) → from D 0 p ≡ from D i p
  descend D zero p l h = refl
  descend D (suc i) p l h = descend D i p (omega arith) (λ j g. h j (omega arith)) ∙ (let s = h i (omega arith) in forced D i p l s.0 s.1)

  -- A value a of variable x with which the game is won from some position over D.
  abbrev pub Alive : Domains → ℕ → ℕ → Type 0
  Alive D x a = (p : Play) × Inside D (suc x) p × (p x ≡ a) × T (from D (suc x) p)

  -- Values that no won position has may be left out at existential variables, all at once.
  pub prune : (D D' : Domains)
      → ((j : ℕ) → j < n → universal j ≡ true → (a : ℕ) → In (D' j) a → T (D j a))
      → ((j : ℕ) → j < n → universal j ≡ false → (a : ℕ) → In (D j) a → Alive D j a → T (D' j a))
      → (i : ℕ) (p : Play) → i ≤ n → Inside D i p → T (from D i p) → T (from D' i p)
  prune D D' u e i p l h t = transfer D D' (λ i p q. (p ≡ q) × Inside D i p) step (λ p q r t. rw r.0 at t) i p p l (refl, h) t
    where
      go : (i : ℕ) (p q : Play) → i < n → p ≡ q → Inside D i p → (s : Bool) → universal i ≡ s
          → Reply s (D i) (D' i) (λ a. T (from D (suc i) (put p i a))) (λ a b. (put p i a ≡ put q i b) × Inside D (suc i) (put p i a))
      go i p q l r h true s = λ b m. let d = u i l s b m in (b, (m.0, d), (rw r, inside_put D i p b h (m.0, d)))
      go i p q l r h false s = λ a m w. let g = inside_put D i p a h m in (a, (m.0, e i l s a m (put p i a, g, put_at p i a, w)), (rw r, g))

      step : (i : ℕ) (p q : Play) → i < n → (p ≡ q) × Inside D i p
          → Reply (universal i) (D i) (D' i) (λ a. T (from D (suc i) (put p i a))) (λ a b. (put p i a ≡ put q i b) × Inside D (suc i) (put p i a))
      step i p q l r = go i p q l r.0 r.1 (universal i) refl

  -- OUTCOME: against the values v of the universal side a won position comes to a play that passes the test.
  pub outcome : (D : Domains) (v : Play) → ((j : ℕ) → j < n → universal j ≡ true → In (D j) (v j))
      → (k i : ℕ) (p : Play) → k + i ≡ n → Inside D i p → T (from D i p)
      → (q : Play) × Inside D n q × ((j : ℕ) → j < i → q j ≡ p j) × ((j : ℕ) → i ≤ j → j < n → universal j ≡ true → q j ≡ v j) × T (Q q)
  outcome D v f zero i p e h t =
      let e' : i ≡ n = omega arith in
      let t' : T (from D n p) = rw e' at t in
      (p, rw e' at h, λ j l. refl, λ j l m. absurd (omega arith), rw (from_end D p) at t')
  outcome D v f (suc k) i p e h t = go (universal i) refl (next D i p (omega arith) t) (outcome D v f k (suc i))
    where
      Goal : Play → ℕ → Type 0
      Goal p i = (q : Play) × Inside D n q × ((j : ℕ) → j < i → q j ≡ p j) × ((j : ℕ) → i ≤ j → j < n → universal j ≡ true → q j ≡ v j) × T (Q q)

      back : (a : ℕ) → (universal i ≡ true → a ≡ v i) → Goal (put p i a) (suc i) → Goal p i
      back a c g = (
        g.0,
        g.1,
        λ j l. g.2 j (omega arith) ∙ put_off p i a j (omega arith),
        λ j l m s. by_eq i j (λ r. rw (← r) (g.2 i (omega arith) ∙ put_at p i a ∙ c (rw r s))) (λ r. g.3 j (omega arith) m s),
        g.4,
      )

      go : (s : Bool) → universal i ≡ s → Turn s (D i) (λ a. T (from D (suc i) (put p i a)))
          → ((p : Play) → k + suc i ≡ n → Inside D (suc i) p → T (from D (suc i) p) → Goal p (suc i)) → Goal p i
      go true s w ih =
          let m = f i (omega arith) s in
          back (v i) (λ _. refl) (ih (put p i (v i)) (omega arith) (inside_put D i p (v i) h m) (w (v i) m.0 m.1))
      go false s w ih =
          back w.0 (λ z. absurd (clash s (rw z tt))) (ih (put p i w.0) (omega arith) (inside_put D i p w.0 h (w.1, w.2)) w.3)
