-- Rule 4 (pure): its narrowing keeps the verdict.
use mathlib.Core.Path.{◌≡◌, refl, ap, ◌∙◌}
use mathlib.Core.Bool.{Bool, true, false, cond, not, ◌&&◌, not-not}
use Prim.Native.Nat.{ℕ, zero, suc, ◌<◌}
use native.Mathlib.Omega.{arith}
use lib.Dec.{T, not_T, eqb, eqb→eq}
use Rattle.game.specs.Pure.{lowest, is_pure, purged, is_impure}
use Rattle.game.specs.Support.{clashes}
use Rattle.mask.proofs.Logic.{clash, test, and_in, and_out}
use Rattle.mask.proofs.Range.{each_out, each_eq, each_none, some_eq, some_out, some_in}
use Rattle.mask.specs.Range.{some, each}
use Rattle.game.specs.Game.{replace, Domains}
use Rattle.game.specs.Problem.{Problem}
use Rattle.theory.proofs.Laws.{narrowing, Pure, pure-universal}
use Rattle.theory.proofs.Swap.{start}
use Rattle.theory.proofs.Transfer.{In}

-- The smallest value of a domain is one of its values, and there is one where there is any.
pub lowest_out : (m : ℕ → Bool) (a : ℕ) → T (lowest m a) → T (m a)
unfolding lowest
lowest_out m a t = (and_out (m a) (not (some a m (λ b. true))) t).0

pub lowest_is : (m : ℕ → Bool) (k a : ℕ) → a < k → T (m a) → (b : ℕ) × (b < k) × T (lowest m b)
unfolding lowest
lowest_is m zero a l t = absurd (omega arith)
lowest_is m (suc k) a l t =
    test (some a m (λ b. true)) (λ s. let r = some_out a m (λ b. true) s in up (lowest_is m k r.0 (omega (arith, r.1)) r.2))
    (λ e. (a, l, and_in (m a) (not (some a m (λ b. true))) t (not_T (some a m (λ b. true)) (clash e))))
  where
    up : (b : ℕ) × (b < k) × T (lowest m b) → (b : ℕ) × (b < suc k) × T (lowest m b)
    up r = (r.0, omega (arith, r.1), r.2)

module _ (P : Problem) where
  open P use {n, universal, compatible, symmetric}

  -- What the test says of a pure value.
  pub pure_out : (D : Domains) (x a : ℕ) → T (is_pure P D x a) → Pure P D x a
  unfolding is_pure
  pure_out D x a t j l ne c m =
      let r = (and_out (D x a) (each n (λ j. not (eqb j x)) (λ j. each 16 (D j) (λ b. compatible x a j b))) t).1 in
      each_out 16 (D j) (λ b. compatible x a j b)
      (each_out n (λ j. not (eqb j x)) (λ j. each 16 (D j) (λ b. compatible x a j b)) r j l (not_T (eqb j x) (λ e. ne (eqb→eq j x e)))) c m.0 m.1

  pub pure_in : (D : Domains) (x a : ℕ) → T (is_pure P D x a) → T (D x a)
  unfolding is_pure
  pure_in D x a t = (and_out (D x a) (each n (λ j. not (eqb j x)) (λ j. each 16 (D j) (λ b. compatible x a j b))) t).0

  -- A value of the domain is not pure exactly where it clashes with a value of another variable.
  pub impure_is : (D : Domains) (x a : ℕ) → is_impure P D x a ≡ (D x a && some n (λ j. not (eqb j x)) (clashes P D x a))
  unfolding is_impure is_pure clashes
  impure_is D x a = ap (λ (b : Bool). D x a && not (D x a && b)) no_clash ∙ go (D x a) (some n (λ j. not (eqb j x)) (clashes P D x a))
    where
      no_clash : each n (λ j. not (eqb j x)) (λ j. each 16 (D j) (λ b. compatible x a j b)) ≡ not (some n (λ j. not (eqb j x)) (clashes P D x a))
      no_clash =
          each_eq n (λ j. not (eqb j x)) (λ j. each 16 (D j) (λ b. compatible x a j b)) (λ j. not (clashes P D x a j)) (λ j h. each_none 16 (D j) (λ b. compatible x a j b))
          ∙ each_none n (λ j. not (eqb j x)) (λ j. not (clashes P D x a j))
          ∙ ap not (some_eq n (λ j. not (eqb j x)) (λ j. not (not (clashes P D x a j))) (clashes P D x a) (λ j h. not-not (clashes P D x a j)))

      go : (d s : Bool) → (d && not (d && not s)) ≡ (d && s)
      go true s = not-not s
      go false s = refl

  -- What rule 4 leaves is a part of the domain, and not empty at a universal variable.
  pub purged_in : (D : Domains) (x a : ℕ) → T (purged P D x a) → T (D x a)
  unfolding purged
  purged_in D x a t = go (universal x) (some 16 (is_pure P D x) (λ b. true)) (some 16 (D x) (λ b. not (is_pure P D x b))) t
    where
      go : (s e u : Bool) → T (cond s (cond u (D x a && not (is_pure P D x a)) (lowest (D x) a)) (cond e (lowest (is_pure P D x) a) (D x a))) → T (D x a)
      go true e true t = (and_out (D x a) (not (is_pure P D x a)) t).0
      go true e false t = lowest_out (D x) a t
      go false true u t = pure_in D x a (lowest_out (is_pure P D x) a t)
      go false false u t = t

  pub purged-some : (D : Domains) (x o : ℕ) → universal x ≡ true → In (D x) o → (w : ℕ) × In (purged P D x) w
  unfolding purged
  purged-some D x o s h = rw s (go (some 16 (D x) (λ b. not (is_pure P D x b))) refl)
    where
      go : (u : Bool) → some 16 (D x) (λ b. not (is_pure P D x b)) ≡ u → (w : ℕ) × In (λ a. cond u (D x a && not (is_pure P D x a)) (lowest (D x) a)) w
      go true r = let w = some_out 16 (D x) (λ b. not (is_pure P D x b)) (rw r tt) in (w.0, (w.1, and_in (D x w.0) (not (is_pure P D x w.0)) w.2 w.3))
      go false r = let w = lowest_is (D x) 16 o h.0 h.1 in (w.0, (w.1, w.2))

  -- What rule 4 leaves of a domain that is not empty is not empty.
  pub purged-full : (D : Domains) (x o : ℕ) → In (D x) o → (w : ℕ) × In (purged P D x) w
  unfolding purged
  purged-full D x o h = go (universal x) refl
    where
      stays : (e : Bool) → some 16 (is_pure P D x) (λ b. true) ≡ e → (w : ℕ) × In (λ a. cond e (lowest (is_pure P D x) a) (D x a)) w
      stays true e =
          let r = some_out 16 (is_pure P D x) (λ b. true) (rw e tt) in
          let w = lowest_is (is_pure P D x) 16 r.0 r.1 r.2 in (w.0, (w.1, w.2))
      stays false e = (o, h)

      go : (s : Bool) → universal x ≡ s → (w : ℕ) × In (purged P D x) w
      go true s = purged-some D x o s h
      go false s = rw s (stays (some 16 (is_pure P D x) (λ b. true)) refl)

  -- RULE 4: the narrowing keeps the verdict.
  pub pure_law : (D : Domains) (x : ℕ) → x < n → (universal x ≡ true → (o : ℕ) × In (D x) o) → start P D ≡ start P (replace D x (purged P D x))
  unfolding purged
  pure_law D x lx h = go (universal x) refl (some 16 (is_pure P D x) (λ b. true)) refl (some 16 (D x) (λ b. not (is_pure P D x b))) refl
    where
      law : (ℕ → Bool) → Type 0
      law m = start P D ≡ start P (replace D x m)

      rest : ℕ → Bool
      rest a = D x a && not (is_pure P D x a)

      go : (s : Bool) → universal x ≡ s → (e : Bool) → some 16 (is_pure P D x) (λ b. true) ≡ e → (u : Bool) → some 16 (D x) (λ b. not (is_pure P D x b)) ≡ u
          → law (λ a. cond s (cond u (rest a) (lowest (D x) a)) (cond e (lowest (is_pure P D x) a) (D x a)))
      go true s e q true r =
          let w = some_out 16 (D x) (λ b. not (is_pure P D x b)) (rw r tt) in
          pure-universal P D x rest lx s (λ a m. (and_out (D x a) (not (is_pure P D x a)) m.1).0) w.0 (w.1, and_in (D x w.0) (not (is_pure P D x w.0)) w.2 w.3)
          λ b m k. test (is_pure P D x b) (pure_out D x b) (λ z. absurd (clash k (and_in (D x b) (not (is_pure P D x b)) m.1 (rw z tt))))
      go true s e q false r =
          let o = h s in
          let w = lowest_is (D x) 16 o.0 o.1.0 o.1.1 in
          pure-universal P D x (lowest (D x)) lx s (λ a m. lowest_out (D x) a m.1) w.0 (w.1, w.2)
          λ b m k. test (is_pure P D x b) (pure_out D x b) (λ z. absurd (clash r (some_in 16 (D x) (λ b. not (is_pure P D x b)) b m.0 m.1 (rw z tt))))
      go false s true q u r =
          let o = some_out 16 (is_pure P D x) (λ b. true) (rw q tt) in
          let w = lowest_is (is_pure P D x) 16 o.0 o.1 o.2 in
          narrowing P D x (lowest (is_pure P D x)) lx (λ a m. pure_in D x a (lowest_out (is_pure P D x) a m.1))
          (rw s λ b k v. (w.0, (w.1, w.2), λ j l ne c i t. pure_out D x w.0 (lowest_out (is_pure P D x) w.0 w.2) j l ne c i))
      go false s false q u r = narrowing P D x (D x) lx (λ a m. m.1) (rw s λ b k v. (b, k, λ j l ne c i t. t))
