-- Laws of `loop`: where its steps leave all as it is, what they keep and reach, and loops over the members of a mask.
use mathlib.Core.Path.{◌≡◌, refl, sym, ap, ◌∙◌}
use mathlib.Core.Bool.{Bool, true, false, cond, and-true, and-false}
use Prim.Native.Nat.{ℕ, zero, suc, ◌+◌, ◌-◌, ◌^◌, ◌≤◌, ◌<◌}
use native.Mathlib.Omega.{arith}
use lib.Dec.{T}
use borrow.Author.Tests.{eq-eqb, ne_eqb}
use Rattle.mask.specs.Range.{first}
use Rattle.mask.specs.Mask.{bit, rest}
use Rattle.mask.proofs.Logic.{holds, true_holds, by_eq}
use Rattle.mask.proofs.Range.{first_least}
use Rattle.mask.proofs.Bits.{bit_of_zero}
use Rattle.mask.proofs.Members.{bit-rest, low_in}
use Rattle.game.specs.Reasons.{loop}
use Rattle.rule_arc_passes.specs.Over.{over}

module _ {A : Type 0} where
  -- A loop whose steps leave all as it is does so too; where its steps take no note of their number, it may count from anywhere.
  pub loop-idle : (f : ℕ → A → A) (v a : ℕ) (s : A) → ((k : ℕ) → a ≤ k → k < v + a → f k s ≡ s) → loop v a f s ≡ s
  unfolding loop
  loop-idle f zero a s h = refl
  loop-idle f (suc v) a s h = rw (h a (omega arith) (omega arith)) (loop-idle f v (suc a) s (λ k l m. h k (omega arith) (omega arith)))

  pub loop-from : (f : A → A) (v a b : ℕ) (s : A) → loop v a (λ _. f) s ≡ loop v b (λ _. f) s
  unfolding loop
  loop-from f zero a b s = refl
  loop-from f (suc v) a b s = loop-from f v (suc a) (suc b) (f s)

  -- Loops of equal steps are equal.
  loop-agree : (f g : ℕ → A → A) (v a : ℕ) (s : A) → ((k : ℕ) → a ≤ k → (s : A) → f k s ≡ g k s) → loop v a f s ≡ loop v a g s
  unfolding loop
  loop-agree f g zero a s h = refl
  loop-agree f g (suc v) a s h = ap (loop v (suc a) f) (h a (omega arith) s) ∙ loop-agree f g v (suc a) (g a s) (λ k l. h k (omega arith))

  -- One loop after another.
  loop-append : (f : ℕ → A → A) (v u a : ℕ) (s : A) → loop (v + u) a f s ≡ loop u (v + a) f (loop v a f s)
  unfolding loop
  loop-append f zero u a s = let e : zero + u ≡ u = omega arith in let g : zero + a ≡ a = omega arith in rw (e, g)
  loop-append f (suc v) u a s = let e : suc v + u ≡ suc (v + u) = omega arith in let g : suc v + a ≡ v + suc a = omega arith in rw (e, g) (loop-append f v u (suc a) (f a s))

  -- A loop past the last member.
  pub over_longer : (m n v : ℕ) → n ≤ v → ((k : ℕ) → n ≤ k → bit m k ≡ false) → (f : ℕ → A → A) (s : A) → over m v f s ≡ over m n f s
  unfolding over
  over_longer m n v l h f s =
      let e : v ≡ n + (v - n) = omega arith in
      ap (λ u. loop u 0 (λ k s. cond (bit m k) (f k s) s) s) e
      ∙ loop-append (λ k s. cond (bit m k) (f k s) s) n (v - n) 0 s
      ∙ loop-idle (λ k s. cond (bit m k) (f k s) s) (v - n) (n + 0) (loop n 0 (λ k s. cond (bit m k) (f k s) s) s) (λ k g _. rw (h k (omega arith)) refl)

  -- No member, no step.
  pub over_none : (n : ℕ) (f : ℕ → A → A) (s : A) → over 0 n f s ≡ s
  unfolding over
  over_none n f s = loop-idle (λ k s. cond (bit 0 k) (f k s) s) n 0 s (λ k _ _. rw (bit_of_zero k) refl)

  -- The lowest member first, and then the rest.
  pub over-rest : (w m n : ℕ) → m < 2 ^ w → ¬ (m ≡ 0) → first w (bit m) < n → (f : ℕ → A → A) (s : A) → over m n f s ≡ over (rest m) n f (f (first w (bit m)) s)
  unfolding over loop
  over-rest w m n h z l f s = go n 0 (omega arith) (omega arith)
    where
      step : ℕ → ℕ → A → A
      step m k s = cond (bit m k) (f k s) s

      low : ℕ
      low = first w (bit m)

      rested : (k : ℕ) → ¬ (k ≡ low) → bit (rest m) k ≡ bit m k
      rested k d = bit-rest w m h z k ∙ rw (ne_eqb k low d) (and-true (bit m k))

      left_out : bit (rest m) low ≡ false
      left_out = bit-rest w m h z low ∙ rw (eq-eqb low low refl) (and-false (bit m low))

      go : (v a : ℕ) → a ≤ low → low < v + a → loop v a (step m) s ≡ loop v a (step (rest m)) (f low s)
      go zero a g l = absurd (omega arith)
      go (suc v) a g l = by_eq a low
          (λ e. rw e (ap (λ (b : Bool). loop v (suc low) (step m) (cond b (f low s) s)) (holds {b = bit m low} (low_in w m h z))
          ∙ loop-agree (step m) (step (rest m)) v (suc low) (f low s) (λ k g s. rw (rested k (omega arith)) refl)
          ∙ sym (ap (λ (b : Bool). loop v (suc low) (step (rest m)) (cond b (f low (f low s)) (f low s))) left_out)))
          (λ e. let o = first_least w (bit m) a (omega arith) in
          ap (λ (b : Bool). loop v (suc a) (step m) (cond b (f a s) s)) o
          ∙ go v (suc a) (omega arith) (omega arith)
          ∙ sym (ap (λ (b : Bool). loop v (suc a) (step (rest m)) (cond b (f a (f low s)) (f low s))) (rested a e ∙ o)))

module _ {A : Type 0} (n : ℕ) (f : ℕ → A → A) (G : A → Type 0) (keeps : (j : ℕ) (s : A) → j < n → G s → G (f j s)) where
  -- What each step keeps, the loop keeps.
  pub loop_keeps : (v a : ℕ) → v + a ≡ n → (s : A) → G s → G (loop v a f s)
  unfolding loop
  loop_keeps zero a e s g = g
  loop_keeps (suc v) a e s g = loop_keeps v (suc a) (omega arith) (f a s) (keeps a s (omega arith) g)

  -- What each step reaches for its own number and keeps for the others, the loop reaches for each.
  pub loop_reaches : (Q : ℕ → A → Type 0) → ((j : ℕ) (s : A) → j < n → G s → Q j (f j s)) → ((i j : ℕ) (s : A) → j < n → G s → Q i s → Q i (f j s))
      → (v a : ℕ) → v + a ≡ n → (s : A) → G s → ((i : ℕ) → i < a → Q i s) → (i : ℕ) → i < n → Q i (loop v a f s)
  unfolding loop
  loop_reaches Q own other zero a e s g q i l = q i (omega arith)
  loop_reaches Q own other (suc v) a e s g q i l =
      loop_reaches Q own other v (suc a) (omega arith) (f a s) (keeps a s (omega arith) g)
      (λ i l. by_eq i a (λ z. rw z (own a s (omega arith) g)) (λ z. other i a s (omega arith) g (q i (omega arith)))) i l

  -- Steps that leave all as it is may be left out.
  pub over-loop : (m : ℕ) → ((k : ℕ) (s : A) → k < n → G s → bit m k ≡ false → f k s ≡ s) → (s : A) → G s → loop n 0 f s ≡ over m n f s
  unfolding over loop
  over-loop m idle s g = go n 0 (omega arith) s g
    where
      one : (k : ℕ) (s : A) → k < n → G s → f k s ≡ cond (bit m k) (f k s) s
      one k s l g = pick (bit m k) refl
        where
          pick : (b : Bool) → bit m k ≡ b → f k s ≡ cond b (f k s) s
          pick true e = refl
          pick false e = idle k s l g e

      go : (v a : ℕ) → v + a ≡ n → (s : A) → G s → loop v a f s ≡ loop v a (λ k s. cond (bit m k) (f k s) s) s
      go zero a e s g = refl
      go (suc v) a e s g = go v (suc a) (omega arith) (f a s) (keeps a s (omega arith) g) ∙ ap (loop v (suc a) (λ k s. cond (bit m k) (f k s) s)) (one a s (omega arith) g)

-- Two loops side by side keep what their steps keep.
module _ {A B : Type 0} (n : ℕ) (f : ℕ → A → A) (g : ℕ → B → B) where
  pub loop_beside : (R : ℕ → A → B → Type 0) → ((k : ℕ) (p : A) (q : B) → k < n → R k p q → R (suc k) (f k p) (g k q))
      → (v a : ℕ) → v + a ≡ n → (p : A) (q : B) → R a p q → R n (loop v a f p) (loop v a g q)
  unfolding loop
  loop_beside R step zero a e p q r = let z : a ≡ n = omega arith in rw z at r
  loop_beside R step (suc v) a e p q r = loop_beside R step v (suc a) (omega arith) (f a p) (g a q) (step a p q (omega arith) r)

  -- What is made of a state by h is worked on alike.
  pub over_made : (h : A → B) (G : A → Type 0) (m : ℕ) → ((k : ℕ) (s : A) → k < n → G s → G (f k s)) → ((k : ℕ) (s : A) → k < n → T (bit m k) → G s → g k (h s) ≡ h (f k s))
      → (s : A) → G s → over m n g (h s) ≡ h (over m n f s)
  unfolding over loop
  over_made h G m keeps made s w = go n 0 (omega arith) s w
    where
      kept : (k : ℕ) (s : A) → k < n → G s → (b : Bool) → G (cond b (f k s) s)
      kept k s l w true = keeps k s l w
      kept k s l w false = w

      one : (k : ℕ) (s : A) → k < n → G s → (b : Bool) → bit m k ≡ b → cond b (g k (h s)) (h s) ≡ h (cond b (f k s) s)
      one k s l w true e = made k s l (true_holds e) w
      one k s l w false e = refl

      go : (v a : ℕ) → v + a ≡ n → (s : A) → G s → loop v a (λ k s. cond (bit m k) (g k s) s) (h s) ≡ h (loop v a (λ k s. cond (bit m k) (f k s) s) s)
      go zero a e s w = refl
      go (suc v) a e s w =
          ap (loop v (suc a) (λ k s. cond (bit m k) (g k s) s)) (one a s (omega arith) w (bit m a) refl)
          ∙ go v (suc a) (omega arith) (cond (bit m a) (f a s) s) (kept a s (omega arith) w (bit m a))
