-- What the look-up shows of two variables: the same either way round, never of a variable with itself, free where it tells of no
-- constraint; and of an accepted file just what its constraints say.
use Prim.Native.Nat.{ℕ, ◌+◌, ◌*◌, ◌<◌}
use mathlib.Core.Path.{◌≡◌, refl, sym, ap, ◌∙◌}
use mathlib.Core.Bool.{Bool, true, false, ◌&&◌, and_comm}
use mathlib.Core.List.{List, [], ◌∷◌}
use lib.Dec.{T, eqb}
use native.Mathlib.Omega.{arith}
use borrow.Author.Tests.{eq-eqb, eqb-true}
use Rattle.mask.specs.Range.{some}
use Rattle.mask.specs.Mask.{bit}
use Rattle.mask.proofs.Logic.{same, holds, true_holds, fails, clash, and_in, and_out, or_left, or_right, or_out}
use Rattle.mask.proofs.Range.{some_out, some_in}
use Rattle.refusal.specs.Chain.{Fine}
use Rattle.refusal.specs.Told.{Told, replied, refused, refused_at}
use Rattle.file_layout.specs.Layout.{n_of, m_of, row_at, pair_at}
use Rattle.file_layout.specs.Numbers.{pair_of}
use Rattle.file_records.specs.Records.{verdict_of}
use Rattle.file_reader.proofs.Accepted.{accepted}
use Rattle.file_lookup.specs.Lookup.{look_up}
use Rattle.file_lookup.proofs.Lookup.{look_at, look_finds}
use Rattle.file_lookup.proofs.Shown.{word-shown}
use Rattle.file_constraints.specs.Constraints.{constraints_at, constraint_one, constraint_two, constraint_row, joins, Whole}
use Rattle.file_constraints.specs.Pairs.{found, allows, constrained_of, compatible_of}
use Rattle.file_constraints.proofs.ConstraintLaws.{constraints_stand, constraint_below}

-- ---- of any file

-- Compatible either way round.
pub symmetric_of : (f : List ℕ) (i a j b : ℕ) → compatible_of f i a j b ≡ compatible_of f j b i a
unfolding compatible_of
symmetric_of f i a j b = and_comm (allows (look_up f i j) f a b) (allows (look_up f j i) f b a)

-- A pair that is found is in order.
found_order : (r : Told) (f : List ℕ) (i j : ℕ) → look_up f i j ≡ r → T (found r) → i < j
unfolding found
found_order (replied (p ∷ [])) f i j e t = (look_at f i j p e).order.0
found_order (replied []) f i j e t = elim t [ ]
found_order (replied (p ∷ (_ ∷ _))) f i j e t = elim t [ ]
found_order (refused _) f i j e t = elim t [ ]
found_order (refused_at _ _) f i j e t = elim t [ ]

-- No constraint joins a variable with itself.
pub apart_of : (f : List ℕ) (i j : ℕ) → T (constrained_of f i j) → ¬ (i ≡ j)
unfolding constrained_of
apart_of f i j t e =
    or_out (found (look_up f i j)) (found (look_up f j i)) t
    (λ h. let l = found_order _ f i j refl h in omega arith)
    (λ h. let l = found_order _ f j i refl h in omega arith)

-- Where no constraint is told of, all values are compatible.
none_allows : (r : Told) (f : List ℕ) (a b : ℕ) → found r ≡ false → T (allows r f a b)
unfolding found allows
none_allows (replied []) f a b e = tt
none_allows (replied (p ∷ [])) f a b e = absurd (clash {b = true} e tt)
none_allows (replied (p ∷ q ∷ ps)) f a b e = tt
none_allows (refused k) f a b e = tt
none_allows (refused_at k p) f a b e = tt

pub free_of : (f : List ℕ) (i j : ℕ) → constrained_of f i j ≡ false → (a b : ℕ) → T (compatible_of f i a j b)
unfolding constrained_of compatible_of
free_of f i j e a b =
    let x = found (look_up f i j) in
    let y = found (look_up f j i) in
    and_in (allows (look_up f i j) f a b) (allows (look_up f j i) f b a)
    (none_allows (look_up f i j) f a b (fails λ t. clash e (or_left x y t)))
    (none_allows (look_up f j i) f b a (fails λ t. clash e (or_right x y t)))

-- ---- of an accepted file

-- Some constraint is of the pair (u, v).
pub record Has (f : List ℕ) (u v : ℕ) : Type 0 where
  pub t : ℕ
  pub less : t < m_of f
  pub one : constraint_one f (constraints_at f) t ≡ u
  pub two : constraint_two f (constraints_at f) t ≡ v

and_so : (a b : Bool) → T b → a && b ≡ a
and_so true b t = holds t
and_so false b t = refl

module _ (f : List ℕ) (fine : verdict_of f ≡ Fine) where
  abbrev one : ℕ → ℕ
  one t = constraint_one f (constraints_at f) t

  abbrev two : ℕ → ℕ
  two t = constraint_two f (constraints_at f) t

  -- The look-up finds exactly the pairs that a constraint has.
  has_of : (r : Told) (u v : ℕ) → look_up f u v ≡ r → T (found r) → Has f u v
  unfolding found pair_at pair_of constraint_one constraint_two
  has_of (replied (p ∷ [])) u v e h =
      let a = look_at f u v p e in
      let s = a.stands in
      let o = (constraints_stand f fine).order s.t s.less in
      let g : v < 32 = omega (arith, a.order, (accepted f fine).head.counts.most) in
      record { t = s.t; less = s.less; one = omega (arith, s.pair, a.order, o.0, o.1); two = omega (arith, s.pair, a.order, o.0, o.1) }
  has_of (replied []) u v e h = elim h [ ]
  has_of (replied (p ∷ (_ ∷ _))) u v e h = elim h [ ]
  has_of (refused _) u v e h = elim h [ ]
  has_of (refused_at _ _) u v e h = elim h [ ]

  found_at : (t : ℕ) → t < m_of f → T (found (look_up f (one t) (two t)))
  unfolding found constraint_one constraint_two
  found_at t h = rw (look_finds f fine t h) tt

  -- Two variables are joined just where a constraint has them, in either order.
  pub constrained_out : {A : Type 0} (u v : ℕ) → T (constrained_of f u v) → (Has f u v → A) → (Has f v u → A) → A
  unfolding constrained_of
  constrained_out u v h g k =
      or_out (found (look_up f u v)) (found (look_up f v u)) h (λ s. g (has_of (look_up f u v) u v refl s)) (λ s. k (has_of (look_up f v u) v u refl s))

  pub constrained_on : (u v t : ℕ) → t < m_of f → one t ≡ u → two t ≡ v → T (constrained_of f u v)
  unfolding constrained_of
  constrained_on u v t h e d = or_left (found (look_up f u v)) (found (look_up f v u)) (rw (← e, ← d) (found_at t h))

  pub constrained_back : (u v t : ℕ) → t < m_of f → one t ≡ v → two t ≡ u → T (constrained_of f u v)
  unfolding constrained_of
  constrained_back u v t h e d = or_right (found (look_up f u v)) (found (look_up f v u)) (rw (← e, ← d) (found_at t h))

  -- They are variables of the file.
  pub constrained_below : (u v : ℕ) → T (constrained_of f u v) → (u < n_of f) × (v < n_of f)
  constrained_below u v h =
      constrained_out u v h
      (λ c. let o = (constraints_stand f fine).order c.t c.less in let b = constraint_below f fine c.t c.less in omega arith)
      (λ c. let o = (constraints_stand f fine).order c.t c.less in let b = constraint_below f fine c.t c.less in omega arith)

  -- The same as a test over the constraints.
  joins_on : (u v t : ℕ) → one t ≡ u → two t ≡ v → T (joins f (constraints_at f) u v t)
  unfolding joins
  joins_on u v t e d =
      or_left (eqb u (one t) && eqb v (two t)) (eqb u (two t) && eqb v (one t))
      (and_in (eqb u (one t)) (eqb v (two t)) (true_holds (eq-eqb _ _ (sym e))) (true_holds (eq-eqb _ _ (sym d))))

  joins_back : (u v t : ℕ) → one t ≡ v → two t ≡ u → T (joins f (constraints_at f) u v t)
  unfolding joins
  joins_back u v t e d =
      or_right (eqb u (one t) && eqb v (two t)) (eqb u (two t) && eqb v (one t))
      (and_in (eqb u (two t)) (eqb v (one t)) (true_holds (eq-eqb _ _ (sym d))) (true_holds (eq-eqb _ _ (sym e))))

  joins_out : (u v t : ℕ) → t < m_of f → T (joins f (constraints_at f) u v t) → T (constrained_of f u v)
  unfolding joins
  joins_out u v t l h =
      or_out (eqb u (one t) && eqb v (two t)) (eqb u (two t) && eqb v (one t)) h
      (λ s.
      let p = and_out (eqb u (one t)) (eqb v (two t)) s in
      constrained_on u v t l (sym (eqb-true _ _ (holds p.0))) (sym (eqb-true _ _ (holds p.1))))
      (λ s.
      let p = and_out (eqb u (two t)) (eqb v (one t)) s in
      constrained_back u v t l (sym (eqb-true _ _ (holds p.1))) (sym (eqb-true _ _ (holds p.0))))

  pub constrained_is : (u v : ℕ) → constrained_of f u v ≡ some (m_of f) (λ t. true) (joins f (constraints_at f) u v)
  constrained_is u v =
      same (constrained_of f u v) (some (m_of f) (λ t. true) (joins f (constraints_at f) u v))
      (λ h.
      constrained_out u v h
      (λ c. some_in (m_of f) (λ t. true) (joins f (constraints_at f) u v) c.t c.less tt (joins_on u v c.t c.one c.two))
      (λ c. some_in (m_of f) (λ t. true) (joins f (constraints_at f) u v) c.t c.less tt (joins_back u v c.t c.one c.two)))
      (λ h. let s = some_out (m_of f) (λ t. true) (joins f (constraints_at f) u v) h in joins_out u v s.0 s.1 s.3)

  -- "Bit b of row a set: option a of choice i goes with option b of choice j": the values of a constraint's variables, in either order.
  pub compatible_on : (t a b : ℕ) → t < m_of f → a < 16 → compatible_of f (one t) a (two t) b ≡ bit (constraint_row f (constraints_at f) t a) b
  unfolding compatible_of allows row_at constraint_one constraint_two constraint_row Whole
  compatible_on t a b h l =
      let o = (constraints_stand f fine).order t h in
      let w = (constraints_stand f fine).whole t h in
      and_so (allows (look_up f (one t) (two t)) f a b) (allows (look_up f (two t) (one t)) f b a)
      (none_allows (look_up f (two t) (one t)) f b a (fails λ s. omega (arith, found_order _ f (two t) (one t) refl s)))
      ∙ ap (λ r. allows r f a b) (look_finds f fine t h)
      ∙ ap (λ x. bit x b) (word-shown f (constraints_at f + 36 * t + 4) a (omega arith) l)

  pub compatible_back : (t a b : ℕ) → t < m_of f → b < 16 → compatible_of f (two t) a (one t) b ≡ bit (constraint_row f (constraints_at f) t b) a
  compatible_back t a b h l = symmetric_of f (two t) a (one t) b ∙ compatible_on t b a h l
