-- Laws of the look-up in an accepted file: every constraint is found at its place, what is found is a constraint of the pair, none
-- says that no constraint has the pair, and the pairs ascend strictly.
use Prim.Native.Nat.{ℕ, zero, suc, ◌+◌, ◌-◌, ◌*◌, ◌≤◌, ◌<◌}
use mathlib.Core.Path.{◌≡◌, refl, sym, ap, ◌∙◌}
use mathlib.Core.Bool.{Bool, true, false, cond}
use mathlib.Core.List.{List, [], ◌∷◌}
use mathlib.Core.Logic.{⊎_elim, ◌⊎◌, inl, inr}
use lib.ListN.{length}
use lib.Dec.{eqb}
use native.Mathlib.Omega.{arith}
use native.Mathlib.Nat.{eq-or-lt_of_le, le_of_suc-le-suc}
use borrow.Author.Tests.{eqb-true, eqb-false, eq-eqb, ne_eqb}
use Rattle.std.specs.Prelude.{Result, Ok, Err, Option, None, Some}
use Rattle.refusal.specs.declared.reason.Fault.{Fault}
use Rattle.refusal.specs.declared.reason.Refusal.{Refusal}
use Rattle.refusal.specs.declared.reason.Refusal.TheVariants.{InFile, InCall}
use Rattle.refusal.specs.Chain.{Verdict, Fine}
use Rattle.refusal.specs.Told.{Told, replied, refused, fault_told}
use Rattle.file_layout.specs.Layout.{n_of, m_of, one_at, two_at, pair_at, constraints_at}
use Rattle.file_layout.specs.Numbers.{in_order, pair_of}
use Rattle.file_layout.proofs.NumberLaws.{order_out, order_in}
use Rattle.file_records.specs.Records.{last_pair, verdict_of}
use Rattle.file_reader.proofs.Accepted.{accepted}
use Rattle.file_lookup.specs.Part.{part}
use Rattle.file_lookup.proofs.PartLaws.{part_there}
use Rattle.file_lookup.specs.Lookup.{told, place_to, pair_place, look_for, look_up, rows_at, rows_of}

-- ---- among the first k constraints from q

-- A choice between rows at x and an answer r that gives rows at p, or none.
chosen_at : (b : Bool) (x p : ℕ) (r : Told) → cond b (replied (x ∷ [])) r ≡ replied (p ∷ []) → ((b ≡ true) × (x ≡ p)) ⊎ (r ≡ replied (p ∷ []))
chosen_at true x p r e = inl (refl, cc)
chosen_at false x p r e = inr e

chosen_none : (b : Bool) (x : ℕ) (r : Told) → cond b (replied (x ∷ [])) r ≡ replied [] → (b ≡ false) × (r ≡ replied [])
chosen_none true x r e = absurd (cc)
chosen_none false x r e = (refl, e)

-- Constraint t of the first k from q has the pair number c, and its rows stand at p.
pub record Stands (f : List ℕ) (q c k p : ℕ) : Type 0 where
  pub t : ℕ
  pub less : t < k
  pub place : p ≡ q + 36 * t + 4
  pub pair : pair_at f (q + 36 * t) ≡ c

place_at : (f : List ℕ) (q c k p : ℕ) → place_to f q c k ≡ replied (p ∷ []) → Stands f q c k p
unfolding place_to
place_at f q c zero p e = absurd (cc)
place_at f q c (suc k) p e =
    ⊎_elim
    (λ (h : (eqb (pair_at f (q + 36 * k)) c ≡ true) × (q + 36 * k + 4 ≡ p)).
    record { t = k; less = omega arith; place = sym h.1; pair = eqb-true _ _ h.0 })
    (λ (h : place_to f q c k ≡ replied (p ∷ [])).
    let s = place_at f q c k p h in
    record { t = s.t; less = omega arith; place = s.place; pair = s.pair })
    (chosen_at _ _ _ _ e)

place_none : (f : List ℕ) (q c k : ℕ) → place_to f q c k ≡ replied [] → (t : ℕ) → t < k → pair_at f (q + 36 * t) ≡ c → ⊥
unfolding place_to
place_none f q c zero e t h g = absurd (omega arith)
place_none f q c (suc k) e t h g =
    let a = chosen_none _ _ _ e in
    ⊎_elim
    (λ (i : t ≡ k). eqb-false _ _ a.0 (ap (λ (x : ℕ). pair_at f (q + 36 * x)) (sym i) ∙ g))
    (λ (l : t < k). place_none f q c k a.1 t l g)
    (eq-or-lt_of_le (le_of_suc-le-suc h))

-- The last of the first k has the pair number c, or has not.
module _ (f : List ℕ) (q c : ℕ) where
  pub place_last : (k : ℕ) → 0 < k → pair_at f (q + 36 * (k - 1)) ≡ c → place_to f q c k ≡ replied ((q + 36 * (k - 1) + 4) ∷ [])
  unfolding place_to
  place_last zero h e = absurd (omega arith)
  place_last (suc k) h e = let z : suc k - 1 ≡ k = omega arith in let g : pair_at f (q + 36 * k) ≡ c = rw z at e in rw (z, eq-eqb _ _ g)

  pub place_before : (k : ℕ) → 0 < k → ¬ (pair_at f (q + 36 * (k - 1)) ≡ c) → place_to f q c (k - 1) ≡ place_to f q c k
  unfolding place_to
  place_before zero h e = absurd (omega arith)
  place_before (suc k) h e = let z : suc k - 1 ≡ k = omega arith in let g : ¬ (pair_at f (q + 36 * k) ≡ c) = rw z at e in rw (z, ne_eqb _ _ g)

module _ (f : List ℕ) (q m : ℕ) (above : (u : ℕ) → u < m → last_pair f q u < pair_at f (q + 36 * u)) where
  ascends : (t u : ℕ) → t < u → u < m → pair_at f (q + 36 * t) < pair_at f (q + 36 * u)
  unfolding last_pair
  ascends t zero h l = absurd (omega arith)
  ascends t (suc u) h l =
      ⊎_elim
      (λ (i : t ≡ u). rw i (above (suc u) l))
      (λ (g : t < u). omega (arith, ascends t u g (omega arith), above (suc u) l))
      (eq-or-lt_of_le (le_of_suc-le-suc h))

  place_finds : (k t : ℕ) → k ≤ m → t < k → place_to f q (pair_at f (q + 36 * t)) k ≡ replied ((q + 36 * t + 4) ∷ [])
  unfolding place_to
  place_finds zero t l h = absurd (omega arith)
  place_finds (suc k) t l h =
      ⊎_elim
      (λ (i : t ≡ k). rw (i, eq-eqb (pair_at f (q + 36 * k)) (pair_at f (q + 36 * k)) refl))
      (λ (g : t < k).
      rw (ne_eqb (pair_at f (q + 36 * k)) (pair_at f (q + 36 * t)) (λ e. omega (arith, ascends t k g l)))
      (place_finds k t (omega arith) g))
      (eq-or-lt_of_le (le_of_suc-le-suc h))

-- ---- the look-up

look_is : (f : List ℕ) (v : Verdict) → verdict_of f ≡ v → (i j : ℕ) → look_up f i j ≡ look_for v f i j
unfolding look_up
look_is f v q i j = rw q

pub look_fine : (f : List ℕ) → verdict_of f ≡ Fine → (i j : ℕ) → look_up f i j ≡ pair_place f i j
unfolding look_for
look_fine f q i j = look_is f Fine q i j

pub look-refused : (f : List ℕ) (e : Fault) → verdict_of f ≡ Err e → (i j : ℕ) → look_up f i j ≡ fault_told e
unfolding look_for
look-refused f e q i j = look_is f (Err e) q i j

pub place_so : (f : List ℕ) (i j : ℕ) → in_order i j (n_of f) ≡ true → pair_place f i j ≡ place_to f (constraints_at f) (pair_of i j) (m_of f)
unfolding pair_place
place_so f i j q = rw q

pub place-not : (f : List ℕ) (i j : ℕ) → in_order i j (n_of f) ≡ false → pair_place f i j ≡ refused 11
unfolding pair_place
place-not f i j q = rw q

-- For a pair in order the look-up is `find`.
look_find : (f : List ℕ) (i j : ℕ) → verdict_of f ≡ Fine → i < j → j < n_of f → look_up f i j ≡ place_to f (constraints_at f) (pair_of i j) (m_of f)
look_find f i j q h l = look_fine f q i j ∙ place_so f i j (order_in i j (n_of f) h l)

-- A choice between an answer r and a refusal by number that is a reply is r.
replies : (b : Bool) (r : Told) (e : ℕ) (ps : List ℕ) → cond b r (refused e) ≡ replied ps → (b ≡ true) × (r ≡ replied ps)
replies true r e ps q = (refl, q)
replies false r e ps q = absurd (cc)

place_replies : (f : List ℕ) (i j : ℕ) (ps : List ℕ) → pair_place f i j ≡ replied ps →
    (in_order i j (n_of f) ≡ true) × (place_to f (constraints_at f) (pair_of i j) (m_of f) ≡ replied ps)
unfolding pair_place
place_replies f i j ps e = replies _ _ _ _ e

look_replies : (v : Verdict) (f : List ℕ) (i j : ℕ) (ps : List ℕ) → look_for v f i j ≡ replied ps → (v ≡ Fine) × (pair_place f i j ≡ replied ps)
unfolding look_for
look_replies (Ok u) f i j ps e = (refl, e)
look_replies (Err d) f i j ps e = absurd (cc)

-- What is found at p: the file is accepted, the pair is in order, and a constraint of the pair stands at p - 4.
pub record FoundAt (f : List ℕ) (i j p : ℕ) : Type 0 where
  pub fine : verdict_of f ≡ Fine
  pub order : (i < j) × (j < n_of f)
  pub stands : Stands f (constraints_at f) (pair_of i j) (m_of f) p

pub look_at : (f : List ℕ) (i j p : ℕ) → look_up f i j ≡ replied (p ∷ []) → FoundAt f i j p
look_at f i j p e =
    let a = look_replies (verdict_of f) f i j _ (sym (look_is f _ refl i j) ∙ e) in
    let b = place_replies f i j _ a.1 in
    record { fine = a.0; order = order_out _ _ _ b.0; stands = place_at _ _ _ _ _ b.1 }

-- Found places lie within the file.
pub found_within : (f : List ℕ) (i j p : ℕ) → look_up f i j ≡ replied (p ∷ []) → p + 32 ≤ length f
found_within f i j p e =
    let a = look_at f i j p e in
    let s = a.stands in
    let d = (accepted f a.fine).constraint s.t s.less in
    omega (arith, d.within, s.place)

-- None says that no constraint has the pair.
pub look_free : (f : List ℕ) (i j : ℕ) → look_up f i j ≡ replied [] → (t : ℕ) → t < m_of f → pair_at f (constraints_at f + 36 * t) ≡ pair_of i j → ⊥
look_free f i j e t h g =
    let a = look_replies (verdict_of f) f i j _ (sym (look_is f _ refl i j) ∙ e) in
    place_none _ _ _ _ (place_replies f i j _ a.1).1 t h g

module _ (f : List ℕ) (fine : verdict_of f ≡ Fine) where
  above : (u : ℕ) → u < m_of f → last_pair f (constraints_at f) u < pair_at f (constraints_at f + 36 * u)
  unfolding pair_at
  above u l = ((accepted f fine).constraint u l).fits.above

  -- "Tables ascend strictly by (i, j)."
  pub ascend : (t u : ℕ) → t < u → u < m_of f → pair_at f (constraints_at f + 36 * t) < pair_at f (constraints_at f + 36 * u)
  ascend = ascends f (constraints_at f) (m_of f) above

  -- Every constraint is found, behind its head.
  pub look_finds : (t : ℕ) → t < m_of f →
      let p = constraints_at f + 36 * t in
      look_up f (one_at f p) (two_at f p) ≡ replied ((p + 4) ∷ [])
  unfolding pair_at
  look_finds t h =
      let d = ((accepted f fine).constraint t h).fits in
      look_find f _ _ fine d.ascends d.below
      ∙ place_finds f (constraints_at f) (m_of f) above (m_of f) t (omega arith) h

-- ---- the part of the file

pub rows_of_lem : (r : Result (Option ℕ) Refusal) (f : List ℕ) (p : ℕ) → r ≡ Ok (Some p) → rows_of r f ≡ rows_at f p
unfolding rows_of
rows_of_lem r f p q = rw q

told_rows : (r : Result (Option ℕ) Refusal) (p : ℕ) → told r ≡ replied (p ∷ []) → r ≡ Ok (Some p)
told_rows (Ok (Some w)) p e = cc
told_rows (Ok None) p e = cc
told_rows (Err (InFile d)) p e = cc
told_rows (Err (InCall d)) p e = cc

-- An answer of the look-up that has rows shows the 32 bytes at their place.
pub found_rows : (f : List ℕ) (i j p : ℕ) (r : Result (Option ℕ) Refusal) → told r ≡ look_up f i j → look_up f i j ≡ replied (p ∷ []) → rows_of r f ≡ part f p 32
unfolding rows_at
found_rows f i j p r e q = rows_of_lem r f p (told_rows r p (e ∙ q)) ∙ part_there f p 32 (found_within f i j p q)
