-- The steps of the code against specs/Passes.antt, over plain variables.
use mathlib.Core.Path.{◌≡◌, refl, sym, ap, ap₂, ◌∙◌}
use mathlib.Core.Bool.{Bool, true, false, cond, ◌&&◌, ◌||◌}
use mathlib.Core.List.{List}
use Prim.Native.Nat.{ℕ, zero, suc, ◌+◌, ◌-◌, ◌≤◌, ◌<◌}
use native.Mathlib.Omega.{arith}
use native.Mathlib.Numerals.{add-one}
use lib.Dec.{eqb}
use lib.Bits.{bit_and, bit_or, and_lt, or_lt}
use lib.ListN.{get_or, length, set, length-set}
use borrow.Author.Tests.{eq-eqb, ne_eqb}
use Rattle.mask.specs.Range.{first}
use Rattle.mask.specs.Mask.{bit, rest}
use Rattle.mask.proofs.Bits.{bit-bit_and, bit-bit_or, bit_ext}
use Rattle.mask.proofs.Members.{low_lt}
use Rattle.game.specs.Reasons.{loop}
use Rattle.solver_arrays.specs.Words.{reason_in, put_reason}
use Rattle.solver_arrays.proofs.WordLaws.{length-put_reason}
use Rattle.rule_arc_passes.specs.Over.{over}
use Rattle.rule_arc_passes.proofs.Loops.{over-rest, over_none, loop_keeps}
use Rattle.rule_arc_passes.specs.Passes.{leaves, cause_of, lessened, revise_in, look_from, lost_at, noted, Progress, progress, pass_in, passes_in}
use Rattle.solver_arrays.specs.declared.arrays.Arrays.{Arrays}

-- What lies within a mask lies within any join of it.
pub and_joined : (w m s : ℕ) → w < 65536 → m < 65536 → s < 65536 → bit_and w m ≡ w → bit_and w (bit_or m s) ≡ w
and_joined w m s h k l e =
    bit_ext 16 (bit_and w (bit_or m s)) w (and_lt 16 w (bit_or m s) h (or_lt 16 m s k l)) h
    λ v _. rw (bit-bit_and w (bit_or m s) v, bit-bit_or m s v) (go (bit w v) (bit m v) (bit s v) (sym (bit-bit_and w m v) ∙ ap (λ x. bit x v) e))
  where
    go : (x y z : Bool) → (x && y) ≡ x → (x && (y || z)) ≡ x
    go true y z e = ap (λ b. b || z) e
    go false y z e = refl

-- A revision that removes values, and one that removes none.
module _ (A : Arrays) (x k : ℕ) (w : List ℕ) (m : ℕ) (l : m ≡ bit_and (get_or w x 0) (leaves A x k (get_or w k 0))) where
  pub revise_cut : (q c : ℕ) (r : List ℕ) → ¬ (m ≡ get_or w x 0) → q ≡ reason_in w k → c ≡ cause_of A.universal x k q
      → r ≡ put_reason (set w x m) x (bit_or (reason_in (set w x m) x) c) → r ≡ revise_in A x k w
  unfolding revise_in lessened
  revise_cut q c r d e f g = rw (← l, ne_eqb m (get_or w x 0) d, ← e, ← f) g

  pub revise_kept : m ≡ get_or w x 0 → w ≡ revise_in A x k w
  unfolding revise_in
  revise_kept e = rw (← l, eq-eqb m (get_or w x 0) e)

-- A revision keeps the number of words.
pub length-revise : (A : Arrays) (x k : ℕ) (w : List ℕ) → length (revise_in A x k w) ≡ length w
unfolding revise_in lessened
length-revise A x k w = go (eqb (bit_and (get_or w x 0) (leaves A x k (get_or w k 0))) (get_or w x 0))
  where
    m : ℕ
    m = bit_and (get_or w x 0) (leaves A x k (get_or w k 0))

    r : ℕ
    r = bit_or (reason_in (set w x m) x) (cause_of A.universal x k (reason_in w k))

    go : (b : Bool) → length (cond b w (put_reason (set w x m) x r)) ≡ length w
    go true = refl
    go false = length-put_reason (set w x m) x r ∙ length-set w x m

-- One neighbour more of a look, and all of them.
module _ {A : Type 0} (f : ℕ → A → A) where
  pub over-step : (m n k m' : ℕ) (whole : A) (w r : A) → m < 4294967296 → ¬ (m ≡ 0) → k ≡ first 32 (bit m) → r ≡ f k w → m' ≡ rest m → whole ≡ over m 32 f w → whole ≡ over m' 32 f r
  over-step m n k m' whole w r h z e g q p = p ∙ over-rest 32 m 32 h z (low_lt 32 m h z) f w ∙ ap₂ (λ m w. over m 32 f w) (sym q) (sym (g ∙ ap (λ k. f k w) e))

  over_end : (m : ℕ) (whole w : A) → m ≡ 0 → whole ≡ over m 32 f w → w ≡ whole
  over_end m whole w z p = sym (p ∙ ap (λ m. over m 32 f w) z ∙ over_none 32 f w)

-- The look of a universal variable, and of an existential one.
module _ (A : Arrays) (look x : ℕ) (w : List ℕ) where
  pub look_none : bit A.universal x ≡ true → w ≡ look_from A look x w
  unfolding look_from
  look_none u = rw u

  pub look_all : (r : List ℕ) (m : ℕ) → bit A.universal x ≡ false → m ≡ 0
      → over (bit_and (get_or A.near x 0) look) 32 (λ k. revise_in A x k) w ≡ over m 32 (λ k. revise_in A x k) r → r ≡ look_from A look x w
  unfolding look_from
  look_all r m u z e = rw u (over_end (λ k. revise_in A x k) m _ r z e)

pub lost_none : (x : ℕ) (w : List ℕ) → false ≡ lost_at x w w
unfolding lost_at
lost_none x w = rw (eq-eqb (get_or w x 0) (get_or w x 0) refl)

-- A look keeps the number of words.
pub length-look : (A : Arrays) (look x : ℕ) (w : List ℕ) → length (look_from A look x w) ≡ length w
unfolding look_from over
length-look A look x w = go (bit A.universal x)
  where
    m : ℕ
    m = bit_and (get_or A.near x 0) look

    one : (k : ℕ) (r : List ℕ) → length r ≡ length w → (b : Bool) → length (cond b (revise_in A x k r) r) ≡ length w
    one k r e true = length-revise A x k r ∙ e
    one k r e false = e

    go : (b : Bool) → length (cond b w (loop 32 0 (λ k r. cond (bit m k) (revise_in A x k r) r) w)) ≡ length w
    go true = refl
    go false = loop_keeps 32 (λ k r. cond (bit m k) (revise_in A x k r) r) (λ r. length r ≡ length w) (λ k r _ e. one k r e (bit m k)) 32 0 refl w refl

-- One look more of a pass, and all of them.
module _ (A : Arrays) (n all x dirty : ℕ) (w : List ℕ) (whole : Progress) (p : whole ≡ loop (n - x) x (λ x. progress A all x) (record { dirty = dirty; words = w })) where
  pub pass_step : (r : List ℕ) (lost : Bool) (d : ℕ) → x < n → r ≡ look_from A (bit_or dirty all) x w → lost ≡ lost_at x w r → d ≡ noted dirty x lost
      → whole ≡ loop (n - (x + 1)) (x + 1) (λ x. progress A all x) (record { dirty = d; words = r })
  unfolding loop progress
  pass_step r lost d l e f g =
      let s : n - x ≡ suc (n - (x + 1)) = omega arith in
      p ∙ ap (λ v. loop v x (λ x. progress A all x) (record { dirty = dirty; words = w })) s
      ∙ rw (add-one x, g, f, e)

  pub pass_end : n ≤ x → record { dirty = dirty; words = w } ≡ whole
  unfolding loop
  pass_end l = let s : n - x ≡ 0 = omega arith in sym (p ∙ ap (λ v. loop v x (λ x. progress A all x) (record { dirty = dirty; words = w })) s)

pub pass-start : (A : Arrays) (n all : ℕ) (p : Progress) → pass_in A n all p ≡ loop (n - 0) 0 (λ x. progress A all x) p
unfolding pass_in
pass-start A n all p = let s : n ≡ n - 0 = omega arith in ap (λ v. loop v 0 (λ x. progress A all x) p) s

-- A pass keeps the number of words.
pub length-pass : (A : Arrays) (n all : ℕ) (p : Progress) → length (pass_in A n all p).words ≡ length p.words
unfolding pass_in progress
length-pass A n all p =
    loop_keeps n (λ x. progress A all x) (λ q. length q.words ≡ length p.words)
    (λ x q _ e. length-look A (bit_or q.dirty all) x q.words ∙ e) n 0 (omega arith) p refl

-- One pass more, and the end: no pass is left, or no variable has lost values.
module _ (A : Arrays) (n all left dirty : ℕ) (w : List ℕ) (whole : Progress) (p : whole ≡ passes_in A n left all (record { dirty = dirty; words = w })) where
  pub passes-step : (d : ℕ) (r : List ℕ) (v : ℕ) → left ≡ suc v → ¬ (dirty ≡ 0) → record { dirty = d; words = r } ≡ pass_in A n all (record { dirty = dirty; words = w })
      → whole ≡ passes_in A n v 0 (record { dirty = d; words = r })
  unfolding passes_in
  passes-step d r v s z e =
      p ∙ ap (λ v. passes_in A n v all (record { dirty = dirty; words = w })) s
      ∙ rw (ne_eqb dirty 0 z, e)

  pub passes_none : left ≡ 0 → w ≡ whole.words
  unfolding passes_in
  passes_none e = sym (ap (λ q. q.words) (p ∙ ap (λ v. passes_in A n v all (record { dirty = dirty; words = w })) e))

  pub passes_clean : dirty ≡ 0 → w ≡ whole.words
  unfolding passes_in
  passes_clean e = ap (λ q. q.words) (sym (p ∙ go left))
    where
      go : (v : ℕ) → passes_in A n v all (record { dirty = dirty; words = w }) ≡ record { dirty = dirty; words = w }
      go zero = refl
      go (suc v) = rw (eq-eqb dirty 0 e)
