-- Which domains a pass leaves as they are: those of the variables that it does not tell of.
use mathlib.Core.Path.{◌≡◌, refl, sym, ap, ◌∙◌}
use mathlib.Core.Bool.{Bool, true, false, cond}
use mathlib.Core.List.{List}
use Prim.Native.Nat.{ℕ, suc, ◌≤◌, ◌<◌}
use native.Mathlib.Omega.{arith}
use lib.Dec.{eqb}
use lib.Bits.{bit_and, bit_or}
use lib.ListN.{get_or, set}
use lib.Seq.{get_or-set_other}
use borrow.Author.Tests.{eqb-true, not-false}
use Rattle.mask.specs.Mask.{bit}
use Rattle.mask.proofs.Logic.{clash, by_eq, or_out_false}
use Rattle.mask.proofs.Bits.{bit-bit_or}
use Rattle.game.specs.Reasons.{loop}
use Rattle.solver_arrays.specs.Words.{reason_in, put_reason}
use Rattle.solver_arrays.proofs.WordLaws.{put-domain}
use Rattle.rule_arc_passes.specs.Over.{over}
use Rattle.rule_arc_passes.proofs.Loops.{loop_keeps, loop_beside}
use Rattle.rule_arc_passes.specs.Passes.{leaves, cause_of, lessened, revise_in, look_from, lost_at, noted, Progress, progress, pass_in, Touched}
use Rattle.rule_arc_passes.proofs.Sheets.{noted_off, noted_on}
use Rattle.solver_arrays.specs.declared.arrays.Arrays.{Arrays}

-- The look of x leaves the domains of the others.
module _ (A : Arrays) (look x k : ℕ) (lk : k < 32) (d : ¬ (k ≡ x)) where
  revise_other : (j : ℕ) (w : List ℕ) → get_or (revise_in A x j w) k 0 ≡ get_or w k 0
  unfolding revise_in lessened
  revise_other j w = go (eqb m (get_or w x 0))
    where
      m : ℕ
      m = bit_and (get_or w x 0) (leaves A x j (get_or w j 0))

      r : ℕ
      r = bit_or (reason_in (set w x m) x) (cause_of A.universal x j (reason_in w j))

      go : (b : Bool) → get_or (cond b w (put_reason (set w x m) x r)) k 0 ≡ get_or w k 0
      go true = refl
      go false = put-domain (set w x m) x r k lk ∙ get_or-set_other w x k m 0 d

  look_other : (w : List ℕ) → get_or (look_from A look x w) k 0 ≡ get_or w k 0
  unfolding look_from over
  look_other w = go (bit A.universal x)
    where
      m : ℕ
      m = bit_and (get_or A.near x 0) look

      one : (j : ℕ) (r : List ℕ) → get_or r k 0 ≡ get_or w k 0 → (b : Bool) → get_or (cond b (revise_in A x j r) r) k 0 ≡ get_or w k 0
      one j r e true = revise_other j r ∙ e
      one j r e false = e

      go : (b : Bool) → get_or (cond b w (loop 32 0 (λ j r. cond (bit m j) (revise_in A x j r) r) w)) k 0 ≡ get_or w k 0
      go true = refl
      go false = loop_keeps 32 (λ j r. cond (bit m j) (revise_in A x j r) r) (λ r. get_or r k 0 ≡ get_or w k 0) (λ j r _ e. one j r e (bit m j)) 32 0 refl w refl

module _ (A : Arrays) (n all : ℕ) (p : Progress) (k : ℕ) (lk : k < 32) where
  -- At the look of x: the domain of k is as it was, or k has looked and the mask tells of it.
  record Told (x : ℕ) (q : Progress) : Type 0 where
    pub yet : x ≤ k → get_or q.words k 0 ≡ get_or p.words k 0
    pub done : bit q.dirty k ≡ false → get_or q.words k 0 ≡ get_or p.words k 0

  told-next : (x : ℕ) (q : Progress) → Told x q → Told (suc x) (progress A all x q)
  unfolding progress lost_at
  told-next x q t = by_eq k x
      (λ e. record { yet = λ l. absurd (omega arith); done = own e (lost_at x q.words r) refl })
      (λ e. let s = look_other A (bit_or q.dirty all) x k lk e q.words in record {
        yet = λ l. s ∙ t.yet (omega arith);
        done = λ b. s ∙ t.done (sym (noted_off q.dirty x (lost_at x q.words r) k e) ∙ b);
      })
    where
      r : List ℕ
      r = look_from A (bit_or q.dirty all) x q.words

      own : k ≡ x → (l : Bool) → lost_at x q.words r ≡ l → bit (noted q.dirty x l) k ≡ false → get_or r k 0 ≡ get_or p.words k 0
      own e true f b = absurd (clash b (rw e (noted_on q.dirty x)))
      own e false f b = (rw e (eqb-true (get_or r x 0) (get_or q.words x 0) (not-false _ f))) ∙ t.yet (omega arith)

  pass_tells : bit (pass_in A n all p).dirty k ≡ false → get_or (pass_in A n all p).words k 0 ≡ get_or p.words k 0
  unfolding pass_in
  pass_tells = (loop_beside n (λ x. progress A all x) (λ _ (b : ℕ). b) (λ x q _. Told x q) (λ x q _ _ t. told-next x q t) n 0 (omega arith) p 0
      (record { yet = λ _. refl; done = λ _. refl })).done

-- One pass more.
pub touched_pass : (A : Arrays) (n all changed touched dirty d : ℕ) (first w r : List ℕ)
    → record { dirty = d; words = r } ≡ pass_in A n all (record { dirty = dirty; words = w })
    → Touched changed touched first w → Touched changed (bit_or touched d) first r
touched_pass A n all changed touched dirty d first w r e h k lk b =
    let o = or_out_false (bit touched k) (bit d k) (sym (bit-bit_or touched d k) ∙ b) in
    let t = pass_tells A n all (record { dirty = dirty; words = w }) k lk in
    let s = h k lk o.0 in
    (s.0, ap (λ (p : Progress). get_or p.words k 0) e ∙ t (sym (ap (λ (p : Progress). bit p.dirty k) e) ∙ o.1) ∙ s.1)
