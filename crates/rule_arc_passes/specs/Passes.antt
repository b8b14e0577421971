-- Rule 1's removals on the words of a turn, as the code runs them: whole masks, and looks only where something changed.
-- proofs/Sheets.antt says that they are the definition's.
use Rattle.std.specs.Prelude.{◌≡◌, Bool, false, cond, not, ◌&&◌, List, ℕ, zero, suc, ◌*◌, ◌^◌, ◌<◌, eqb, ltb, get_or, set}
use Rattle.std.specs.Int.Bits.{bit_and, bit_or}
use Rattle.mask.specs.Mask.{bit, diff}
use Rattle.game.specs.Reasons.{loop}
use Rattle.solver_arrays.specs.Arrays.{supported_in, common_in}
use Rattle.solver_arrays.specs.Words.{reason_in, put_reason}
use Rattle.rule_arc_passes.specs.Over.{over}
use Rattle.solver_arrays.specs.declared.arrays.Arrays.{Arrays}

-- What the reason of x takes in with a removal because of k, whose reason is r.
unfoldable pub cause_of : ℕ → ℕ → ℕ → ℕ → ℕ
cause_of universal x k r = cond (bit universal k && ltb x k) (bit_or r (2 ^ x)) r

-- The words with the mask m for x and the cause c taken into its reason.
unfoldable pub lessened : ℕ → ℕ → ℕ → List ℕ → List ℕ
lessened x m c w = put_reason (set w x m) x (bit_or (reason_in (set w x m) x) c)

module _ (A : Arrays) where
  -- The values of x that the mask m of k leaves: those that go with each of its values where k is universal and later, else those that go with
  -- some.
  unfoldable pub leaves : ℕ → ℕ → ℕ → ℕ
  leaves x k m = cond (bit A.universal k && ltb x k) (common_in A k m x) (supported_in A k m x)

  -- The revision of x by k.
  unfoldable pub revise_in : ℕ → ℕ → List ℕ → List ℕ
  revise_in x k w =
      let m = bit_and (get_or w x 0) (leaves x k (get_or w k 0)) in
      let r = lessened x m (cause_of A.universal x k (reason_in w k)) w in
      cond (eqb m (get_or w x 0)) w r

  -- No value of an existential x dies because of k.
  abbrev pub Rests : List ℕ → ℕ → ℕ → Type 0
  Rests w x k = bit A.universal x ≡ false → bit_and (get_or w x 0) (leaves x k (get_or w k 0)) ≡ get_or w x 0

-- Whether x has lost values, and the mask of variables that tells it.
unfoldable pub lost_at : ℕ → List ℕ → List ℕ → Bool
lost_at x w r = not (eqb (get_or r x 0) (get_or w x 0))

unfoldable pub noted : ℕ → ℕ → Bool → ℕ
noted dirty x lost = cond lost (bit_or dirty (2 ^ x)) (diff dirty (2 ^ x))

-- The words, and the variables that have lost values since others looked.
pub record Progress : Type 0 where
  pub dirty : ℕ
  pub words : List ℕ

module _ (A : Arrays) where
  -- One look of x at its neighbours in the mask waiting: its revisions by them.
  unfoldable pub look_from : ℕ → ℕ → List ℕ → List ℕ
  look_from waiting x w =
      let r = over (bit_and (get_or A.near x 0) waiting) 32 (λ k. revise_in A x k) w in
      cond (bit A.universal x) w r

  -- One look of a pass, in which each variable looks at those of the mask all besides.
  unfoldable pub progress : ℕ → ℕ → Progress → Progress
  progress all x p =
      let r = look_from (bit_or p.dirty all) x p.words in
      record { dirty = noted p.dirty x (lost_at x p.words r); words = r }

  unfoldable pub pass_in : ℕ → ℕ → Progress → Progress
  pass_in n all = loop n 0 (λ x. progress all x)

  -- At most v passes, until no variable has lost values; in the first each looks at those of the mask all besides.
  unfoldable pub passes_in : ℕ → ℕ → ℕ → Progress → Progress
  passes_in n zero all p = p
  passes_in n (suc v) all p =
      let r = passes_in n v 0 (pass_in n all p) in
      cond (eqb p.dirty 0) p r

  -- Passes from the words w on: at first every variable has its neighbours in the mask changed to look at.
  unfoldable pub removed_in : ℕ → ℕ → List ℕ → List ℕ
  removed_in n changed w = (passes_in n (16 * n) changed (record { dirty = changed; words = w })).words

-- A variable outside the mask touched is outside the mask changed, and its domain is as it was.
abbrev pub Touched : ℕ → ℕ → List ℕ → List ℕ → Type 0
Touched changed touched w w' = (k : ℕ) → k < 32 → bit touched k ≡ false → (bit changed k ≡ false) × (get_or w' k 0 ≡ get_or w k 0)
