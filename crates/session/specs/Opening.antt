-- The open values of a position: in a problem, and as they are computed from the arrays that state it.
use Rattle.std.specs.Prelude.{ℕ, ◌^◌, ◌≡◌, Bool, true, cond, not, Result, List, eqb, ltb, get_or, take}
use Rattle.mask.specs.Range.{some, count}
use Rattle.mask.specs.Mask.{bit}
use Rattle.refusal.specs.declared.reason.Reason.{Reason}
use Rattle.refusal.specs.Replied.{passed}
use Rattle.game.specs.Problem.{Problem}
use Rattle.game.specs.Lists.{list_of, spread}
use Rattle.game.specs.Open.{open_values, open_counts}
use Rattle.solver_arrays.specs.declared.arrays.Arrays.{Arrays}
use Rattle.solver_arrays.specs.Arrays.{States}
use Rattle.solver_arrays.specs.Going.{value_at, going_with}
use Rattle.position.specs.declared.Position.{Position}
use Rattle.position.specs.Position.{plays_of, fit_test}
use Rattle.session.specs.declared.Opened.{Opened}

-- Open values and their counts in the problem P after the plays l, each list in 32 places.
unfoldable pub opened_after : Problem → List ℕ → Opened
opened_after P l = record { masks = spread (open_values P l); counts = spread (open_counts P l) }

-- The reply in the problem P, for the plays that stand in the position.
unfoldable pub open_in : Problem → Position → Result Opened Reason
open_in P p = passed (fit_test P.n P.domain p) (opened_after P (plays_of p))

-- ---- over the arrays A, of whose variables the first `own` are to play

-- The arrays state the problem P with their own variables and the domains of these.
pub record PosesOwn (P : Problem) (A : Arrays) : Type 0 where
  pub states : States P A.own A
  pub domain : P.domain ≡ take A.own A.domains

module _ (A : Arrays) where
  -- The value played at variable j clashes with an earlier one.
  unfoldable pub play_clashes : List ℕ → ℕ → Bool
  play_clashes values j = eqb (going_with A values j (2 ^ value_at values j) j) 0

  -- A cause at variable j, with the domain m, after the first k of the values played: its own play clashes with an earlier one; it is unplayed
  -- and universal, and some value clashes with a play; or existential, and no value goes with all.
  unfoldable pub stuck_at : List ℕ → ℕ → ℕ → ℕ → Bool
  stuck_at values k m j =
      let left = going_with A values k m j in
      let clash = play_clashes values j in
      cond (ltb j k) clash (cond (bit A.universal j) (not (eqb left m)) (eqb left 0))

  -- The open values of the same variable, where `closed` says whether a cause holds at any.
  unfoldable pub open_mask : Bool → List ℕ → ℕ → ℕ → ℕ → ℕ
  open_mask closed values k m j = cond (ltb j k) (2 ^ value_at values j) (cond closed 0 (cond (bit A.universal j) m (going_with A values k m j)))

  module _ (p : Position) where
    unfoldable pub cause_at : ℕ → Bool
    cause_at j = stuck_at p.values p.plays (get_or A.domains j 0) j

    unfoldable pub open_at : Bool → ℕ → ℕ
    open_at closed j = open_mask closed p.values p.plays (get_or A.domains j 0) j

    -- A cause holds at one of the first n variables.
    unfoldable pub stuck_to : ℕ → Bool
    stuck_to n = some n (λ j. true) cause_at

    -- The masks of the first n variables, and their counts.
    unfoldable pub open_masks : Bool → ℕ → List ℕ
    open_masks closed n = list_of n (open_at closed)

    unfoldable pub mask_counts : Bool → ℕ → List ℕ
    mask_counts closed n = list_of n (λ j. count 16 (bit (open_at closed j)))

    -- The reply at a position that fits.
    unfoldable pub open_all : Opened
    open_all = let closed = stuck_to A.own in record { masks = spread (open_masks closed A.own); counts = spread (mask_counts closed A.own) }

    -- The reply at any position, in every problem that the arrays state with their own variables.
    abbrev pub OpenIn : Result Opened Reason → Type 0
    OpenIn r = (P : Problem) → PosesOwn P A → r ≡ open_in P p
