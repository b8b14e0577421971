use Prim.Native.Nat.{ℕ, ◌+◌, ◌^◌}
use mathlib.Core.Path.{◌≡◌, refl}
use mathlib.Core.Bool.{Bool, cond}
use mathlib.Core.List.{List}
use lib.Bits.{bit_or}
use native.Mathlib.Numerals.{add-one}
use native.Mathlib.Omega.{arith}
use Rattle.file_constraints.specs.Constraints.{constraint_row}
use Rattle.mask.specs.Mask.{bit, mask_of}
use Rattle.file_decoder.specs.Tables.{column_of}
use Rattle.file_decoder.proofs.rows.column.Goals as goal
use Rattle.file_decoder.proofs.rows.column.Goals.{then-contains, else-contains}

-- One turn: row a says whether a is in the column.
turn : (f : List ℕ) (q t b a out row next : ℕ) (s : Bool) → out ≡ mask_of a (λ x. bit (constraint_row f q t x) b) →
    row ≡ constraint_row f q t a → s ≡ bit row b → next ≡ cond s (bit_or out (2 ^ a)) out → next ≡ mask_of (a + 1) (λ x. bit (constraint_row f q t x) b)
unfolding mask_of
turn f q t b a out row next s e r h n = rw (add-one, n, h, r, e)

pub loop-a-init : goal.loop-a-init
unfolding mask_of
loop-a-init c = refl

pub loop-a-preserved : goal.loop-a-preserved
loop-a-preserved c =
    turn _ _ _ _ _ _ _ _ _ c.loop-a.invariant c.row.ensures c.contains.ensures
    (elim c.if-contains.branch [
      | then-contains w ↦ rw (w.if-contains.true, w.out-is, w.single-out.ensures)
      | else-contains w ↦ rw (w.if-contains.false, w.out-is)
    ])

pub returns : goal.returns
unfolding column_of
returns c = let e : c.loop-a.a ≡ 16 = omega arith in cc
