use Prim.Native.Nat.{ℕ, ◌<◌}
use borrow.Author.Rules.{rules}
use mathlib.Core.Path.{◌≡◌, refl}
use native.Mathlib.Omega.{arith}
use Rattle.game.specs.Lists.{list_of, spread}
use Rattle.mask.specs.Range.{count}
use Rattle.mask.specs.Mask.{bit}
use Rattle.mask.proofs.Range.{count-bound}
use Rattle.session.proofs.OpenLaws.{masks_next, counts-next, all_done}
use Rattle.session.specs.Opening.{open_masks, mask_counts}
use Rattle.session.proofs.open.open_all.Goals as goal

pub loop-j-init : goal.loop-j-init
unfolding spread open_masks mask_counts list_of
loop-j-init c = (refl, refl)

-- A mask of 16 bits has few values.
few : (m r : ℕ) → r ≡ count 16 (bit m) → r < 256
few m r e = omega (arith, count-bound 16 (bit m))

pub overflow_cast-counts : goal.overflow_cast-counts
overflow_cast-counts c = let k = few _ _ c.count_of.ensures in omega arith

pub loop-j-preserved : goal.loop-j-preserved
loop-j-preserved c =
    let l = c.loop-j in
    let b : l.j < 32 = search rules in (
      masks_next _ _ _ _ _ _ b l.invariant.0 c.open_mask-m.ensures,
      counts-next _ _ _ _ _ _ _ b l.invariant.1 c.open_mask-m.ensures c.count_of.ensures,
    )

pub returns : goal.returns
returns c = all_done _ _ _ _ _ _ (omega arith) c.is_stuck-closed.ensures c.loop-j.invariant.0 c.loop-j.invariant.1
