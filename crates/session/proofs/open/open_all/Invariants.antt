use mathlib.Core.Path.{◌≡◌}
use Rattle.game.specs.Lists.{spread}
use Rattle.session.specs.Opening.{open_masks, mask_counts}
use Rattle.session.proofs.open.open_all.Given as goal

abbrev pub invariant-loop-j : goal.invariant-loop-j
invariant-loop-j l =
    (l.masks ≡ spread (open_masks l.arrays l.p l.closed l.j)) × (l.counts ≡ spread (mask_counts l.arrays l.p l.closed l.j))
