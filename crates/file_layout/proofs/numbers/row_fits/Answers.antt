use mathlib.Core.Path.{sym, ◌∙◌}
use Rattle.mask.proofs.Masks.{empty-each}
use Rattle.file_layout.specs.Numbers.{row_fits}
use Rattle.file_layout.proofs.numbers.row_fits.Goals as goal

pub returns-then-contains : goal.returns-then-contains
unfolding row_fits
returns-then-contains c = rw (sym c.contains.ensures ∙ c.if-contains.true) c.within.ensures

pub returns-else-contains : goal.returns-else-contains
unfolding row_fits
returns-else-contains c = rw (sym c.contains.ensures ∙ c.if-contains.false) (empty-each 16 c.args.row c.ranges.row.fits)
