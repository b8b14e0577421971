use borrow.Author.Tests.{ne_eqb, eq-eqb}
use Rattle.game.specs.Lists.{within}
use Rattle.rule_lend.specs.Lend.{mask_fits}
use Rattle.rule_lend.proofs.mask_fits.Goals as goal

pub returns-then-m-ne0 : goal.returns-then-m-ne0
unfolding mask_fits within
returns-then-m-ne0 c = rw (ne_eqb _ _ c.if-m-ne0.true)

pub returns-else-m-ne0 : goal.returns-else-m-ne0
unfolding mask_fits
returns-else-m-ne0 c = rw (eq-eqb _ _ c.if-m-ne0.false)
