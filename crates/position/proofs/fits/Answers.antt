use borrow.Author.Rules.{rules}
use borrow.Author.Tests.{lt-leb}
use mathlib.Core.Path.{refl, sym, ◌∙◌}
use Rattle.mask.proofs.Below.{all_below}
use Rattle.position.proofs.Fitting.{fits-few, plays_above, depth_above}
use Rattle.position.specs.Position.{fits_at}
use Rattle.position.proofs.fits.Goals as goal

pub returns-then-not-few : goal.returns-then-not-few
returns-then-not-few c = sym (plays_above c.args.p c.args.n _ c.if-not-few.true)

pub returns-then-within : goal.returns-then-within
unfolding fits_at
returns-then-within c =
    fits-few c.args.p c.args.n _ _ c.if-not-few.false c.if-within.true
    (all_below 32 (fits_at c.args.p c.args.domains.now) c.all.ensures.ran refl (λ x b q k. search rules))

pub returns-else-within : goal.returns-else-within
returns-else-within c = lt-leb c.args.p.depth c.args.p.plays c.if-within.false ∙ sym (depth_above c.args.p c.args.n _ c.if-within.false)
