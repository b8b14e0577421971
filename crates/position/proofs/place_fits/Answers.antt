use mathlib.Core.Path.{sym, ◌∙◌}
use Rattle.position.proofs.Fitting.{place-played, place_unplayed}
use Rattle.position.proofs.place_fits.Goals as goal

pub returns-then-i-plays : goal.returns-then-i-plays
returns-then-i-plays c = c.holds.ensures ∙ sym (place-played _ _ _ _ c.if-i-plays.true)

pub returns-else-i-plays : goal.returns-else-i-plays
returns-else-i-plays c = sym (place_unplayed _ _ _ _ c.if-i-plays.false)
