use mathlib.Core.Path.{refl}
use Rattle.session.proofs.OpenLaws.{play_clash}
use Rattle.session.proofs.open.play_clashes.Goals as goal

pub returns : goal.returns
returns c = play_clash _ _ _ _ _ _ _ c.value_at.ensures.0 c.single-own.ensures c.going_with-kept.ensures refl
