use mathlib.Core.Path.{refl, ◌∙◌}
use Rattle.host.specs.Replayed.{replies_at, replay_of}
use Rattle.host.proofs.kb_replay.Goals as goal

pub returns : goal.returns
unfolding replies_at replay_of
returns c = let e = c.replay.ensures in c.from.ensures ∙ rw (e.marks_value, e.opened_value, e.masks_value.0, e.masks_value.1) refl
