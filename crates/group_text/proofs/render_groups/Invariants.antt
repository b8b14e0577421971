use Rattle.buffer.specs.Stored.{joined}
use Rattle.buffer.specs.Put.{Put}
use Rattle.group_text.specs.Text.{group_line}
use Rattle.group_text.proofs.render_groups.Given as goal

abbrev pub invariant-loop-g : goal.invariant-loop-g
invariant-loop-g l = Put l.initial.t (joined (group_line l.groups.group l.n) l.g) l.t
