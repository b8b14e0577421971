use Rattle.buffer.specs.Stored.{joined}
use Rattle.buffer.specs.Put.{Put}
use Rattle.group_text.specs.Text.{member_text}
use Rattle.group_text.proofs.put_group.Given as goal

abbrev pub invariant-loop-i : goal.invariant-loop-i
invariant-loop-i l = Put l.initial.t (joined (member_text l.groups.group l.g) l.i) l.t
