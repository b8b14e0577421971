use Rattle.buffer.specs.declared.Text.{Text}
use Rattle.buffer.specs.Put.{Put}
use Rattle.report_text.specs.Text.{options_text}
use Rattle.report_text.proofs.lines.put_options.Given as goal

-- With the lines of the values that are left, all are put.
abbrev pub invariant-loop-a : goal.invariant-loop-a
invariant-loop-a l = (u : Text) → Put l.t (options_text l.a-iterator.left l.winning 16) u → Put l.initial.t (options_text l.fn.domain l.winning 16) u
