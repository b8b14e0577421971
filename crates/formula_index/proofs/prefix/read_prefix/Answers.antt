use mathlib.Core.Path.{sym, ◌∙◌}
use native.Mathlib.Omega.{arith}
use Rattle.formula_index.proofs.MarkedLaws.{lined_stop, lined_more, lined_all}
use Rattle.formula_index.proofs.prefix.read_prefix.Goals as goal

pub returns-then-not-is_letter : goal.returns-then-not-is_letter
returns-then-not-is_letter c =
    let w = lined_stop c.loop.invariant c.loop-test.true c.byte_at-b.ensures (sym c.is_letter.ensures ∙ c.if-not-is_letter.true) in
    record { value = w.0; sides_after = w.1 }

pub loop-preserved : goal.loop-preserved
loop-preserved c =
    lined_more c.loop.invariant c.loop-test.true c.requires.1 c.byte_at-b.ensures (sym c.is_letter.ensures ∙ c.if-not-is_letter.false) c.read_line-q.ensures.value c.read_line-q.ensures.sides_after

pub returns : goal.returns
returns c = let w = lined_all c.loop.invariant (omega arith) in record { value = w.0; sides_after = w.1 }
