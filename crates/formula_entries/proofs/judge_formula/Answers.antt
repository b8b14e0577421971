use borrow.Author.Rules.{rules}
use mathlib.Core.Path.{◌≡◌, sym, ap, ◌∙◌}
use lib.ListN.{length}
use lib.Seq.{length-take-le}
use Rattle.std.specs.Prelude.{Err}
use Rattle.formula_entries.specs.Told.{told, told_judged}
use Rattle.formula_entries.proofs.EntryLaws.{Wrote, wrote, within, judge_refuses, judge_told_lem}
use Rattle.formula_entries.proofs.judge_formula.Goals as goal
use Rattle.formula_entries.proofs.judge_formula.Goals.{In_ok-length}

-- What is known of a written text.
text-written : (c : In_ok-length) → let a = c.args in Wrote a.f.now (length a.buf.now) c.in_ok-length.length
text-written c = wrote _ _ _ (sym (ap told c.in_ok-length.was) ∙ c.write_formula.ensures.result_value)

pub slice_bounds-judge_text-end : goal.slice_bounds-judge_text-end
slice_bounds-judge_text-end c = within _ _ _ _ (text-written (goal.at.slice_bounds-judge_text-end c).In_ok-length) c.write_formula.ensures.buf_after

pub slice_bounds-judge_text-end-2 : goal.slice_bounds-judge_text-end-2
slice_bounds-judge_text-end-2 c = sym (length-take-le _ _ (within _ _ _ _ (text-written (goal.at.slice_bounds-judge_text-end-2 c).In_ok-length) c.write_formula.ensures.buf_after))

pub returns-in_err-length-clause-result_value : goal.returns-in_err-length-clause-result_value
returns-in_err-length-clause-result_value c =
    let q : c.from_residual.result ≡ Err c.in_err-length.field-0.0 = search rules in
    ap told_judged q ∙ judge_refuses _ _ _ (sym (ap told c.in_err-length.was) ∙ c.write_formula.ensures.result_value)

pub returns-clause-result_value : goal.returns-clause-result_value
returns-clause-result_value c =
    judge_told_lem _ _ _ _ (text-written (goal.at.returns-clause-result_value c).In_ok-length) c.write_formula.ensures.buf_after c.judge_text-won.result c.judge_text-won.ensures
