use mathlib.Core.Path.{refl}
use Rattle.std.proofs.lemmas.Result.{err_from_is_err_and}
use Rattle.search_steps.proofs.EnterLaws.{enters_lost, enters_on}
use Rattle.search_steps.proofs.enter.Goals as goal

pub returns-in_err-run_rules : goal.returns-in_err-run_rules
returns-in_err-run_rules c =
    let r = err_from_is_err_and c.from_residual.result c.from_residual.ensures.1 in
    rw (r.1, r.2) (λ P st p s. enters_lost P _ _ st _ _ _ p _ c.requires.2 _ _ _ (c.in_err-run_rules.ensures.replies P st p s) refl _ _)

pub returns : goal.returns
returns c =
    λ P st p s. enters_on P _ _ st _ _ _ p _ c.requires.2 _ _ _ _ (c.in_ok-run_rules.ensures.replies P st p s) refl c.requires.1 _ _ c.uses.ensures c.uses-2.ensures c.narrow_next.ensures _ _ _ refl refl refl _
