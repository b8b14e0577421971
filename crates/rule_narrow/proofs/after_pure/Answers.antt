use mathlib.Core.Path.{sym, ◌∙◌}
use Rattle.solver_arrays.proofs.WordLaws.{get_d_list_in}
use Rattle.rule_narrow.proofs.NextLaws.{leaves-pure, leaves_all}
use Rattle.rule_narrow.proofs.after_pure.Goals as goal

pub returns-then-used : goal.returns-then-used
returns-then-used c =
    λ P S. c.purged_values.ensures P _ _ (c.pure_values.ensures P S) (sym (get_d_list_in _ _ _ c.requires.0)) (c.contains.ensures ∙ sym (S.side _ c.requires.0))
    ∙ leaves-pure _ _ c.requires.0 _ P _ c.if-used.true

pub returns-else-used : goal.returns-else-used
returns-else-used c = λ P S. leaves_all _ _ c.requires.0 _ _ _ c.if-used.false
