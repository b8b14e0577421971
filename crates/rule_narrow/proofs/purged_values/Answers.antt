use mathlib.Core.Path.{sym, ◌∙◌}
use Rattle.rule_narrow.proofs.PurgeLaws.{others_stay, one_stays, all_stay, pure_stays}
use Rattle.rule_narrow.proofs.purged_values.Goals as goal

pub returns-then-others-eq0 : goal.returns-then-others-eq0
returns-then-others-eq0 c = λ P x l p d s. c.smallest_of.ensures ∙ one_stays P x l _ _ p d c.ranges.domain.fits (sym s ∙ c.if-universal.true) (sym c.difference-others.ensures ∙ c.if-others-eq0.true)

pub returns-else-others-eq0 : goal.returns-else-others-eq0
returns-else-others-eq0 c = λ P x l p d s. c.difference-others.ensures ∙ others_stay P x l _ _ p d c.ranges.domain.fits (sym s ∙ c.if-universal.true) (λ z. c.if-others-eq0.false (c.difference-others.ensures ∙ z))

pub returns-then-pure-eq0 : goal.returns-then-pure-eq0
returns-then-pure-eq0 c = λ P x l p d s. all_stay P x l _ _ p d c.ranges.domain.fits (sym s ∙ c.if-universal.false) c.if-pure-eq0.true

pub returns-else-pure-eq0 : goal.returns-else-pure-eq0
returns-else-pure-eq0 c = λ P x l p d s. c.smallest_of-else-pure-eq0.ensures ∙ pure_stays P x l _ _ p d c.ranges.domain.fits (sym s ∙ c.if-universal.false) c.if-pure-eq0.false
