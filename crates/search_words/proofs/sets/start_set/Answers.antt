use Rattle.search_words.proofs.SetLaws.{start_wide, start-own}
use Rattle.search_words.proofs.sets.start_set.Goals as goal

pub returns-then-narrowed : goal.returns-then-narrowed
returns-then-narrowed c = λ P l e st h below i. start_wide P _ _ st _ below _ h l e _ _ _ c.if-narrowed.true c.reason-own.ensures c.near_reasons.ensures i

pub returns-else-narrowed : goal.returns-else-narrowed
returns-else-narrowed c = λ P l e st h below i. start-own P _ _ st _ below _ h l e _ _ c.if-narrowed.false c.reason-own.ensures i
