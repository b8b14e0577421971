use mathlib.Core.Path.{sym, ◌∙◌}
use native.Mathlib.Omega.{arith}
use Rattle.search_steps.proofs.LastLaws.{all_played, skipped_told}
use Rattle.search_steps.proofs.broken_in.Goals as goal

pub returns-then-uses : goal.returns-then-uses
returns-then-uses c = λ P st p t. skipped_told P _ _ st _ _ p _ (λ k. omega (arith, c.type_inv.w k)) t (sym c.uses.ensures ∙ c.if-uses.true) c.if-below.true

pub returns : goal.returns
returns c = λ P st p t. c.first_broken.ensures P p st (all_played P _ _ st _ _ p _ (λ k. omega (arith, c.type_inv.w k)) t)
