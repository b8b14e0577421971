use borrow.Author.Rules.{rules}
use borrow.Author.Tests.{tests}
use mathlib.Core.Path.{refl, ◌∙◌}
use native.Mathlib.Omega.{arith}
use Rattle.std.proofs.lemmas.Iterator.{YieldsList-from_range}
use Rattle.std.proofs.lemmas.Iterator.Search.{any_from_yields_List}
use Rattle.session.specs.Opening.{cause_at, stuck_to}
use Rattle.mask.proofs.Below.{any_below}
use Rattle.session.proofs.open.is_stuck.Goals as goal

pub returns : goal.returns
unfolding stuck_to
returns c =
    let a = c.args in
    any_from_yields_List (cause_at a.arrays.now a.p) _ _ _ c.any.ensures.ran (YieldsList-from_range 0 a.arrays.now.own a.arrays.now.own refl (omega arith)) (λ x b q k. search (rules, tests))
    ∙ any_below _ _
