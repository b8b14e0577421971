use borrow.Author.Rules.{rules}
use mathlib.Core.Path.{refl, sym, ◌∙◌}
use Rattle.session.proofs.OpenLaws.{stuck-played, stuck-universal, stuck_existential}
use Rattle.session.proofs.open.stuck_at.Goals as goal

pub returns-then-j-p : goal.returns-then-j-p
returns-then-j-p c = stuck-played _ _ _ _ c.if-j-p.true c.play_clashes.ensures

pub returns-then-contains : goal.returns-then-contains
returns-then-contains c =
    stuck-universal _ _ _ _ _ _ (search rules) c.if-j-p.false (sym c.contains.ensures ∙ c.if-contains.true) c.going_with-left.ensures refl

pub returns : goal.returns
returns c =
    stuck_existential _ _ _ _ _ _ (search rules) c.if-j-p.false (sym c.contains.ensures ∙ c.if-contains.false) c.going_with-left.ensures refl
