use borrow.Author.Tests.{lt-ltb, le-ltb}
use mathlib.Core.Path.{sym, ◌∙◌}
use Rattle.search_rules.proofs.TurnLaws.{ahead_off}
use Rattle.search_rules.proofs.ahead_used.Goals as goal

pub returns-then-uses : goal.returns-then-uses
returns-then-uses c = ahead_off _ _ _ c.uses.ensures c.if-uses.true

pub returns-then-d-n : goal.returns-then-d-n
returns-then-d-n c = rw (sym c.uses.ensures ∙ c.if-uses.false, lt-ltb c.args.d c.args.n c.if-d-n.true) c.uses-then-d-n.ensures

pub returns-else-d-n : goal.returns-else-d-n
returns-else-d-n c = rw (sym c.uses.ensures ∙ c.if-uses.false, le-ltb c.args.d c.args.n c.if-d-n.false)
