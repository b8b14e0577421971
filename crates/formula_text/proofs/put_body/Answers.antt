use borrow.Author.Rules.{rules}
use mathlib.Core.Path.{refl}
use Rattle.formula_text.proofs.BodyLaws.{body_put}
use Rattle.formula_text.proofs.put_body.Goals as goal

pub returns : goal.returns
returns c = body_put _ c.put_prefix.ensures refl c.put_existentials.ensures c.put_constraints.ensures c.put_closing.ensures (search rules)
