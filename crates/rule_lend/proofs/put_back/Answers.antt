use mathlib.Core.Path.{◌∙◌}
use native.Mathlib.Omega.{arith}
use Rattle.rule_lend.proofs.LendLaws.{front_in}
use Rattle.rule_lend.proofs.put_back.Goals as goal

pub returns : goal.returns
returns c = c.copy_from_slice.ensures.after ∙ front_in _ c.args.w.now (omega arith)
