use mathlib.Core.Path.{ap, ◌∙◌}
use Rattle.std.specs.Option.{unwrap_or}
use Rattle.file_reader.proofs.UsedLaws.{used_is}
use Rattle.file_reader.proofs.used.rules_used.Goals as goal

pub returns : goal.returns
returns c = c.unwrap_or.ensures ∙ ap (unwrap_or c.args.rules) c.number.ensures ∙ used_is c.args.rules
