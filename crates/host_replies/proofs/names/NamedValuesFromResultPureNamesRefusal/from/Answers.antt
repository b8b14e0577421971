use Rattle.host_replies.proofs.ReplyLaws.{named_values}
use Rattle.host_replies.proofs.names.NamedValuesFromResultPureNamesRefusal.from.Goals as goal

pub returns : goal.returns
returns c = rw (c.from-a.ensures, c.unwrap_or-pure.ensures) (named_values c.args.answer)
