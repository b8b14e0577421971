use Rattle.host_replies.proofs.ReplyLaws.{findings}
use Rattle.host_replies.proofs.games.SearchFindingsFromResultRanRefusal.from.Goals as goal

pub returns : goal.returns
returns c = rw (c.from-a.ensures, c.is_won.ensures, c.by_rules.ensures, c.conflict.ensures, c.unwrap_or-ran.ensures) (findings c.args.answer)
