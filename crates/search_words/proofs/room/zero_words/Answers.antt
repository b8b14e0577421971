use borrow.Author.Rules.{rules}
use Rattle.search_words.proofs.RoomLaws.{zeroed_part}
use Rattle.search_words.proofs.room.zero_words.Goals as goal

pub returns : goal.returns
returns c = zeroed_part _ _ _ _ c.requires.0 c.requires.1 (c.fill.ensures.after (search rules))
