use borrow.Author.Rules.{rules}
use native.Mathlib.Omega.{arith}
use Rattle.search_words.proofs.RoomLaws.{leaf_is}
use Rattle.search_words.proofs.room.take_leaf.Goals as goal

pub returns : goal.returns
returns c =
    let o = c.split_at_mut-own.ensures in
    leaf_is _ _ _ c.requires o.front o.back _ _ _ (omega arith) c.copy_from_slice.ensures.after (c.fill.ensures.after (search rules))
