use mathlib.Core.Path.{ap, ◌∙◌}
use mathlib.Core.List.{◌++◌}
use Rattle.search_words.proofs.ChildLaws.{hand_is}
use Rattle.search_words.proofs.room.hand_down.Goals as goal

pub returns : goal.returns
returns c =
    let o = c.split_at_mut-own.ensures in
    ap (λ y. c.split_at_mut-own.result.0.now ++ y) c.put_reason.ensures
    ∙ hand_is _ _ _ _ _ _ _ _ c.requires.1 c.requires.0 o.front o.back c.copy_from_slice.ensures.after c.single.ensures c.single-2.ensures
