use Prim.Native.Nat.{◌^◌}
use borrow.Author.Rules.{rules}
use mathlib.Core.Path.{ap, ◌∙◌}
use Rattle.session.proofs.OpenLaws.{open_chosen}
use Rattle.session.proofs.open.open_mask.Goals as goal

pub returns : goal.returns
returns c =
    open_chosen _ _ c.args.closed _ _ c.args.j _ _ _ _ _ (search rules)
    (c.single-own.ensures ∙ ap (λ a. 2 ^ a) c.value_at.ensures.0)
    c.going_with-going.ensures c.contains-whole.ensures
    c.choose-unplayed.ensures c.choose-usable.ensures c.choose.ensures
