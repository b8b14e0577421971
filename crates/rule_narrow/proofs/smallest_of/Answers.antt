use Prim.Native.Nat.{◌^◌}
use borrow.Author.Rules.{rules}
use mathlib.Core.Path.{sym, ap, ◌∙◌}
use Rattle.game.specs.Pure.{lowest}
use Rattle.mask.proofs.Members.{low_lt}
use Rattle.mask.specs.Mask.{bit, mask_of}
use Rattle.rule_narrow.proofs.PurgeLaws.{smallest_none, smallest_some}
use Rattle.rule_narrow.proofs.smallest_of.Goals as goal

pub returns-then-m-eq0 : goal.returns-then-m-eq0
returns-then-m-eq0 c = sym (ap (λ m. mask_of 16 (lowest (bit m))) c.if-m-eq0.true ∙ smallest_none)

pub single-requires : goal.single-requires
single-requires c = let l = low_lt 16 _ c.ranges.m.fits c.if-m-eq0.false in search rules

pub returns-else-m-eq0 : goal.returns-else-m-eq0
returns-else-m-eq0 c = c.single.ensures ∙ ap (λ k. 2 ^ k) c.lowest.ensures ∙ smallest_some _ c.ranges.m.fits c.if-m-eq0.false
