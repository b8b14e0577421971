use borrow.Author.Count.{below_none, below_more}
use lib.Bits.{bit_or}
use mathlib.Core.Path.{sym, ap₂, ◌∙◌}
use native.Mathlib.Omega.{arith}
use Rattle.std.specs.Prelude.{Some}
use Rattle.mask.proofs.Found.{found_some, found_none}
use Rattle.search_leaf.proofs.BrokenLaws.{told-broken, told_none}
use Rattle.search_leaf.proofs.first_broken.Goals as goal

pub loop-x-init : goal.loop-x-init
loop-x-init c = below_none _

pub single-requires-in-Some : goal.single-requires-in-Some
single-requires-in-Some c = let f = found_some 32 _ _ (sym c.in-Some.is ∙ c.first_clash.ensures) in omega arith

pub returns-in-Some : goal.returns-in-Some
returns-in-Some c = λ P p S Q.
    let f = found_some 32 _ _ (sym c.in-Some.is ∙ c.first_clash.ensures) in
    ap₂ (λ a b. Some (bit_or a b)) c.single.ensures c.single-in-Some.ensures
    ∙ told-broken P _ _ S _ p Q _ _ c.loop-x-test.true c.loop-x.invariant f.0 (omega arith)

pub loop-x-preserved : goal.loop-x-preserved
loop-x-preserved c = let f = found_none 32 _ (sym c.in_default.is ∙ c.first_clash.ensures) in below_more _ _ c.loop-x.invariant (λ l. omega arith)

pub returns : goal.returns
returns c = λ P p S Q. told_none P _ _ S _ p Q (λ k l. c.loop-x.invariant k (omega arith))
