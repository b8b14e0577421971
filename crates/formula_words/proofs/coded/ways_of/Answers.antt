use mathlib.Core.Path.{◌∙◌}
use native.Mathlib.Nat.{mod-eq_of_lt, one-mul}
use native.Mathlib.Omega.{arith}
use Rattle.formula.proofs.BitLaws.{power}
use Rattle.formula_words.proofs.CodingLaws.{ways-universal, ways_existential}
use Rattle.formula_words.proofs.coded.ways_of.Goals as goal

pub returns-then-universal : goal.returns-then-universal
returns-then-universal c =
    let p = power _ c.bits_for.ensures.1 in
    ways-universal _ _ _ _ c.if-universal.true c.bits_for.ensures.0 (mod-eq_of_lt (omega arith) ∙ one-mul _)

pub returns-else-universal : goal.returns-else-universal
returns-else-universal c = ways_existential _ _ c.if-universal.false
