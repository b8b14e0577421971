use native.Mathlib.Omega.{arith}
use lib.Dec.{ltb}
use Rattle.mask.proofs.Masks.{mask_of_lt}
use Rattle.ternary_decoder.specs.Tables.{places_of}
use Rattle.ternary_decoder.proofs.MaskLaws.{places_below, all_places}
use Rattle.ternary_decoder.proofs.rows.places_of.Goals as goal

pub overflow_cast-result : goal.overflow_cast-result
overflow_cast-result c =
    let e = places_below _ c.everyone.result c.everyone.type_inv c.everyone.ensures c.if-size-lt16.true in
    omega (arith, mask_of_lt 16 (λ x. ltb x c.size-size.result))

pub returns-then-size-lt16 : goal.returns-then-size-lt16
unfolding places_of
returns-then-size-lt16 c = let e = c.size-size.ensures in rw (← e) (places_below _ _ c.everyone.type_inv c.everyone.ensures c.if-size-lt16.true)

pub returns-else-size-lt16 : goal.returns-else-size-lt16
unfolding places_of
returns-else-size-lt16 c = let e = c.size-size.ensures in rw (← e) (all_places _ c.if-size-lt16.false)
