use mathlib.Core.Path.{refl, sym}
use native.Mathlib.Omega.{arith}
use lib.Seq.{length-take-le}
use Rattle.problem_writer.proofs.ListingLaws.{listed_fits, listed_front}
use Rattle.problem_writer.proofs.PosedNumbers.{posed_handed}
use Rattle.problem_writer.proofs.WrittenLaws.{posed_written}
use Rattle.problem_writer.proofs.write_problem.Goals as goal

-- The constraints lie within the numbers.
pub overflow_mul-numbers : goal.overflow_mul-numbers
overflow_mul-numbers c = omega (arith, listed_fits c.list_constraints-count.ensures)

pub slice_bounds-numbers-end : goal.slice_bounds-numbers-end
slice_bounds-numbers-end c = omega (arith, listed_fits c.list_constraints-count.ensures, c.list_constraints-count.array_long)

pub slice_bounds-write-end-2 : goal.slice_bounds-write-end-2
slice_bounds-write-end-2 c = sym (length-take-le _ _ (omega (arith, listed_fits c.list_constraints-count.ensures, c.list_constraints-count.array_long)))

pub returns : goal.returns
returns c P h =
    let l = c.list_constraints-count.ensures in
    posed_written P _ h _ c.requires.set _ (posed_handed P _ h _ _ _ _ _ l.counted c.universal_bits.ensures refl (listed_front _ _ refl l)) _ _ _ c.write.ensures.result_value c.write.ensures.buf_after
