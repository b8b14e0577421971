-- What every crate above shares: tests over a range of numbers, and sets of values as masks.

-- Some, each, how many and the first of the numbers below a bound.
pub mod Range
-- Bits, difference, and the mask of a test.
pub mod Mask
-- A call of `next` on the members of a mask.
pub mod Upward
-- The place that a search finds.
pub mod Found
