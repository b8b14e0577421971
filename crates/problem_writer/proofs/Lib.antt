-- The universal variables, the numbers of a constraint and all constraints, as the code puts them.
pub mod ListingLaws
-- The numbers over arrays that state a problem are those of the problem.
pub mod PosedNumbers
-- What the writer tells and leaves of these numbers.
pub mod WrittenLaws
