-- Which records, and so which files, are accepted.

-- The records one by one, each with its tests in the order in which they decide; then the whole file.
pub mod Records
-- What the tests of the variables and of the records TT hand out.
pub mod Tested
