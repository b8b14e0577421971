-- The tests over a problem's domains and over the file's.
pub mod TestLaws
-- What is told and left, by the tests and the run.
pub mod JudgeLaws
