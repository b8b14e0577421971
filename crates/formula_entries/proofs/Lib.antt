-- What is told and left, by the tests.
pub mod EntryLaws
-- Theorems about files: the text has the verdict of the file's game with three-way constraints, and judging tells it.
pub mod FileFormula
