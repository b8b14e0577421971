-- A three-way constraint's variables lie in one group.
pub mod TernaryGroups
-- What is told and left, by the tests.
pub mod EntryLaws
-- Theorems about files: each group's file is accepted and has one group, and a file is won exactly if all of its groups' files are.
pub mod FileGroups
