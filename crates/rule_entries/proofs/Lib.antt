-- Laws of the rules called alone.

-- Rules 2 and 3 on the words that a list is copied into.
pub mod CheckLaws
-- Rule 1 on these words.
pub mod ArcLaws
-- Rule 4's names.
pub mod NameLaws
-- From the arrays back to the file.
pub mod EntryLaws
