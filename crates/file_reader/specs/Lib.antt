-- Reading problem files.

-- "Reading replies n, m, the rule set or none, the day bits and the masks", or one refusal.
pub mod Reading
-- What the tests of a whole file hand out.
pub mod Parts
-- The rule set that is used: the file's, else USUAL.
pub mod Used
