-- The first clash of all in a problem that the arrays state: its first broken constraint.
pub mod BrokenLaws
-- The words with a leaf put in.
pub mod LeafWords
