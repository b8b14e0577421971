-- Rows of whole masks, a member at a time.
pub mod RowLaws
-- The words of a turn.
pub mod WordLaws
-- Arrays that state a problem over its variables.
pub mod PosedLaws
-- The values of a variable that go with values played.
pub mod GoingLaws
-- What the arrays state of the neighbours.
pub mod Stated
-- Words that are all zero.
pub mod EmptyLaws
