-- A position with one play more.
pub mod PlayedLaws
-- The loop over the next variable's values.
pub mod MarkLaws
-- What is told and left.
pub mod ReplyLaws
