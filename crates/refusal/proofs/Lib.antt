-- Laws of chained tests.
pub mod Chain
-- What the tests make of a call.
pub mod RepliedLaws
-- The reason that a number tells.
pub mod Numbers
