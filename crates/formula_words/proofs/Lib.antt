-- What is coded of a variable is small.
pub mod CodingLaws
-- The text of literals, and literals put one behind another.
pub mod WordLaws
