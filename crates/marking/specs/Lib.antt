-- Marks of a position.

-- Which values win, over the arrays of a problem.
pub mod Marks
-- What is told, and what the room holds afterwards.
pub mod Marking
