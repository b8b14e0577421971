-- Searching and judging a position.

-- "Then 8, 23, .., 12": what is tested of a rule set's number, a position and a room.
pub mod Tests
-- What judging tells, and what the room holds afterwards.
pub mod Judging
-- What a search finds: "The turn's statement names the list so reached, so a judge that ignores its set breaks it".
pub mod Searching
-- The same over the arrays of a problem.
pub mod Inner
