-- The session's calls by value, and what a history of calls reaches.

-- "A play adds at the next place, a take-back clears the last"; locks and unlocks; with the refusals 23, 20, 10, 21, 24 and 25.
pub mod Plays
-- "Open options", with the refusal 23.
pub mod Opening
-- The same over a file, which is read first.
pub mod Files
-- What each call tells of a file and a position, and the position that it leads to.
pub mod Told
-- Calls one after another, each on the position that the last one left.
pub mod History
