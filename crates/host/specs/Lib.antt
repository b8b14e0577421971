-- What the entries for a C host take and reply beside what the entries below say.

-- "position as numbers": a position from the number of plays, the lock depth and four numbers.
pub mod Unpack
-- The rule set that the writer is handed.
pub mod Handed
-- The judging program's text in a caller's buffer.
pub mod Text
-- What a replay replies.
pub mod Replayed
