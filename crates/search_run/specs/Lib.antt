-- One inner run of the search, from a position.

-- The words of its first turn.
pub mod FirstTurn
-- What a run finds, and the room that it needs.
pub mod Run
