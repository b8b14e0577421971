-- The words of a run's first turn, and runs of words in 32 places.
pub mod FirstLaws
-- A run's outcome, and its room.
pub mod RunLaws
