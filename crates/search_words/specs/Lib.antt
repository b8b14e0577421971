-- The words of the search's turns in the room that they are lent.

-- Words cleared, handed down to the turn below, taken up from it.
pub mod TurnRoom
-- What a conflict set starts with.
pub mod TurnSets
