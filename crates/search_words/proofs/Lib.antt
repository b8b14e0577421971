-- The room of a turn: where its words stand after each step of the search.
pub mod RoomLaws
-- What the turn below is handed, in the words of the game.
pub mod ChildLaws
-- Conflict sets against the game's.
pub mod SetLaws
-- Rules 1 to 3 keep reasons that are sets of the n variables.
pub mod ReasonBounds
