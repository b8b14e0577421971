-- A turn over its words: the game's search by the rules' reply, and the turn below.
pub mod TurnLaws
-- The room between two values of a turn, and what it leaves.
pub mod RoomTurns
-- What the loop of a turn keeps.
pub mod LoopLaws
-- A whole turn, step by step.
pub mod WholeTurn
