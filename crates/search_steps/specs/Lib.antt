-- The steps of a search's turn, and the last turn, in the words that they are lent.

-- What a turn replies, and what it leaves in the room.
pub mod TurnReply
-- What its steps reply and leave.
pub mod TurnSteps
