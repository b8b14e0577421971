-- Rules 2, 1 and 3 of a turn on its words.

-- Their reply in numbers.
pub mod Reply
-- What they reply and leave.
pub mod RuledTurn
