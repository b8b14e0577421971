-- Rule 1 on the words of a turn.

-- The loss and its conflict set, as the code finds them.
pub mod Loss
-- What rule 1 replies and leaves.
pub mod ArcRule
