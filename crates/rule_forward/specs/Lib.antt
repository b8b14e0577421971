-- Rules 2 and 3 on the words of a turn.

-- The check of a value against one later variable, and against a mask of them.
pub mod OneValue
-- What the functions of the two rules reply and leave.
pub mod Replies
