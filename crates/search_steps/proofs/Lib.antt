-- The last turn's words and reply.
pub mod LastLaws
-- The rules of a turn and the narrowing of its variable, together.
pub mod EnterLaws
-- The list that a turn leaves is the one that its rules reach.
pub mod ReachLaws
-- The test of rule 6 after a loss below.
pub mod StepLaws
-- What the words of a turn give its rules.
pub mod StandLaws
-- What rule 1 of the turn above gives them.
pub mod SettledLaws
