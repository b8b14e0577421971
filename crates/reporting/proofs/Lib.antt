-- What judging and marking tell before any play, and the text of an accepted file.
pub mod ReportLaws
-- The text of an input longer than the longest file.
pub mod LongInput
