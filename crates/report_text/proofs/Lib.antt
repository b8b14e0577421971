-- How long the texts are at most.
pub mod TextLaws
-- Document 01's own lines.
pub mod Samples
