-- Accepted files: what holds of one, for the crates above, which never open the definition.
pub mod Accepted
-- The longest file, and what stands behind it.
pub mod Longest
-- The rule set used.
pub mod UsedLaws
