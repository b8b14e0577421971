-- Clauses put one behind another.
pub mod LineLaws
