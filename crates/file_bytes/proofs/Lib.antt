-- How long each record is, and a record stored behind those before it.
pub mod RecordLaws
-- The records of a list of three-way constraints, one behind another.
pub mod WalkLaws
