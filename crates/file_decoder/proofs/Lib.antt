-- Runs of words stored one behind another.
pub mod Runs
-- The words of one pair that is given a constraint.
pub mod Pairs
-- The arrays after so many constraints, place by place.
pub mod Entered
-- The problem of an accepted file: its size and its domains.
pub mod FileLaws
-- The arrays of an accepted file state its problem.
pub mod Stated
-- A file read first.
pub mod ReadLaws
