-- The claim: G1 to G10 and card 7's job hold.
pub mod SmallProblems
-- A test of rows that computes; rows that pass hold.
pub mod Check
-- What the entries tell of an accepted file, over its problem and the plays that stand.
pub mod Plain
-- The problem of an accepted file with the verdict put in, which small problems compute with.
pub mod Once
