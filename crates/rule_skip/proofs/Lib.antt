-- The values that are left of i, a neighbour at a time; pairs, a neighbour at a time.
pub mod BoxLaws
-- Rule 7 in a problem that the arrays state.
pub mod SkipLaws
