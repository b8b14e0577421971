-- The groups of the problem that the arrays state.

-- "numbered from 0 by their smallest choice".
pub mod Labels
