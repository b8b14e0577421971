-- Rule 1's removals on the words of a turn.

-- Loops over the members of a mask.
pub mod Over
-- A revision, a look, a pass and passes until nothing waits, as the code runs them.
pub mod Passes
