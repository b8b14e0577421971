-- The text of a problem's formula, over the decoded arrays.

-- The lines of the prefix, and all lines behind the first.
pub mod Body
-- What measuring and writing reply, for the problem that the arrays state.
pub mod Written
