-- The clauses of a problem's formula, over the decoded arrays.

-- Clauses put into a buffer, and counted.
pub mod Lines
-- The clauses of a clash, a constraint, all constraints, the existential variables.
pub mod Clauses
