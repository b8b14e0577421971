-- The problem that an accepted file states, and the arrays that it is decoded into.

-- The problem, of the reading's domains and universal variables and of what the look-ups show, with its three-way constraints, and its ordinary problem.
pub mod FileProblem
-- The arrays after so many constraints.
pub mod Tables
-- What decoding leaves in the arrays, and what an entry is given by it.
pub mod Decoded
-- A file read first, then what it states.
pub mod Read
