-- A file with three-way constraints, decoded.

-- The rows and the domain of a hidden variable, and one three-way constraint entered.
pub mod Tables
-- What arrays state when some of the three-way constraints are entered.
pub mod Stated
-- What decoding leaves in the arrays, and what an entry is given by it.
pub mod Decoded
