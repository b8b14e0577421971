-- What is read of a formula's text.

-- A literal at a place.
pub mod Reading
-- The sides of booleans, as a prefix gives them.
pub mod Marked
-- The clauses of each last boolean as a chain.
pub mod Chains
