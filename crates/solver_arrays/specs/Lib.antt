-- The solver's arrays and words, and what they state of a problem.

-- The blocks that the index names.
pub mod Blocks
-- The arrays that an accepted file is decoded into: neighbours, an index by pair, rows in both directions.
pub mod Arrays
-- The words of a turn: n domains, n reasons, and what else stands there.
pub mod Words
-- The values of a variable that go with values played.
pub mod Going
