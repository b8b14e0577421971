-- What the solver reads of an accepted file beside the reading's reply.

-- "`CT`: bytes i and j with i < j < n, then 16 rows of two bytes": the constraints by their numbers.
pub mod Constraints
-- Document 02, card 7: "bytes i < j < k < n, a count of 1 to 16, and that many good triples": the three-way constraints by their places.
pub mod Ternaries
-- "Bit b of row a set: option a of choice i goes with option b of choice j"; "a pair without a table is free": any two variables.
pub mod Pairs
