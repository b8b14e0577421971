-- A file's parts, and the bytes of what it holds.
pub mod Parts
-- A list that holds another at a place, and what the records that stand in a file say.
pub mod Held
-- A list of three-way constraints, record behind record.
pub mod Listed
-- What a file of written bytes holds.
pub mod Written
-- The two round trips, and which lists of bytes are accepted.
pub mod RoundTrip
