-- The small problems G1 to G10 of document 01 and the 31-byte job of card 7, as a table.

-- Problem files laid out from their variables and constraints ("The job file").
pub mod Files
-- What a row of the table asks, and what the entries tell.
pub mod Questions
-- The rows ("Small jobs").
pub mod Table
-- What it means that a row holds.
pub mod Claim
