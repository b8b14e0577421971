-- The file of a problem, written from the solver's arrays.

-- The constraints as numbers, over the arrays.
pub mod Listing
-- What writing tells and leaves.
pub mod Written
